use Rattle.std.proofs.Common.{sym, refl, ◌∙◌, arith}
use Rattle.names.specs.Book.{texts, limits}
use Rattle.names.proofs.Keeping.{kept_count}
use Rattle.names.proofs.Names.{number_reads}
use Rattle.names.proofs.Naming.{owed_long, owed_found, owed_full, owed_entered}
use Rattle.names.proofs.kept.NameBook.name.Goals as goal

pub returns-then-text-gt-LONGEST : goal.returns-then-text-gt-LONGEST
returns-then-text-gt-LONGEST c =
    let w = owed_long (limits c.args.self.now) (texts c.args.self.now) c.args.text.now c.args.self.now.distinct c.if-text-gt-LONGEST.true in
    record { answer = w.answers; after = w.leaves; limits = refl; laws = w.laws }

pub overflow_cast-result : goal.overflow_cast-result
overflow_cast-result c =
    let n = number_reads c.args.text.now (texts c.args.self.now) c.in-Some.n (sym c.in-Some.ensures) in
    omega (arith, n.0, kept_count c.args.self.now.texts, c.args.self.now.texts.few, c.args.self.now.most_places)

pub returns-in-Some : goal.returns-in-Some
returns-in-Some c =
    let w = owed_found (limits c.args.self.now) (texts c.args.self.now) c.args.text.now c.in-Some.n c.args.self.now.distinct
    c.if-text-gt-LONGEST.false (sym c.in-Some.ensures) in
    record { answer = w.answers; after = w.leaves; limits = refl; laws = w.laws }

pub returns-then-not-has_room_for : goal.returns-then-not-has_room_for
returns-then-not-has_room_for c =
    let w = owed_full (limits c.args.self.now) (texts c.args.self.now) c.args.text.now c.args.self.now.distinct
    c.if-text-gt-LONGEST.false (sym c.in_default.ensures) (sym c.has_room_for.ensures ∙ c.if-not-has_room_for.true) in
    record { answer = w.answers; after = w.leaves; limits = refl; laws = w.laws }

pub returns : goal.returns
returns c =
    let w = owed_entered (limits c.args.self.now) (texts c.args.self.now) (texts c.enter.new.self) c.args.text.now
    c.count-number.result c.args.self.now.distinct c.if-text-gt-LONGEST.false (sym c.in_default.ensures)
    (sym c.has_room_for.ensures ∙ c.if-not-has_room_for.false)
    c.count-number.ensures.count c.enter.ensures.texts in
    record { answer = w.answers; after = w.leaves; limits = c.enter.ensures.limits; laws = w.laws }
