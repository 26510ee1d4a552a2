use Rattle.std.proofs.Common.{◌≡◌, ◌<◌, length, Some, None, vec_items, sym, subst, ◌∙◌, arith, rules}
use Rattle.std.proofs.lemmas.Bool.Decides.{nat_tests}
use Rattle.std.specs.List.{slice_split}
use Rattle.names.specs.Book.{texts, limits}
use Rattle.names.specs.Names.{Limits}
use Rattle.script.specs.Parts.{split_once}
use Rattle.console.specs.Actions.{is_comma}
use Rattle.console.specs.Reader.{given, each, entity}
use Rattle.console.proofs.Commas.{cut_first, cut_none, shorter_part, filled}
use Rattle.console.proofs.EachRead.{Under, one_read}
use Rattle.console.proofs.reader.Reader.entities.Goals.{In-Some, In_default}
use Rattle.console.proofs.reader.Reader.entities.Goals as goal

-- The first part that is left.
first_part : (c : In-Some) → Some (c.in-Some.part.now, c.in-Some.behind.now) ≡ split_once 44 c.loop-part.rest.now
first_part c = search rules

-- It is the last.
last_part : (c : In_default) → None ≡ split_once 44 c.loop-part.rest.now
last_part c = search rules

pub returns-in_err-entity-clause-entities : goal.returns-in_err-entity-clause-entities
returns-in_err-entity-clause-entities c =
    let long : 0 < length c.args.word.now = grind (arith, nat_tests) in
    let whole = filled (limits c.args.self.now.book) (texts c.args.self.now.book) c.args.word.now long in
    let cut = cut_first c.loop-part.rest.now c.in-Some.part.now c.in-Some.behind.now (first_part (goal.at.returns-in_err-entity-clause-entities c).In-Some) in
    search (rules, whole, cut)

pub loop-part-smaller : goal.loop-part-smaller
loop-part-smaller c = shorter_part c.loop-part.rest.now _ (first_part (goal.at.loop-part-smaller c).In-Some)

pub loop-part-preserved : goal.loop-part-preserved
loop-part-preserved c =
    let ls = limits c.args.self.now.book in
    let whole = each (entity ls) (texts c.args.self.now.book) (slice_split is_comma c.args.word.now) in
    let items = vec_items c.loop-part.list in
    let cut = cut_first c.loop-part.rest.now c.in-Some.part.now c.in-Some.behind.now (first_part (goal.at.loop-part-preserved c).In-Some) in
    let under = subst (Under (entity ls) whole items (texts c.loop-part.self.book)) cut c.loop-part.invariant.1 in
    let read = subst (λ (l : Limits). entity l (texts c.loop-part.self.book) c.in-Some.part.now ≡ given c.in_ok-entity.field-0 (texts c.entity.new.self.book))
    c.loop-part.invariant.0 c.in_ok-entity.ensures.entity in (
      c.entity.ensures.limits ∙ c.loop-part.invariant.0,
      subst (λ es. Under (entity ls) whole es (texts c.entity.new.self.book) (slice_split is_comma c.in-Some.behind.now)) (sym c.in_ok-push.ensures.items)
          (one_read (entity ls) whole items (texts c.loop-part.self.book) (slice_split is_comma c.in-Some.behind.now) c.in-Some.part.now c.in_ok-entity.field-0
          (texts c.entity.new.self.book) under read),
    )

pub returns-in_err-entity-2-clause-entities : goal.returns-in_err-entity-2-clause-entities
returns-in_err-entity-2-clause-entities c =
    let long : 0 < length c.args.word.now = grind (arith, nat_tests) in
    let whole = filled (limits c.args.self.now.book) (texts c.args.self.now.book) c.args.word.now long in
    let cut = cut_none c.loop-part.rest.now (last_part (goal.at.returns-in_err-entity-2-clause-entities c).In_default) in
    search (rules, whole, cut)

pub returns-clause-entities : goal.returns-clause-entities
returns-clause-entities c =
    let long : 0 < length c.args.word.now = grind (arith, nat_tests) in
    let whole = filled (limits c.args.self.now.book) (texts c.args.self.now.book) c.args.word.now long in
    let cut = cut_none c.loop-part.rest.now (last_part (goal.at.returns-clause-entities c).In_default) in
    search (rules, whole, cut)
