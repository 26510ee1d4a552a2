use Rattle.std.proofs.Common.{ap, ◌∙◌, rules}
use Rattle.names.specs.Names.{Limits}
use Rattle.names.specs.Kept.{limits_of}
use Rattle.clauses.specs.Contents.{held}
use Rattle.clauses.proofs.Holding.{entered_next, still_short}
use Rattle.clauses.proofs.contents.ContentBook.put.Goals as goal

pub invariant_of-self : goal.invariant_of-self
invariant_of-self g c =
    let b = c.args.self.now in record {
      places = ap (λ (l : Limits). l.places) c.enter.ensures.limits ∙ b.places;
      room = ap (λ (l : Limits). l.room) c.enter.ensures.limits ∙ b.room;
      short = still_short (held b) c.args.content.now g.row.LONGEST b.short c.requires c.enter.result _ c.enter.ensures.kept;
    }

pub returns-in_err-number-clause-answer : goal.returns-in_err-number-clause-answer
returns-in_err-number-clause-answer g c =
    let b = c.args.self.now in
    let next = entered_next (held b) c.args.content.now g.row.LONGEST b.short c.requires (limits_of b.contents) b.places b.room in
    search (rules, next)
