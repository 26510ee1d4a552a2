use Rattle.std.proofs.Common.{◌∙◌}
use Rattle.policy.proofs.Within.{parts_slots}
use Rattle.policy.proofs.condition_slots.condition_slots.Goals as goal

pub returns : goal.returns
returns g c =
    c.slots_of.ensures
    ∙ parts_slots (g.B.ClauseBook.listed c.args.clauses.now) (g.met.B.ClauseBook.lawful c.args.clauses.now) c.args.t.now
