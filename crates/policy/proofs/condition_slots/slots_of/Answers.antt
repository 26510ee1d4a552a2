use Rattle.std.proofs.Common.{◌&&◌}
use Rattle.refusals.specs.declared.slots.SlotId.TheVariants.{Principal, Resource}
use Rattle.policy.specs.Filling.{slotted}
use Rattle.policy.specs.Slots.{slot_equal}
use Rattle.policy.specs.Mentions.{clause_has}
use Rattle.refusals.proofs.Sets.{three_sets}
use Rattle.policy.proofs.condition_slots.slots_of.Goals as goal

pub returns : goal.returns
returns g c =
    three_sets
    (λ slot. slotted c.args.principal && slot_equal slot Principal)
    (λ slot. slotted c.args.resource && slot_equal slot Resource)
    (clause_has (g.B.ClauseBook.listed c.args.clauses.now) c.args.clause)
    c.scope_slots.ensures c.scope_slots-2.ensures c.clause_slots.ensures c.union.ensures.set c.union-2.ensures.set
