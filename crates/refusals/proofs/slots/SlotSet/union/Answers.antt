use Rattle.std.proofs.lemmas.Nat.{or_lt}
use Rattle.refusals.specs.Slots.{union}
use Rattle.refusals.proofs.Bits.{union_bits}
use Rattle.refusals.proofs.Sets.{slot_sets}
use Rattle.refusals.proofs.slots.SlotSet.union.Goals as goal

pub invariant_of-result : goal.invariant_of-result
invariant_of-result c =
    record {
      two_bits = or_lt 2 c.args.self.bits c.args.other.bits c.args.self.two_bits c.args.other.two_bits;
    }

pub returns-clause-set : goal.returns-clause-set
returns-clause-set c =
    slot_sets _ (union c.args.self c.args.other) (union_bits c.args.self.bits c.args.other.bits c.args.self.two_bits c.args.other.two_bits)
