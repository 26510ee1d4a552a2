use Rattle.refusals.specs.Slots.{minus}
use Rattle.refusals.proofs.Bits.{minus_bits}
use Rattle.refusals.proofs.Sets.{slot_sets}
use Rattle.refusals.proofs.slots.SlotSet.minus.Goals as goal

pub returns : goal.returns
returns c =
    slot_sets _ (minus c.args.self c.args.other) (minus_bits c.args.self.bits c.args.other.bits c.args.self.two_bits c.args.other.two_bits)
