-- The sets of slots, and the slots that have a value.
use Rattle.std.specs.Prelude.{Bool, is_some}
use Rattle.refusals.specs.declared.slots.SlotId.{SlotId}
use Rattle.refusals.specs.declared.slots.SlotId.TheVariants.{Principal, Resource}
pub use Rattle.refusals.specs.Slots.{has_bit, has, slot_equal, set_of, slots_where, union, minus, first_slot}
use Rattle.policy.specs.declared.values.SlotEnv.{SlotEnv}

-- Whether a slot has a value.
abbrev pub bound : SlotEnv → SlotId → Bool
bound env Principal = is_some env.principal
bound env Resource = is_some env.resource
