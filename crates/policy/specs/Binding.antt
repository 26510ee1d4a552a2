-- Values and the slots that they fill.
use Rattle.std.specs.Prelude.{ℕ, ◌+◌, Bool, true, Some, None, Option, ◌==◌}
use Rattle.names.specs.declared.entity.EntityUID.{EntityUID}
use Rattle.policy.specs.declared.values.SlotEnv.{SlotEnv}

-- The bit of a slot that has a value.
abbrev pub value_bit : ℕ → Option EntityUID → ℕ
value_bit bit None = 0
value_bit bit (Some e) = bit

-- The slots that have a value, as bits.
abbrev pub value_slots : SlotEnv → ℕ
value_slots env = value_bit 1 env.principal + value_bit 2 env.resource

-- Without a link id there is no slot.
abbrev pub static_unbound : Option ℕ → ℕ → Bool
static_unbound None slots = slots == 0
static_unbound (Some id) slots = true
