-- Slot sets: principal is 1, resource is 2.
use Rattle.std.specs.Prelude.{ℕ, Bool}
use Rattle.refusals.specs.Slots.{set_of}

-- The bits of the set that has the principal's slot or not, and the resource's or not.
abbrev pub slot_set : Bool → Bool → ℕ
slot_set p r = (set_of p r).bits
