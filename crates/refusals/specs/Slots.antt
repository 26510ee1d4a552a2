-- Sets of slots as two bits: principal is 1, resource is 2.
use Rattle.std.specs.Prelude.{ℕ, Bool, true, false, cond, not, ◌&&◌, ◌||◌, Some, None, Option, ◌==◌, bit_and}
use Rattle.std.proofs.Common.{lit<}
use Rattle.refusals.specs.Refusals.{slot_bit}
use Rattle.refusals.specs.declared.slots.SlotId.{SlotId}
use Rattle.refusals.specs.declared.slots.SlotId.TheVariants.{Principal, Resource}
use Rattle.refusals.specs.declared.slots.SlotSet.{SlotSet}

-- Whether the bit of a slot is set.
abbrev pub has_bit : SlotId → ℕ → Bool
has_bit slot bits = not (bit_and bits (slot_bit slot) == 0)

-- Whether a slot is in a set.
abbrev pub has : SlotId → SlotSet → Bool
has slot s = has_bit slot s.bits

-- Whether two slots are the same.
abbrev pub slot_equal : SlotId → SlotId → Bool
slot_equal Principal Principal = true
slot_equal Principal Resource = false
slot_equal Resource Principal = false
slot_equal Resource Resource = true

-- The set with principal, or not, and resource, or not.
abbrev pub set_of : Bool → Bool → SlotSet
set_of false false = record { bits = 0; two_bits = lit< tt }
set_of true false = record { bits = 1; two_bits = lit< tt }
set_of false true = record { bits = 2; two_bits = lit< tt }
set_of true true = record { bits = 3; two_bits = lit< tt }

-- The set of the slots that a test says yes of.
abbrev pub slots_where : (SlotId → Bool) → SlotSet
slots_where test = set_of (test Principal) (test Resource)

-- The slots of either set.
abbrev pub union : SlotSet → SlotSet → SlotSet
union a b = slots_where (λ slot. has slot a || has slot b)

-- The slots of the first set that the second has not.
abbrev pub minus : SlotSet → SlotSet → SlotSet
minus a b = slots_where (λ slot. has slot a && not (has slot b))

-- The first slot of a set, the principal's before the resource's.
abbrev pub first_slot : SlotSet → Option SlotId
first_slot s = cond (has Principal s) (Some Principal) (cond (has Resource s) (Some Resource) None)
