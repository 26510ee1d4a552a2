-- Slot sets by their members.
use Rattle.std.proofs.Common.{◌≡◌, ◌<◌, Bool, ◌||◌, ap, ◌∙◌}
use mathlib.Core.HLevel.{is_prop→PathP}
use native.Mathlib.Bridge.{le_prop}
use Rattle.refusals.specs.declared.slots.SlotId.{SlotId}
use Rattle.refusals.specs.declared.slots.SlotId.TheVariants.{Principal, Resource}
use Rattle.refusals.specs.declared.slots.SlotSet.{SlotSet}
use Rattle.refusals.specs.Slots.{has, set_of, slots_where, union}
use Rattle.refusals.proofs.Bits.{bits_back, set_bits}

-- Sets with the same bits are equal, whatever the proofs that they carry.
pub slot_sets : (a b : SlotSet) → a.bits ≡ b.bits → a ≡ b
slot_sets a b e = λ i. record { bits = e i; two_bits = is_prop→PathP (λ j. e j < 4) (λ j. le_prop) a.two_bits b.two_bits i }

-- A set is the set of its slots.
pub as_slots : (s : SlotSet) → s ≡ slots_where (λ slot. has slot s)
as_slots s = slot_sets s (slots_where (λ slot. has slot s)) (bits_back s.bits s.two_bits)

-- What a test says yes of is in its set.
pub has_where : (test : SlotId → Bool) (slot : SlotId) → has slot (slots_where test) ≡ test slot
has_where test Principal = (set_bits (test Principal) (test Resource)).0
has_where test Resource = (set_bits (test Principal) (test Resource)).1

-- Tests that say the same have the same set.
pub same_where : (f g : SlotId → Bool) → ((slot : SlotId) → f slot ≡ g slot) → slots_where f ≡ slots_where g
same_where f g e = λ i. set_of (e Principal i) (e Resource i)

pub has-union : (a b : SlotSet) (slot : SlotId) → has slot (union a b) ≡ (has slot a || has slot b)
has-union a b slot = has_where (λ slot. has slot a || has slot b) slot

-- Three sets joined.
pub three_sets : (f g h : SlotId → Bool) {a b c s r : SlotSet} → a ≡ slots_where f → b ≡ slots_where g → c ≡ slots_where h → s ≡ union a b → r ≡ union s c
    → r ≡ slots_where (λ slot. (f slot || g slot) || h slot)
three_sets f g h {a} {b} {c} {s} {r} ea eb ec es er =
    let of-a : (slot : SlotId) → has slot a ≡ f slot = λ slot. ap (has slot) ea ∙ has_where f slot in
    let of-b : (slot : SlotId) → has slot b ≡ g slot = λ slot. ap (has slot) eb ∙ has_where g slot in
    let of_c : (slot : SlotId) → has slot c ≡ h slot = λ slot. ap (has slot) ec ∙ has_where h slot in
    let of-s : (slot : SlotId) → has slot s ≡ (f slot || g slot) = λ slot. ap (has slot) es ∙ has-union a b slot ∙ (λ i. of-a slot i || of-b slot i) in
    er ∙ same_where (λ slot. has slot s || has slot c) (λ slot. (f slot || g slot) || h slot) (λ slot i. of-s slot i || of_c slot i)
