-- The bits of the slots that have values.
use Rattle.std.proofs.Common.{◌≡◌, ℕ, ◌+◌, ◌<◌, Bool, true, false, not, ◌&&◌, eqb, is_some, Some, None, Option, refl}
use Rattle.std.proofs.lemmas.Bool.{false≢true}
use Rattle.refusals.proofs.Bits.{by_four, bit}
use Rattle.names.specs.declared.entity.EntityUID.{EntityUID}
use Rattle.policy.specs.Binding.{value_bit}
use Rattle.policy.specs.Slots.{set_of}

pub value_sum : (p r : Option EntityUID) → value_bit 1 p + value_bit 2 r ≡ (set_of (is_some p) (is_some r)).bits
value_sum None None = refl
value_sum None (Some e) = refl
value_sum (Some e) None = refl
value_sum (Some e) (Some f) = refl

-- Values fill slots: some slot without a value, or some value without a slot, is left unless they are the same.
abbrev pub Covers : Bool → Bool → ℕ → Type 0
Covers p r n =
    eqb (set_of (bit 1 n && not p) (bit 2 n && not r)).bits 0 && eqb (set_of (p && not (bit 1 n)) (r && not (bit 2 n))).bits 0 ≡ true
    → (set_of p r).bits ≡ n

pub covers : (p r : Bool) (n : ℕ) → n < 4 → Covers p r n
covers false false n h = by_four (Covers false false) (λ _. refl) (λ e. absurd (false≢true e)) (λ e. absurd (false≢true e)) (λ e. absurd (false≢true e)) n h
covers true false n h = by_four (Covers true false) (λ e. absurd (false≢true e)) (λ _. refl) (λ e. absurd (false≢true e)) (λ e. absurd (false≢true e)) n h
covers false true n h = by_four (Covers false true) (λ e. absurd (false≢true e)) (λ e. absurd (false≢true e)) (λ _. refl) (λ e. absurd (false≢true e)) n h
covers true true n h = by_four (Covers true true) (λ e. absurd (false≢true e)) (λ e. absurd (false≢true e)) (λ e. absurd (false≢true e)) (λ _. refl) n h

pub none_left : (p r : Bool) → eqb (set_of (p && not p) (r && not r)).bits 0 && eqb (set_of (p && not p) (r && not r)).bits 0 ≡ true
none_left false false = refl
none_left true false = refl
none_left false true = refl
none_left true true = refl
