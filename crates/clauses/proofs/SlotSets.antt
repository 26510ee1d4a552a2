-- Unions of slot sets, and what they have.
use Rattle.std.specs.Prelude.{◌≡◌, ℕ, zero, suc, ◌<◌, Bool, true, false, ◌||◌, bit_or, refl, Decides}
use Rattle.std.proofs.Common.{sym, subst, ◌∙◌, ap, arith}
use Rattle.std.proofs.Math.Bool.{or_assoc}
use Rattle.refusals.specs.declared.slots.SlotId.{SlotId}
use Rattle.refusals.specs.declared.slots.SlotId.TheVariants.{Principal, Resource}
use Rattle.refusals.specs.Slots.{has_bit}
use Rattle.clauses.specs.Slots.{slot_set}

-- The union of two sets.
pub set_or : (p r q s : Bool) → bit_or (slot_set p r) (slot_set q s) ≡ slot_set (p || q) (r || s)
set_or true true true true = refl
set_or true true true false = refl
set_or true true false true = refl
set_or true true false false = refl
set_or true false true true = refl
set_or true false true false = refl
set_or true false false true = refl
set_or true false false false = refl
set_or false true true true = refl
set_or false true true false = refl
set_or false true false true = refl
set_or false true false false = refl
set_or false false q s = refl

-- Two bits are a slot set.
as_set : (n : ℕ) → n < 4 → (p : Bool) × ((r : Bool) × (n ≡ slot_set p r))
as_set zero h = (false, (false, refl))
as_set (suc zero) h = (true, (false, refl))
as_set (suc (suc zero)) h = (false, (true, refl))
as_set (suc (suc (suc zero))) h = (true, (true, refl))
as_set (suc (suc (suc (suc n)))) h = absurd (omega arith)

-- The union of three sets.
pub set_or_or : (n : ℕ) → n < 4 → (p r q s : Bool)
    → bit_or (bit_or n (slot_set p r)) (slot_set q s) ≡ bit_or n (slot_set (p || q) (r || s))
set_or_or n h p r q s =
    let w = as_set n h in
    let a = w.0 in
    let b = w.1.0 in
    ap (λ (x : ℕ). bit_or (bit_or x (slot_set p r)) (slot_set q s)) w.1.1
    ∙ ap (λ (x : ℕ). bit_or x (slot_set q s)) (set_or a b p r)
    ∙ set_or (a || p) (b || r) q s
    ∙ ap (λ (x : Bool). slot_set x ((b || r) || s)) (or_assoc a p q)
    ∙ ap (slot_set (a || (p || q))) (or_assoc b r s)
    ∙ sym (set_or a b (p || q) (r || s))
    ∙ ap (λ (x : ℕ). bit_or x (slot_set (p || q) (r || s))) (sym w.1.1)

-- The answer of a slot among two.
abbrev pub answer : SlotId → Bool → Bool → Bool
answer Principal p r = p
answer Resource p r = r

-- A slot is in the set where it is answered with yes.
has_answer : (slot : SlotId) (p r : Bool) → has_bit slot (slot_set p r) ≡ answer slot p r
has_answer Principal true true = refl
has_answer Principal true false = refl
has_answer Principal false true = refl
has_answer Principal false false = refl
has_answer Resource true true = refl
has_answer Resource true false = refl
has_answer Resource false true = refl
has_answer Resource false false = refl

-- A set decides what its two answers decide.
pub set_decides : (slot : SlotId) (p r : Bool) (n : ℕ) (P : Type 0) → n ≡ slot_set p r → Decides (answer slot p r) P → Decides (has_bit slot n) P
set_decides slot p r n P e d = subst (λ (b : Bool). Decides b P) (sym (ap (has_bit slot) e ∙ has_answer slot p r)) d
