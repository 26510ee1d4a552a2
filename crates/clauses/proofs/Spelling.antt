-- A scan sees a slot exactly where the text spells it.
use Rattle.std.specs.Prelude.{Decides}
use Rattle.std.proofs.Common.{◌≡◌, ℕ, true, eqb, List, [], ◌∷◌, ◌++◌, sym, refl, ap, ◌∙◌, subst, inl, inr, arith}
use Rattle.std.proofs.lemmas.Bool.{and_parts, and_from, or_cases, or_left, or_right, eqb-true, eq-eqb}
use Rattle.refusals.specs.declared.slots.SlotId.{SlotId}
use Rattle.refusals.specs.declared.slots.SlotId.TheVariants.{Principal, Resource}
use Rattle.clauses.specs.declared.sealed.scanner.Scanner.{Scanner}
use Rattle.clauses.specs.declared.sealed.scanner.Scanner.TheVariants.{Plain, String, Escaped}
use Rattle.refusals.specs.Slots.{has_bit}
use Rattle.clauses.specs.Sealed.{spelling, no_word, Spells, stepped, starts, seen, scanned, text_slots}
use Rattle.clauses.proofs.SlotSets.{set_decides}
use Rattle.clauses.proofs.Strings.{after, closed_after, after_closed}

-- A text that spells the slot for a scanner that begins in some state.
record From (slot : SlotId) (state : Scanner) (text : List ℕ) : Type 0 where
  front : List ℕ
  rest : List ℕ
  split : text ≡ front ++ (spelling slot ++ rest)
  outside : after state front ≡ Plain
  over : no_word rest ≡ true

starts_split : (s text : List ℕ) → starts s text ≡ true → (rest : List ℕ) × (text ≡ s ++ rest) × (no_word rest ≡ true)
starts_split [] text h = (text, refl, h)
starts_split (x ∷ s) [] h = let z : ◌≡◌ {A = ℕ} 0 1 = cc in absurd (omega arith)
starts_split (x ∷ s) (b ∷ bs) h =
    let w = and_parts (eqb b x) (starts s bs) h in
    let k = starts_split s bs w.1 in
    (k.0, ap (λ (y : ℕ). y ∷ bs) (eqb-true b x w.0) ∙ ap (λ (l : List ℕ). x ∷ l) k.1, k.2)

split_starts : (s rest : List ℕ) → no_word rest ≡ true → starts s (s ++ rest) ≡ true
split_starts [] rest h = h
split_starts (x ∷ s) rest h = and_from (eqb x x) (starts s (s ++ rest)) (eq-eqb x x refl) (split_starts s rest h)

seen_outside : (slot : SlotId) (state : Scanner) (text : List ℕ) → seen slot state text ≡ true → (state ≡ Plain) × (starts (spelling slot) text ≡ true)
seen_outside slot Plain text h = (refl, h)
seen_outside slot String text h = let z : ◌≡◌ {A = ℕ} 0 1 = cc in absurd (omega arith)
seen_outside slot Escaped text h = let z : ◌≡◌ {A = ℕ} 0 1 = cc in absurd (omega arith)

scanned_from : (slot : SlotId) (state : Scanner) (text : List ℕ) → scanned slot state text ≡ true → From slot state text
scanned_from slot state [] h = let z : ◌≡◌ {A = ℕ} 0 1 = cc in absurd (omega arith)
scanned_from slot state (b ∷ bs) h =
    elim (or_cases (seen slot state (b ∷ bs)) (scanned slot (stepped state b) bs) h) [
      | inl p ↦
          let w = seen_outside slot state (b ∷ bs) p in
          let k = starts_split (spelling slot) (b ∷ bs) w.1 in
          record { front = []; rest = k.0; split = k.1; outside = w.0; over = k.2 }
      | inr q ↦
          let k = scanned_from slot (stepped state b) bs q in
          record { front = b ∷ k.front; rest = k.rest; split = ap (λ (l : List ℕ). b ∷ l) k.split; outside = k.outside; over = k.over }
    ]

-- A spelling has a first byte, so a text that is a spelling and a rest is not empty.
seen-scanned : (slot : SlotId) (state : Scanner) (rest : List ℕ) → seen slot state (spelling slot ++ rest) ≡ true → scanned slot state (spelling slot ++ rest) ≡ true
seen-scanned Principal state rest h = or_left _ _ h
seen-scanned Resource state rest h = or_left _ _ h

from_scanned : (slot : SlotId) (state : Scanner) (front rest : List ℕ) → after state front ≡ Plain → no_word rest ≡ true
    → scanned slot state (front ++ (spelling slot ++ rest)) ≡ true
from_scanned slot state [] rest o e =
    seen-scanned slot state rest
    (subst (λ (s : Scanner). seen slot s (spelling slot ++ rest) ≡ true) (sym o) (split_starts (spelling slot) rest e))
from_scanned slot state (b ∷ bs) rest o e = or_right _ _ (from_scanned slot (stepped state b) bs rest o e)

scanned_spells : (slot : SlotId) (text : List ℕ) → scanned slot Plain text ≡ true → Spells slot text
scanned_spells slot text h =
    let k = scanned_from slot Plain text h in
    record { front = k.front; rest = k.rest; split = k.split; outside = after_closed k.front k.outside; over = k.over }

spells_scanned : (slot : SlotId) (text : List ℕ) → Spells slot text → scanned slot Plain text ≡ true
spells_scanned slot text s =
    ap (scanned slot Plain) s.split ∙ from_scanned slot Plain s.front s.rest (closed_after s.front s.outside) s.over

-- The slots of a text are those that it spells.
pub slots_told : (n : ℕ) (text : List ℕ) → n ≡ text_slots text → (slot : SlotId) → Decides (has_bit slot n) (Spells slot text)
slots_told n text e Principal =
    set_decides Principal (scanned Principal Plain text) (scanned Resource Plain text) n (Spells Principal text) e (scanned_spells Principal text, spells_scanned Principal text)
slots_told n text e Resource =
    set_decides Resource (scanned Principal Plain text) (scanned Resource Plain text) n (Spells Resource text) e (scanned_spells Resource text, spells_scanned Resource text)
