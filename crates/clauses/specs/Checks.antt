-- Tests that are passed or refuse, one after another.
use Rattle.std.specs.Prelude.{ℕ, Bool, cond, List, [], ◌∷◌, length, Ok, Err, Result, nat_le}
use Rattle.refusals.specs.declared.refusal.Refusal.{Refusal}
use Rattle.refusals.specs.declared.refusal.Refusal.TheVariants.{TooLong}

-- Passed where the test says yes, else refused.
abbrev pub passed_if : Bool → Refusal → Result (Unit {0}) Refusal
passed_if told refusal = cond told (Ok tt) (Err refusal)

-- One test, and then another.
abbrev pub and_then : {X : Type 0} → Result (Unit {0}) Refusal → Result X Refusal → Result X Refusal
and_then (Ok u) next = next
and_then (Err refusal) next = Err refusal

-- The same test of each in turn.
abbrev pub in_turn : {X : Type 0} → (X → Result (Unit {0}) Refusal) → List X → Result (Unit {0}) Refusal
in_turn test [] = Ok tt
in_turn test (x ∷ xs) = and_then (test x) (in_turn test xs)

-- Refusal 3 above so many items.
abbrev pub length_check : {X : Type 0} → ℕ → List X → Result (Unit {0}) Refusal
length_check most items = passed_if (nat_le (length items) most) (TooLong (length items))
