-- What entering does to the list of contents that a book holds.
use Rattle.std.specs.Prelude.{ℕ, cond, List, length, Ok, Err, Result, nat_lt}
use Rattle.refusals.specs.declared.refusal.Refusal.{Refusal}
use Rattle.refusals.specs.declared.refusal.Refusal.TheVariants.{BookFull}
use Rattle.clauses.specs.Checks.{and_then, length_check}

-- The next number, or refusal 4 where all 256 are taken.
abbrev pub next_number : {C : Type 0} → List C → Result ℕ Refusal
next_number held = cond (nat_lt (length held) 256) (Ok (length held)) (Err BookFull)

-- What entering a sealed text answers: refusal 3 above 512 bytes, else the next number.
abbrev pub sealed_answer : List (List ℕ) → List ℕ → Result ℕ Refusal
sealed_answer texts text = and_then (length_check 512 text) (next_number texts)
