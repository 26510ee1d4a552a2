-- Whether names are known, and whether they name types.
use Rattle.std.specs.Prelude.{◌≡◌, ℕ, ◌<◌, List, [], ◌∷◌, ◌++◌, length, Result, nat_lt, slice_index_or}
use Rattle.std.specs.List.{AllByRecursion}
use Rattle.refusals.specs.declared.refusal.Refusal.{Refusal}
use Rattle.refusals.specs.declared.refusal.Refusal.TheVariants.{UnknownName, BadTypeName}
use Rattle.names.specs.declared.type_name.Scan.TheVariants.{Start}
use Rattle.names.specs.Scan.{scanned, accepts}
use Rattle.names.specs.TypeName.{TypeName}
use Rattle.clauses.specs.Checks.{passed_if}

-- Refusal 1 for a number that is not below the count.
abbrev pub name_check : ℕ → ℕ → Result (Unit {0}) Refusal
name_check count n = passed_if (nat_lt n count) (UnknownName n)

-- Refusal 5 for a number whose text is not a type name.
abbrev pub type_check : List (List ℕ) → ℕ → Result (Unit {0}) Refusal
type_check texts t = passed_if (accepts (scanned Start (slice_index_or texts t []))) (BadTypeName t)

-- The name is one of the book's.
abbrev pub Known : List (List ℕ) → ℕ → Type 0
Known texts n = n < length texts

-- The name's text is a type name.
abbrev pub Typed : List (List ℕ) → ℕ → Type 0
Typed texts t = TypeName (slice_index_or texts t [])

-- The number is the first of a list of which P does not hold.
pub record First (P : ℕ → Type 0) (ns : List ℕ) (n : ℕ) : Type 0 where
  pub front : List ℕ
  pub rest : List ℕ
  pub split : ns ≡ front ++ (n ∷ rest)
  pub before : AllByRecursion P front
  pub fails : P n → ⊥
