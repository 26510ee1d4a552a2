-- Words, numbers and names as text.
use Rattle.std.specs.Prelude.{ℕ, cond, List, [], ◌∷◌, ◌++◌, length, decimal, nat_lt, slice_index_or}
use Rattle.script.specs.Percent.{encoded}
use Rattle.script.specs.declared.encode.Colon.{Colon}
use Rattle.script.specs.declared.encode.Colon.TheVariants.{Coded}

-- A line with words behind it, a space before each.
abbrev pub spaced : List ℕ → List (List ℕ) → List ℕ
spaced line [] = line
spaced line (word ∷ words) = spaced (line ++ (32 ∷ word)) words

-- The text of a name, or its number where the book lacks it.
abbrev pub name_text : List (List ℕ) → Colon → ℕ → List ℕ
name_text texts colon number = cond (nat_lt number (length texts)) (encoded colon (slice_index_or texts number [])) (decimal number)

-- The text of an id.
abbrev pub id_word : List (List ℕ) → ℕ → List ℕ
id_word texts id = name_text texts Coded id
