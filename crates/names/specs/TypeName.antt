-- Type names: identifiers joined by `::`.
use Rattle.std.specs.Prelude.{◌≡◌, ℕ, Bool, true, false, cond, ◌&&◌, ◌||◌, ◌⊎◌, List, [], ◌∷◌, ◌++◌, codes, ◌==◌, nat_le}
use Rattle.std.specs.Str.{bytes_eq}

-- An ASCII letter or an underscore.
abbrev pub letter : ℕ → Bool
letter b = (nat_le 97 b && nat_le b 122) || ((nat_le 65 b && nat_le b 90) || b == 95)

-- An ASCII letter, a digit or an underscore.
abbrev pub word : ℕ → Bool
word b = letter b || (nat_le 48 b && nat_le b 57)

-- Every byte is a letter, a digit or an underscore.
abbrev pub words : List ℕ → Bool
words [] = true
words (b ∷ bs) = word b && words bs

-- A letter or underscore, then letters, digits, underscores.
abbrev pub identifier : List ℕ → Bool
identifier [] = false
identifier (b ∷ bs) = letter b && words bs

-- Every text is an identifier.
abbrev pub identifiers : List (List ℕ) → Bool
identifiers [] = true
identifiers (t ∷ ts) = identifier t && identifiers ts

-- Texts joined by `::`: 58 is the colon.
abbrev pub joined : List ℕ → List (List ℕ) → List ℕ
joined first [] = first
joined first (next ∷ rest) = first ++ (58 ∷ 58 ∷ joined next rest)

-- A text is a type name when it is such a joining of identifiers.
pub record TypeName (text : List ℕ) : Type 0 where
  pub first : List ℕ
  pub rest : List (List ℕ)
  pub first_keeps : identifier first ≡ true
  pub rest_keep : identifiers rest ≡ true
  pub spelled : joined first rest ≡ text

-- No `::` stands in a text.
abbrev pub unbroken : List ℕ → Bool
unbroken [] = true
unbroken (a ∷ []) = true
unbroken (a ∷ (b ∷ bs)) = cond (a == 58 && b == 58) false (unbroken (b ∷ bs))

-- The part is what follows the last `::` of the text, or the whole text where it has none.
abbrev pub LastPart : List ℕ → List ℕ → Type 0
LastPart text part =
    ((text ≡ part) × (unbroken part ≡ true))
    ⊎ ((front : List ℕ) × (text ≡ front ++ (58 ∷ 58 ∷ part)) × (unbroken (58 ∷ part) ≡ true))

-- The last part is `Action`.
abbrev pub IsAction : List ℕ → Type 0
IsAction text = LastPart text (codes "Action")

-- A text ends with a part.
abbrev pub ends_with : List ℕ → List ℕ → Bool
ends_with part [] = bytes_eq [] part
ends_with part (b ∷ bs) = bytes_eq (b ∷ bs) part || ends_with part bs

-- The same as a test: the text is `Action` or ends with `::Action`.
abbrev pub is_action : List ℕ → Bool
is_action text = bytes_eq text (codes "Action") || ends_with (codes "::Action") text
