-- The words of a line.
use Rattle.std.specs.Prelude.{ℕ, Bool, cond, ◌||◌, List, [], ◌∷◌, ◌==◌}

-- Space, tab and carriage return separate words.
abbrev pub separates : ℕ → Bool
separates b = b == 32 || (b == 9 || b == 13)

-- A byte in front of the first piece.
abbrev pub longer : ℕ → List (List ℕ) → List (List ℕ)
longer b [] = (b ∷ []) ∷ []
longer b (p ∷ ps) = (b ∷ p) ∷ ps

-- The pieces of a line between separators, empty ones too.
abbrev pub pieces : List ℕ → List (List ℕ)
pieces [] = [] ∷ []
pieces (b ∷ bs) = cond (separates b) ([] ∷ pieces bs) (longer b (pieces bs))

-- Those that are not empty.
abbrev pub filled : List (List ℕ) → List (List ℕ)
filled [] = []
filled ([] ∷ ps) = filled ps
filled ((b ∷ bs) ∷ ps) = (b ∷ bs) ∷ filled ps

-- The words of a line: its pieces that are not empty.
abbrev pub words : List ℕ → List (List ℕ)
words line = filled (pieces line)
