-- Values handed back as two options, read as a list.
use Rattle.std.specs.Prelude.{ℕ, List, [], ◌∷◌, Some, None, Option}

-- One value or none.
abbrev pub listed_one : Option ℕ → List ℕ → List ℕ
listed_one None rest = rest
listed_one (Some v) rest = v ∷ rest

-- The values that are there, in order.
abbrev pub listed : Option ℕ × Option ℕ → List ℕ
listed r = listed_one r.0 (listed_one r.1 [])
