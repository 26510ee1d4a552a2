-- Lists kept end to end in one list, each up to its end.
use Rattle.std.specs.Prelude.{ℕ, zero, suc, Bool, ◌&&◌, List, [], ◌∷◌, ◌==◌, nat_le, slice_index, slice_range}

-- The pieces from a start on, by their ends.
abbrev pub pieces : {X : Type 0} → ℕ → List ℕ → List X → List (List X)
pieces start [] all = []
pieces start (end ∷ ends) all = slice_range all start end ∷ pieces end ends all

-- The ends rise from the start, and the last is the total.
abbrev pub rising : ℕ → List ℕ → ℕ → Bool
rising start [] total = start == total
rising start (end ∷ ends) total = nat_le start end && rising end ends total

-- Where the piece of a number starts.
abbrev pub start_of : ℕ → List ℕ → ℕ → ℕ
start_of start ends zero = start
start_of start ends (suc n) = slice_index ends n
