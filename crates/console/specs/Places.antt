-- Listings that are gathered place by place.
use Rattle.std.specs.Prelude.{ℕ, zero, suc, ◌+◌, List, [], ◌∷◌, Some, None, Option}

-- What is there, and then some more; nothing more where nothing is there.
abbrev pub and_more : {X : Type 0} → Option X → List X → List X
and_more None more = []
and_more (Some x) more = x ∷ more

-- What is at so many places from one on, to the first where nothing is.
abbrev pub at_places : {X : Type 0} → (ℕ → Option X) → ℕ → ℕ → List X
at_places at place zero = []
at_places at place (suc n) = and_more (at place) (at_places at (place + 1) n)

-- What is at all places: no table of a set has more than 256 rows.
unfoldable pub all_places : {X : Type 0} → (ℕ → Option X) → List X
all_places at = at_places at 0 256
