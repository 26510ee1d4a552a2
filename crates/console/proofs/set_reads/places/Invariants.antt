use Rattle.std.proofs.Common.{◌≡◌, ℕ, ◌-◌, Option, ◌++◌, vec_items}
use Rattle.console.specs.Places.{at_places}
use Rattle.console.proofs.set_reads.places.Given as goal

-- The items so far, and what is at the places that are left.
abbrev pub invariant-loop-place : goal.invariant-loop-place
invariant-loop-place g l =
    (f : ℕ → Option _) → ((place : ℕ) (r : _) → g.F.Fn.post l.at (place, tt) r → r ≡ f place) → at_places f 0 256 ≡ vec_items l.list ++ at_places f l.place (256 - l.place)
