-- The run of separators, or of other bytes, at the front of a line.
use Rattle.std.specs.Prelude.{ℕ, suc, Bool, cond, List, [], ◌∷◌}
use Rattle.std.specs.Bool.{beq}
use Rattle.script.specs.Words.{separates}

-- How many bytes at the front are separators, or are none.
abbrev pub front : Bool → List ℕ → ℕ
front separators [] = 0
front separators (b ∷ bs) = cond (beq (separates b) separators) (suc (front separators bs)) 0
