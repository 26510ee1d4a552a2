-- The room of a line's answer.
use Rattle.std.specs.Prelude.{ℕ, min, List, [], ◌∷◌, Some, None, Option}
use Rattle.std.specs.Option.{option_map}
use Rattle.script.specs.Number.{numeral}

-- How many places the caller's buffer has: what the last word says, but at most as many as can be needed; without a word, those.
abbrev pub room : ℕ → List (List ℕ) → Option ℕ
room most [] = Some most
room most (word ∷ []) = option_map (λ n. min n most) (numeral word)
room most (word ∷ (more ∷ words)) = None
