-- Decimal numbers as words.
use Rattle.std.specs.Prelude.{ℕ, ◌+◌, ◌-◌, ◌*◌, cond, ◌&&◌, List, [], ◌∷◌, Some, None, Option, nat_le}

-- A number with a digit more; none where there is no number, or the byte is no digit.
abbrev pub one_more : Option ℕ → ℕ → Option ℕ
one_more None b = None
one_more (Some n) b = cond (nat_le 48 b && nat_le b 57) (Some (10 * n + (b - 48))) None

-- A number with more digits behind it.
abbrev pub continued : Option ℕ → List ℕ → Option ℕ
continued number [] = number
continued number (b ∷ word) = continued (one_more number b) word

-- The number of a word: one digit or more, and nothing else.
abbrev pub numeral : List ℕ → Option ℕ
numeral [] = None
numeral (b ∷ word) = continued (Some 0) (b ∷ word)

-- A number that is not above a bound.
abbrev pub at_most : ℕ → Option ℕ → Option ℕ
at_most most None = None
at_most most (Some n) = cond (nat_le n most) (Some n) None
