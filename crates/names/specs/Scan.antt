-- The scan of a type name, byte by byte.
use Rattle.std.specs.Prelude.{ℕ, Bool, true, false, cond, List, [], ◌∷◌, Some, None, Option, ◌==◌, option_and_then}
use Rattle.names.specs.declared.type_name.Scan.{Scan}
use Rattle.names.specs.declared.type_name.Scan.TheVariants.{Start, Inside, Colon}
use Rattle.names.specs.TypeName.{letter, word}

-- What one byte does; none where it breaks the rule.
abbrev pub stepped : Scan → ℕ → Option Scan
stepped Start b = cond (letter b) (Some Inside) None
stepped Inside b = cond (word b) (Some Inside) (cond (b == 58) (Some Colon) None)
stepped Colon b = cond (b == 58) (Some Start) None

-- Where the scan stands after some bytes; none where they break the rule.
abbrev pub scanned : Scan → List ℕ → Option Scan
scanned s [] = Some s
scanned s (b ∷ bs) = option_and_then (λ (t : Scan). scanned t bs) (stepped s b)

-- Whether an identifier stands last.
abbrev pub inside : Scan → Bool
inside Start = false
inside Inside = true
inside Colon = false

-- A text may end inside an identifier only.
abbrev pub accepts : Option Scan → Bool
accepts None = false
accepts (Some s) = inside s
