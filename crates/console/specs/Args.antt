-- What is read from the words of a line.
use Rattle.std.specs.Prelude.{◌≡◌, ℕ, cond, List, [], ◌∷◌, Some, None, Ok, Err, codes, Option, Result}
use Rattle.std.specs.Str.{bytes_eq}
use Rattle.calls.specs.declared.call.Side.{Side}
use Rattle.calls.specs.declared.call.Side.TheVariants.{A, B}
use Rattle.script.specs.Cursor.{to_come}
use Rattle.script.specs.Number.{numeral, at_most}
use Rattle.script.specs.Percent.{decoded}
use Rattle.console.specs.declared.args.Args.{Args}
use Rattle.console.specs.declared.stop.Stop.{Stop}
use Rattle.console.specs.declared.stop.Stop.TheVariants.{Wrong, Refused, NoMemory}

-- The words that are left.
abbrev pub left : Args → List (List ℕ)
left args = to_come args.words

-- The words behind the first.
abbrev pub rest : List (List ℕ) → List (List ℕ)
rest [] = []
rest (word ∷ words) = words

-- The next word.
abbrev pub next_word : List (List ℕ) → Option (List ℕ)
next_word [] = None
next_word (word ∷ words) = Some word

-- The text that the next word means.
abbrev pub next_text : List (List ℕ) → Option (List ℕ)
next_text [] = None
next_text (word ∷ words) = decoded word

-- The name number that the next word means.
abbrev pub next_number : List (List ℕ) → Option ℕ
next_number [] = None
next_number (word ∷ words) = at_most 65535 (numeral word)

-- A reading gives what the words mean, or says that they are wrong; it may also run out of memory.
abbrev pub Reads : {X Y : Type 0} → (X → Y) → Result X Stop → Option Y → Type 0
Reads view (Ok x) meant = meant ≡ Some (view x)
Reads view (Err (Wrong wrong)) meant = meant ≡ None
Reads view (Err (Refused refusal)) meant = ⊥
Reads view (Err NoMemory) meant = Unit {0}

-- The set that a word names.
abbrev pub side_of : List ℕ → Option Side
side_of word = cond (bytes_eq word (codes "A")) (Some A) (cond (bytes_eq word (codes "B")) (Some B) None)
