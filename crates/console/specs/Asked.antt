-- What a line on names asks for.
use Rattle.std.specs.Prelude.{◌≡◌, ℕ, cond, List, [], ◌∷◌, Some, None, Ok, Err, vec_items, codes, Option, Result}
use Rattle.std.specs.Option.{option_map}
use Rattle.std.specs.Str.{bytes_eq}
use Rattle.console.specs.Args.{rest, next_text, next_number}
use Rattle.console.specs.declared.stop.Stop.{Stop}
use Rattle.console.specs.declared.stop.Stop.TheVariants.{Wrong, Refused, NoMemory}
use Rattle.console.specs.declared.name_calls.NameWord.{NameWord}
use Rattle.console.specs.declared.name_calls.NameWord.TheVariants as word
use Rattle.console.specs.declared.name_calls.NameCall.{NameCall}
use Rattle.console.specs.declared.name_calls.NameCall.TheVariants as call

-- A call on names, or what is no call.
pub data Asked : Type 0 where
  wrong : Asked
  name : List ℕ → Asked
  text : ℕ → Asked
  type_name : List ℕ → Asked
  action : List ℕ → Asked

-- The first word of a call on names.
abbrev pub name_word : List ℕ → Option NameWord
name_word head =
    cond (bytes_eq head (codes "name")) (Some word.Name)
    (cond (bytes_eq head (codes "text")) (Some word.Text)
    (cond (bytes_eq head (codes "type")) (Some word.«Type») (cond (bytes_eq head (codes "action")) (Some word.Action) None)))

-- The call on names that a word and the next word ask for.
abbrev pub argued : NameWord → List (List ℕ) → Option Asked
argued word.Name args = option_map name (next_text args)
argued word.Text args = option_map text (next_number args)
argued word.«Type» args = option_map type_name (next_text args)
argued word.Action args = option_map action (next_text args)

-- A call that has to end the line.
abbrev pub ended : Option Asked → List (List ℕ) → Asked
ended None more = wrong
ended (Some line) [] = line
ended (Some line) (word ∷ more) = wrong

-- The call on names that a word and all words behind it ask for.
abbrev pub name_call : NameWord → List (List ℕ) → Asked
name_call first args = ended (argued first args) (rest args)

-- What a call that was read asks for.
abbrev pub meant : NameCall → Asked
meant (call.Name v) = name (vec_items v)
meant (call.Text n) = text n
meant (call.«Type» v) = type_name (vec_items v)
meant (call.Action v) = action (vec_items v)

-- A call that was read is the one that the line asks for, or the line is no call; there may also be too little memory.
abbrev pub Asks : Result NameCall Stop → Asked → Type 0
Asks (Ok c) line = line ≡ meant c
Asks (Err (Wrong w)) line = line ≡ wrong
Asks (Err (Refused refusal)) line = ⊥
Asks (Err NoMemory) line = Unit {0}
