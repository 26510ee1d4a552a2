-- What lines on names answer.
use Rattle.std.specs.Prelude.{ℕ, Bool, true, false, List, ◌++◌, Ok, Err, Decides, Result, String, codes, decimal, string_bytes}
use Rattle.std.specs.declared.alloc.Global.{Global}
use Rattle.refusals.specs.declared.refusal.Refusal.{Refusal}
use Rattle.names.specs.Names.{Limits, name_answer, name_after, text_answer}
use Rattle.names.specs.TypeName.{TypeName, IsAction}
use Rattle.script.specs.Percent.{encoded}
use Rattle.script.specs.declared.encode.Colon.TheVariants.{Coded}
use Rattle.console.specs.Answered.{AnswersAs}
use Rattle.console.specs.Asked.{Asked, wrong, name, text, type_name, action}
use Rattle.console.specs.declared.stop.Stop.{Stop}

-- A call prints its line or is refused; there may also be too little memory.
abbrev pub Prints : Result (String Global) Stop → Result (List ℕ) Refusal → Type 0
Prints result answer = AnswersAs string_bytes result answer

-- The word of a yes or a no.
abbrev pub yes_word : Bool → List ℕ
yes_word true = codes "yes"
yes_word false = codes "no"

-- The line of a number that a text was given.
abbrev pub number_line : Result ℕ Refusal → Result (List ℕ) Refusal
number_line (Ok n) = Ok (codes "name " ++ decimal n)
number_line (Err refusal) = Err refusal

-- The line of a text that was read.
abbrev pub text_line : Result (List ℕ) Refusal → Result (List ℕ) Refusal
text_line (Ok t) = Ok (codes "text " ++ encoded Coded t)
text_line (Err refusal) = Err refusal

-- A yes where P holds, else a no.
abbrev pub Tells : Type 0 → Result (String Global) Stop → Type 0
Tells P result = (yes : Bool) × Decides yes P × Prints result (Ok (yes_word yes))

-- A yes or a no of a text, where naming it was not refused.
abbrev pub TellsNamed : Result ℕ Refusal → Type 0 → Result (String Global) Stop → Type 0
TellsNamed (Ok n) P result = Tells P result
TellsNamed (Err refusal) P result = Prints result (Err refusal)

-- What a call on names prints, over the limits and the texts of the book.
abbrev pub Answers : Limits → List (List ℕ) → Asked → Result (String Global) Stop → Type 0
Answers limits texts (name t) result = Prints result (number_line (name_answer limits texts t))
Answers limits texts (text n) result = Prints result (text_line (text_answer texts n))
Answers limits texts (type_name t) result = Tells (TypeName t) result
Answers limits texts (action t) result = TellsNamed (name_answer limits texts t) (IsAction t) result
Answers limits texts wrong result = ⊥

-- The texts of the book afterwards.
abbrev pub texts_after : Limits → List (List ℕ) → Asked → List (List ℕ)
texts_after limits texts (name t) = name_after limits texts t
texts_after limits texts (action t) = name_after limits texts t
texts_after limits texts (text n) = texts
texts_after limits texts (type_name t) = texts
texts_after limits texts wrong = texts
