-- What lines on sets answer and leave.
use Rattle.std.specs.Prelude.{◌≡◌, ℕ, Bool, true, List, Some, None, Ok, Err, Option, Result, string_bytes, String}
use Rattle.std.specs.declared.alloc.Global.{Global}
use Rattle.refusals.specs.declared.refusal.Refusal.{Refusal}
use Rattle.names.specs.Names.{Limits}
use Rattle.clauses.specs.Book.{Clause}
use Rattle.clauses.specs.Nodes.{same_nodes}
use Rattle.clauses.specs.SealedBooks.{sealed_clauses}
use Rattle.clauses.specs.TreeBooks.{tree_clauses}
use Rattle.std.specs.Str.{bytes_eq}
use Rattle.calls.specs.Model.{State, maps_at, with_texts, told, answered, step}
use Rattle.calls.specs.declared.answer.Handed.{Handed}
use Rattle.calls.specs.declared.call.Call.{Call}
use Rattle.calls.specs.declared.call.Side.{Side}
use Rattle.printing.specs.Answers.{handed_line}
use Rattle.console.specs.Answered.{AnswersAs, IsWrong}
use Rattle.console.specs.Reader.{ReadsAs}
use Rattle.console.specs.SetCalls.{ChangeRead}
use Rattle.console.specs.SetReads.{set_read}
use Rattle.console.specs.declared.clause_calls.Clauses.{Clauses}
use Rattle.console.specs.declared.clause_calls.Kind.{Kind}
use Rattle.console.specs.declared.clause_calls.Kind.TheVariants.{Sealed, Trees}
use Rattle.console.specs.declared.set_calls.Change.{Change}
use Rattle.console.specs.declared.set_calls.SetWord.{SetWord}
use Rattle.console.specs.declared.set_calls.SetWord.TheVariants as first
use Rattle.console.specs.declared.set_reads.Read.{Read}
use Rattle.console.specs.declared.stop.Stop.{Stop}

-- The line of an answer of a call.
abbrev pub line_of : List (List ℕ) → Call → Result Handed Refusal → Result (List ℕ) Refusal
line_of texts c (Ok handed) = Ok (handed_line texts c handed)
line_of texts c (Err refusal) = Err refusal

-- Lines for the limits of the name book, a test on clauses' contents and the clauses of the clause book, by the state of
-- sets and names before and after.
module _ {C : Type 0} (limits : Limits) (equal : C → C → Bool) (cs : List (Clause C)) where
  -- A call was made: its answer is printed, and the state is the one after it.
  abbrev pub Called : State → Call → Result (String Global) Stop → State → Type 0
  Called before c result after =
      (answer : Result Handed Refusal) × (told answer ≡ answered limits equal cs before c)
      × AnswersAs string_bytes result (line_of after.texts c answer) × (after ≡ step limits equal cs before c)

  -- A call that was read is made; else the error stays, and the sets.
  abbrev pub IfCalled : State → Result Call Stop → Result (String Global) Stop → State → Type 0
  IfCalled before (Ok c) result after = Called before c result after
  IfCalled before (Err stop) result after = (result ≡ Err stop) × (after ≡ before)

  -- A line that changes a set: its call is read, with the texts between, and made.
  abbrev pub ChangeLine : State → Change → Side → List (List ℕ) → Result (String Global) Stop → State → Type 0
  ChangeLine before change side words result after =
      (read : Result Call Stop) × (between : List (List ℕ)) × ChangeRead limits before.texts cs change side words read between
      × IfCalled (with_texts between before) read result after

  -- A line that reads a set: the sets stay.
  abbrev pub ReadLine : State → Read → Side → List (List ℕ) → Result (String Global) Stop → State → Type 0
  ReadLine before read side words result after =
      ReadsAs string_bytes result after.texts (set_read limits before.texts cs side (maps_at side before) read words)
      × (after ≡ with_texts after.texts before)

  -- A line on a set, by its first word and the set.
  abbrev pub SetLine : State → SetWord → Side → List (List ℕ) → Result (String Global) Stop → State → Type 0
  SetLine before (first.Change change) side words result after = ChangeLine before change side words result after
  SetLine before (first.Read read) side words result after = ReadLine before read side words result after

-- The same on the clause book that the script stands on.
abbrev pub OnBook : Clauses → Option Kind → Limits → State → SetWord → Side → List (List ℕ) → Result (String Global) Stop → State → Type 0
OnBook clauses (Some Trees) limits before first side words result after = SetLine limits same_nodes (tree_clauses clauses.trees) before first side words result after
OnBook clauses (Some Sealed) limits before first side words result after = SetLine limits bytes_eq (sealed_clauses clauses.sealed) before first side words result after
OnBook clauses None limits before first side words result after = SetLine limits bytes_eq (sealed_clauses clauses.sealed) before first side words result after

-- The same where the next word names a set; else the line is wrong.
abbrev pub OnSet : Clauses → Limits → State → SetWord → Option Side → List (List ℕ) → Result (String Global) Stop → State → Type 0
OnSet clauses limits before first None words result after = IsWrong result × (after ≡ before)
OnSet clauses limits before first (Some side) words result after = OnBook clauses clauses.kind limits before first side words result after

-- Whether no clause may come any more: once a line has named a set.
abbrev pub closed_after : Bool → Option Side → Bool
closed_after closed None = closed
closed_after closed (Some side) = true
