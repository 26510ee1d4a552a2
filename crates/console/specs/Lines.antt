-- What a line of a script answers and leaves, by the session before and after.
use Rattle.std.specs.Prelude.{◌≡◌, ℕ, Bool, false, cond, List, [], ◌∷◌, Some, None, Ok, Err, Option, Result, MatchBool, ◌==◌, codes, string_bytes, String}
use Rattle.std.specs.Option.{option_and_then}
use Rattle.std.specs.Str.{bytes_eq}
use Rattle.std.specs.declared.alloc.AllocError.{AllocError}
use Rattle.std.specs.declared.alloc.Global.{Global}
use Rattle.clauses.specs.SealedBooks.{texts as sealed_of}
use Rattle.clauses.specs.TreeBooks.{trees as trees_of}
use Rattle.names.specs.Book.{texts as texts_of, limits as limits_of}
use Rattle.calls.specs.Meaning.{state_of}
use Rattle.calls.specs.Model.{empty_sets}
use Rattle.console.specs.Answered.{IsWrong}
use Rattle.console.specs.Args.{next_word, rest, side_of}
use Rattle.console.specs.ClauseLines.{sealed_line, TreeLine}
use Rattle.console.specs.Asked.{name_word, name_call, meant, Asks}
use Rattle.console.specs.Naming.{Answers, texts_after}
use Rattle.console.specs.Printed.{Printed}
use Rattle.console.specs.Reader.{ReadsAs}
use Rattle.console.specs.SetLines.{OnSet, closed_after}
use Rattle.console.specs.SetWords.{set_word}
use Rattle.console.specs.Settling.{settled, kind_after}
use Rattle.console.specs.TemplateLines.{ConditionOn, BindingOn}
use Rattle.console.specs.Templates.{GoesOn}
use Rattle.console.specs.declared.clause_calls.ClauseWord.{ClauseWord}
use Rattle.console.specs.declared.clause_calls.ClauseWord.TheVariants as word
use Rattle.console.specs.declared.clause_calls.Kind.{Kind}
use Rattle.console.specs.declared.clause_calls.Kind.TheVariants.{Sealed, Trees}
use Rattle.console.specs.declared.name_calls.NameCall.{NameCall}
use Rattle.console.specs.declared.name_calls.NameWord.{NameWord}
use Rattle.console.specs.declared.session.Session.{Session}
use Rattle.console.specs.declared.set_calls.SetWord.{SetWord}
use Rattle.console.specs.declared.stop.Stop.{Stop}

-- Whether a line's first word begins a comment.
abbrev pub is_comment : List ℕ → Bool
is_comment [] = false
is_comment (b ∷ word) = b == 35

-- What a line's first word does with clauses.
abbrev pub clause_word : List ℕ → Option ClauseWord
clause_word head =
    cond (bytes_eq head (codes "clause")) (Some word.Clause)
    (cond (bytes_eq head (codes "tree")) (Some word.Tree)
    (cond (bytes_eq head (codes "condition")) (Some word.Condition) (cond (bytes_eq head (codes "binding")) (Some word.Binding) None)))

-- A call on names that was read is made; else the error stays, and the texts.
abbrev pub IfNamed : Result NameCall Stop → Session → Result (String Global) Stop → Session → Type 0
IfNamed read before result after = GoesOn read (texts_of before.reader.book) result (texts_of after.reader.book) (λ call.
    Answers (limits_of before.reader.book) (texts_of before.reader.book) (meant call) result
    × (texts_of after.reader.book ≡ texts_after (limits_of before.reader.book) (texts_of before.reader.book) (meant call)))

-- A line on names: clauses and sets stay.
pub record OnNames (before : Session) (first : NameWord) (words : List (List ℕ)) (result : Result (String Global) Stop) (after : Session) : Type 0 where
  pub read : Result NameCall Stop
  pub asked : Asks read (name_call first words)
  pub line : IfNamed read before result after
  pub clauses : after.clauses ≡ before.clauses
  pub sets : after.sets ≡ before.sets

-- A line that enters a clause settles of which kind they are; the sets stay.
pub record Enters (before : Session) (kind : Kind) (after : Session) : Type 0 where
  pub settles : after.clauses.kind ≡ kind_after before.clauses.closed before.clauses.kind kind
  pub closed : after.clauses.closed ≡ before.clauses.closed
  pub sets : after.sets ≡ before.sets

-- `clause TEXT`: names and trees stay.
pub record EntersSealed (before : Session) (words : List (List ℕ)) (result : Result (String Global) Stop) (after : Session) : Type 0 where
  pub line : ReadsAs string_bytes result (sealed_of after.clauses.sealed) (sealed_line (settled before.clauses.closed before.clauses.kind Sealed) (sealed_of before.clauses.sealed) words)
  pub enters : Enters before Sealed after
  pub trees : after.clauses.trees ≡ before.clauses.trees
  pub names : after.reader ≡ before.reader

-- `tree NODE ...`: sealed texts stay.
pub record EntersTree (before : Session) (words : List (List ℕ)) (result : Result (String Global) Stop) (after : Session) : Type 0 where
  pub line : TreeLine (settled before.clauses.closed before.clauses.kind Trees) (limits_of before.reader.book) (texts_of before.reader.book) (trees_of before.clauses.trees) words
      result (texts_of after.reader.book) (trees_of after.clauses.trees)
  pub enters : Enters before Trees after
  pub sealed : after.clauses.sealed ≡ before.clauses.sealed

-- Clauses and sets stay.
pub record NamesAlone (before after : Session) : Type 0 where
  pub clauses : after.clauses ≡ before.clauses
  pub sets : after.sets ≡ before.sets

-- A line on clauses or on a template, by its first word.
abbrev pub OnClauses : Session → ClauseWord → List (List ℕ) → Result (String Global) Stop → Session → Type 0
OnClauses before word.Clause words result after = EntersSealed before words result after
OnClauses before word.Tree words result after = EntersTree before words result after
OnClauses before word.Condition words result after =
    ConditionOn before.clauses before.clauses.kind (limits_of before.reader.book) (texts_of before.reader.book) words result (texts_of after.reader.book) × NamesAlone before after
OnClauses before word.Binding words result after =
    BindingOn before.clauses before.clauses.kind (limits_of before.reader.book) (texts_of before.reader.book) words result (texts_of after.reader.book) × NamesAlone before after

-- A line on sets: clauses stay, and no more may come once a line has named a set.
pub record OnSets (before : Session) (first : SetWord) (words : List (List ℕ)) (result : Result (String Global) Stop) (after : Session) : Type 0 where
  pub line : OnSet before.clauses (limits_of before.reader.book) (state_of before.sets before.reader.book) first (option_and_then side_of (next_word words)) (rest words)
      result (state_of after.sets after.reader.book)
  pub closed : after.clauses.closed ≡ closed_after before.clauses.closed (option_and_then side_of (next_word words))
  pub kind : after.clauses.kind ≡ before.clauses.kind
  pub sealed : after.clauses.sealed ≡ before.clauses.sealed
  pub trees : after.clauses.trees ≡ before.clauses.trees

-- A line that is no call is wrong, and leaves all as it is.
abbrev pub NoCall : Session → Result (String Global) Stop → Session → Type 0
NoCall before result after = IsWrong result × (after ≡ before)

-- A call by what its first word is of.
abbrev pub CallOf : Session → Option NameWord → Option ClauseWord → Option SetWord → List (List ℕ) → Result (String Global) Stop → Session → Type 0
CallOf before (Some first) c s words result after = OnNames before first words result after
CallOf before None (Some first) s words result after = OnClauses before first words result after
CallOf before None None (Some first) words result after = OnSets before first words result after
CallOf before None None None words result after = NoCall before result after

-- The answer to a call, as that to a line.
abbrev pub answered_line : Result (String Global) Stop → Result (Option (String Global)) Stop
answered_line (Ok line) = Ok (Some line)
answered_line (Err stop) = Err stop

-- A line by its words: nothing is answered to a blank line or a comment, which leave all as it is.
abbrev pub LineOf : Session → List (List ℕ) → Result (Option (String Global)) Stop → Session → Type 0
LineOf before [] result after = (result ≡ Ok None) × (after ≡ before)
LineOf before (head ∷ words) result after =
    MatchBool (is_comment head)
    ((result ≡ Ok None) × (after ≡ before))
    ((answer : Result (String Global) Stop) × CallOf before (name_word head) (clause_word head) (set_word head) words answer after × (result ≡ answered_line answer))

-- What is printed of a line: its answer, its refusal or its error.
abbrev pub LinePrinted : Session → List (List ℕ) → Result (Option (String Global)) AllocError → Session → Type 0
LinePrinted before words result after =
    (answer : Result (Option (String Global)) Stop) × LineOf before words answer after × Printed (texts_of after.reader.book) answer result

-- A session on empty books and sets: the name book has room for 1,024 names of 65,535 bytes in all.
pub record Begins (s : Session) : Type 0 where
  pub names : texts_of s.reader.book ≡ []
  pub limits : limits_of s.reader.book ≡ record { places = 1024; room = 65535 }
  pub kind : s.clauses.kind ≡ None
  pub closed : s.clauses.closed ≡ false
  pub sealed : sealed_of s.clauses.sealed ≡ []
  pub trees : trees_of s.clauses.trees ≡ []
  pub sets : state_of s.sets s.reader.book ≡ empty_sets []
