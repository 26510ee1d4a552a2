-- Which clause book a script stands on.
use Rattle.std.specs.Prelude.{Bool, true, false, Some, None, Ok, Err, Option, Result}
use Rattle.console.specs.declared.clause_calls.Kind.{Kind}
use Rattle.console.specs.declared.clause_calls.Kind.TheVariants.{Sealed, Trees}
use Rattle.console.specs.declared.stop.Wrong.{Wrong}
use Rattle.console.specs.declared.stop.Wrong.TheVariants.{OtherBook, LateClause}

-- A clause of another kind than the script has is wrong.
abbrev pub same_kind : Kind → Kind → Result (Unit {0}) Wrong
same_kind Sealed Sealed = Ok tt
same_kind Sealed Trees = Err OtherBook
same_kind Trees Sealed = Err OtherBook
same_kind Trees Trees = Ok tt

-- The kind that the script has then: the first line that enters a clause says it.
abbrev pub kind_then : Option Kind → Kind → Kind
kind_then None kind = kind
kind_then (Some first) kind = first

-- What settling a clause's kind answers: no clause comes behind a line that names a set.
abbrev pub settled : Bool → Option Kind → Kind → Result (Unit {0}) Wrong
settled true first kind = Err LateClause
settled false first kind = same_kind (kind_then first kind) kind

-- The kind afterwards.
abbrev pub kind_after : Bool → Option Kind → Kind → Option Kind
kind_after true first kind = first
kind_after false first kind = Some (kind_then first kind)
