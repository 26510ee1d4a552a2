use Rattle.names.specs.Book.{texts}
use Rattle.names.specs.Index.{past}
use Rattle.names.proofs.Indexes.{Chain}
use Rattle.names.proofs.kept.NameBook.find.Given as goal

-- No number that was passed has the text.
abbrev pub invariant-loop-next : goal.invariant-loop-next
invariant-loop-next l = Chain l.text (texts l.self) l.next

abbrev pub decreases-loop-next : goal.decreases-loop-next
decreases-loop-next l = past l.next
