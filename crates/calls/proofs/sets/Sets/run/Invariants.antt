use Rattle.std.proofs.Common.{◌≡◌, take, drop, map}
use Rattle.names.specs.Book.{limits}
use Rattle.calls.specs.Model.{told}
use Rattle.calls.specs.Law.{Ran}
use Rattle.calls.specs.Meaning.{state_of}
use Rattle.calls.proofs.sets.Sets.run.Given as goal

abbrev pub invariant-loop-i : goal.invariant-loop-i
invariant-loop-i g l =
    (limits l.names ≡ limits l.initial.names)
    × Ran g.B.ClauseBook.equal (g.B.ClauseBook.listed l.clauses) (limits l.initial.names) (state_of l.initial.self l.initial.names) (state_of l.self l.names) (take l.i l.calls) (map told (take l.i l.answers))
    × (drop l.i l.answers ≡ drop l.i l.initial.answers)
