use Rattle.std.proofs.Common.{◌≡◌, drop}
use Rattle.names.specs.Book.{texts}
use Rattle.policy_set.specs.Validation.{try_validate_answer}
use Rattle.policy_set.proofs.set.validate.check_all.Given as goal

abbrev pub invariant-loop-t : goal.invariant-loop-t
invariant-loop-t g l =
    try_validate_answer (texts l.names) (g.B.ClauseBook.listed l.clauses) (drop l.t-index l.rows)
    ≡ try_validate_answer (texts l.names) (g.B.ClauseBook.listed l.clauses) l.rows
