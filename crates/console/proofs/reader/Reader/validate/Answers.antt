use Rattle.std.proofs.Common.{codes, rules}
use Rattle.names.specs.Book.{texts}
use Rattle.policy_set.specs.Meaning.{maps_of}
use Rattle.policy_set.specs.Validation.{try_validate_answer}
use Rattle.console.specs.Reader.{made, answered}
use Rattle.console.specs.Args.{left}
use Rattle.console.proofs.Ended.{wrong_end}
use Rattle.console.proofs.reader.Reader.validate.Goals as goal

pub returns-in_err-end : goal.returns-in_err-end
returns-in_err-end g c =
    let us = texts c.args.self.now.book in
    wrong_end (left c.args.args.now) us (made (λ _. codes "ok") (answered (try_validate_answer us (g.B.ClauseBook.listed c.args.clauses.now) (maps_of c.args.set.now).templates) us))
    c.from_residual.result c.in_err-end.field-0.0 c.in_err-end.ensures (search rules)
