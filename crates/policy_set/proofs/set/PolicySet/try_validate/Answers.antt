use Rattle.std.proofs.Common.{ap, ◌∙◌}
use Rattle.names.specs.Book.{texts}
use Rattle.policy_set.specs.Held.{rows_in}
use Rattle.policy_set.specs.Validation.{try_validate_answer}
use Rattle.policy_set.proofs.Validates.{accepts_valid}
use Rattle.policy_set.proofs.set.PolicySet.try_validate.Goals as goal

pub returns : goal.returns
returns g c =
    let e = c.check_all.ensures
    ∙ ap (try_validate_answer (texts c.args.names.now) (g.B.ClauseBook.listed c.args.clauses.now)) c.rows.ensures in
    record {
      answer = e;
      law = accepts_valid (texts c.args.names.now) (g.B.ClauseBook.listed c.args.clauses.now)
          (g.met.B.ClauseBook.lawful c.args.clauses.now) (rows_in c.args.self.now.templates) c.check_all.result e;
    }
