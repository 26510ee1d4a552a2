use Rattle.std.proofs.Common.{Err, sym, ap, ◌∙◌, arith}
use Rattle.std.proofs.lemmas.List.{at_drop_all}
use Rattle.std.proofs.lemmas.Result.{err_from_is_err_and}
use Rattle.names.specs.Book.{texts}
use Rattle.policy_set.specs.Validation.{try_validate_answer}
use Rattle.policy_set.proofs.Validates.{fault_at, fault_past}
use Rattle.policy_set.proofs.set.validate.check_all.Goals as goal

pub returns-in_err-check_template : goal.returns-in_err-check_template
returns-in_err-check_template g c =
    let p = err_from_is_err_and c.from_residual.result c.from_residual.ensures.1 in
    p.1 ∙ ap Err p.2
    ∙ fault_at (texts c.args.names.now) (g.B.ClauseBook.listed c.args.clauses.now) c.args.rows.now c.loop-t.t-index c.t-item.result
    _ c.loop-t-test.true c.t-item.is c.in_err-check_template.ensures
    ∙ c.loop-t.invariant

pub loop-t-preserved : goal.loop-t-preserved
loop-t-preserved g c =
    fault_past (texts c.args.names.now) (g.B.ClauseBook.listed c.args.clauses.now) c.args.rows.now c.loop-t.t-index c.t-item.result
    c.loop-t-test.true c.t-item.is c.in_ok-check_template.ensures
    ∙ c.loop-t.invariant

pub returns : goal.returns
returns g c =
    sym (at_drop_all (try_validate_answer (texts c.args.names.now) (g.B.ClauseBook.listed c.args.clauses.now)) c.args.rows.now c.loop-t.t-index (omega arith))
    ∙ c.loop-t.invariant
