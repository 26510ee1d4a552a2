use Rattle.std.proofs.Common.{rules, tests, ◌+◌, drop, filter, sym, ap, ◌∙◌, arith}
use Rattle.std.specs.List.{slice_get}
use Rattle.std.proofs.lemmas.List.{at_drop_all}
use Rattle.policy_set.specs.Maps.{changed}
use Rattle.policy_set.specs.Rows.{member_id}
use Rattle.policy_set.specs.Answers.{is_under}
use Rattle.policy_set.proofs.Walks.{passing_no, passing_here, passing_next}
use Rattle.policy_set.proofs.set.PolicySet.linked_at.Goals as goal
use Rattle.policy_set.proofs.set.PolicySet.linked_at.Goals.{then-row-template+else-left-eq0, else-row-template}

pub returns-then-left-eq0 : goal.returns-then-left-eq0
returns-then-left-eq0 c =
    let p = is_under c.args.template in
    ap (changed member_id)
    (sym (passing_here p c.rows-row-items.result.now c.loop-row.row-index _ c.loop-row-test.true c.loop-row.left (search (rules, tests)) c.if-left-eq0.true)
    ∙ c.loop-row.invariant
    ∙ ap (λ rows. slice_get (filter p rows) c.args.place) c.rows-row-items.ensures)

pub loop-row-preserved : goal.loop-row-preserved
loop-row-preserved c =
    let p = is_under c.args.template in
    let rows = c.rows-row-items.result.now in
    let i = c.loop-row.row-index in
    elim c.if-row-template.branch [
      | then-row-template+else-left-eq0 w ↦
          ap (slice_get (filter p (drop (i + 1) rows))) w.left-is
          ∙ (passing_next p rows i (record { policy = 0; template = 0 }) c.loop-row-test.true c.loop-row.left (search (rules, tests)) w.if-left-eq0.false
          ∙ c.loop-row.invariant)
      | else-row-template w ↦
          ap (slice_get (filter p (drop (i + 1) rows))) w.left-is
          ∙ (passing_no p rows i (record { policy = 0; template = 0 }) c.loop-row-test.true c.loop-row.left (search (rules, tests))
          ∙ c.loop-row.invariant)
    ]

pub returns : goal.returns
returns c =
    let p = is_under c.args.template in
    ap (changed member_id)
    (sym (at_drop_all (λ ys. slice_get (filter p ys) c.loop-row.left) c.rows-row-items.result.now c.loop-row.row-index c.loop-row-test.false)
    ∙ c.loop-row.invariant
    ∙ ap (λ rows. slice_get (filter p rows) c.args.place) c.rows-row-items.ensures)
