use Rattle.std.proofs.Common.{◌≡◌, List, length, sym, ap, ◌∙◌, arith}
use Rattle.std.proofs.lemmas.List.{length-take-le}
use Rattle.names.specs.declared.entity.EntityUID.{EntityUID}
use Rattle.clauses.specs.Tree.{written}
use Rattle.policy.specs.declared.node.ConditionNode.TheVariants as node
use Rattle.policy.specs.Scopes.{ActionConstraint}
use Rattle.policy.specs.Condition.{leaf, over_two, set_tree, action_tree}
use Rattle.policy.proofs.Steps.{one_step, three_steps}
use Rattle.policy.proofs.Trees.{written_actions}
use Rattle.policy.proofs.condition.write_action.Goals as goal

pub returns-in-In : goal.returns-in-In
returns-in-In c =
    let l = c.in-In.actions in
    let es = c.as_slice.result.now in
    let n : l.count ≡ length es =
    sym (length-take-le l.count l.items (omega arith)) ∙ ap length (sym c.as_slice.ensures) in
    three_steps _ 11 (one_step c.push-in-In.ensures.items c.push-in-In.ensures.len) c.write_entities.ensures c.extend.ensures
    (ap (λ (a : ActionConstraint). written (action_tree a)) c.in-In.is
    ∙ ap (λ (xs : List EntityUID). written (over_two node.In (leaf node.Action) (set_tree xs))) (sym c.as_slice.ensures)
    ∙ written_actions es l.count n)
    (omega (arith, n))
