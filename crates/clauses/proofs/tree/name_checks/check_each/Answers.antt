use Rattle.std.proofs.Common.{false, List, get_or, Ok, Err, sym, ap, ◌∙◌}
use Rattle.std.specs.List.{flat_map}
use Rattle.std.proofs.lemmas.Result.{err_from_is_err_and}
use Rattle.std.proofs.lemmas.List.{at_drop_all}
use Rattle.clauses.specs.declared.tree.node.Node.{Node}
use Rattle.clauses.specs.declared.tree.node.Node.TheVariants.{Lit}
use Rattle.clauses.specs.Checks.{in_turn}
use Rattle.clauses.proofs.Checks.{stops, goes_on}
use Rattle.clauses.proofs.tree.name_checks.check_each.Goals as goal

pub returns-in_err-check : goal.returns-in_err-check
returns-in_err-check g c =
    λ test held law.
    let p = err_from_is_err_and c.from_residual.result c.from_residual.ensures.1 in
    p.1 ∙ ap Err p.2
    ∙ stops test held c.args.nodes.now c.loop-node.node-index (Lit false) c.in_err-check.field-0.0
    c.loop-node-test.true (law (get_or c.args.nodes.now c.loop-node.node-index (Lit false)) (Err c.in_err-check.field-0.0) c.in_err-check.ensures) (c.loop-node.invariant test held law)

pub loop-node-preserved : goal.loop-node-preserved
loop-node-preserved g c =
    λ test held law.
    goes_on test held c.args.nodes.now c.loop-node.node-index (Lit false)
    c.loop-node-test.true (law (get_or c.args.nodes.now c.loop-node.node-index (Lit false)) (Ok tt) c.in_ok-check.ensures) (c.loop-node.invariant test held law)

pub returns : goal.returns
returns g c =
    λ test held law.
    sym (at_drop_all (λ (ns : List Node). in_turn test (flat_map held ns)) c.args.nodes.now c.loop-node.node-index c.loop-node-test.false)
    ∙ c.loop-node.invariant test held law
