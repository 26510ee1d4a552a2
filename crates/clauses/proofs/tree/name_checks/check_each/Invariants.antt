use Rattle.std.proofs.Common.{◌≡◌, ℕ, List, Result, drop}
use Rattle.std.specs.List.{flat_map}
use Rattle.refusals.specs.declared.refusal.Refusal.{Refusal}
use Rattle.clauses.specs.declared.tree.node.Node.{Node}
use Rattle.clauses.specs.Checks.{in_turn}
use Rattle.clauses.proofs.tree.name_checks.check_each.Given as goal

abbrev pub invariant-loop-node : goal.invariant-loop-node
invariant-loop-node g l =
    (test : ℕ → Result (Unit {0}) Refusal) (held : Node → List ℕ) → ((node : Node) (r : _) → g.F.Fn.post l.check (node, tt) r → r ≡ in_turn test (held node))
    → in_turn test (flat_map held (drop l.node-index l.nodes)) ≡ in_turn test (flat_map held l.nodes)
