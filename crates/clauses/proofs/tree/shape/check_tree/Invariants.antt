use Rattle.std.proofs.Common.{◌≡◌, ◌≤◌, drop}
use Rattle.clauses.specs.Nodes.{takes}
use Rattle.clauses.specs.Shape.{shape}
use Rattle.clauses.proofs.tree.shape.check_tree.Given as goal

abbrev pub invariant-loop-place : goal.invariant-loop-place
invariant-loop-place l =
    (l.standing ≤ l.place) × (shape takes l.place l.standing (drop l.place l.nodes) ≡ shape takes 0 0 l.nodes)
