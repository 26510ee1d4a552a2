use Rattle.std.proofs.Common.{◌≡◌, drop}
use lib.Bits.{bit_or}
use Rattle.clauses.specs.Nodes.{tree_slots}
use Rattle.clauses.proofs.tree.clause.slots_of_tree.Given as goal

abbrev pub invariant-loop-node : goal.invariant-loop-node
invariant-loop-node l = bit_or l.slots.bits (tree_slots (drop l.node-index l.nodes)) ≡ tree_slots l.nodes
