use Rattle.std.proofs.Common.{map, take}
use Rattle.policy.specs.declared.node.ConditionNode.TheVariants.{Entity}
use Rattle.policy.specs.Nodes.{Wrote}
use Rattle.policy.proofs.condition.write_entities.Given as goal

abbrev pub invariant-loop-e : goal.invariant-loop-e
invariant-loop-e l = Wrote l.initial.list l.list (map Entity (take l.e-index l.entities)) l.e-index
