use Rattle.std.proofs.Common.{List, ◌++◌, map, ap, ◌∙◌, arith}
use Rattle.std.proofs.lemmas.List.{map_more, take_all}
use Rattle.names.specs.declared.entity.EntityUID.{EntityUID}
use Rattle.policy.specs.declared.node.ConditionNode.TheVariants.{Entity}
use Rattle.policy.proofs.Steps.{one_step, two_steps}
use Rattle.policy.proofs.condition.write_entities.Goals as goal

pub loop-e-preserved : goal.loop-e-preserved
loop-e-preserved c = two_steps _ _ c.loop-e.invariant (one_step c.push.ensures.items c.push.ensures.len) (map_more Entity c.args.entities.now c.loop-e.e-index _ (omega arith)) (omega arith)

pub returns : goal.returns
returns c = record {
  more =
      c.loop-e.invariant.more
      ∙ ap (λ (es : List EntityUID). c.args.list.now.items ++ map Entity es) (take_all c.loop-e.e-index c.args.entities.now (omega arith));
  few = omega arith;
}
