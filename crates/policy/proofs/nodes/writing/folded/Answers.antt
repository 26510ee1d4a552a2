use Rattle.std.proofs.Common.{false, ap, ◌∙◌, arith, ltb-false, ltb-true}
use Rattle.std.proofs.lemmas.Bool.{false≢true}
use Rattle.policy.specs.declared.node.ConditionNode.TheVariants as node
use Rattle.policy.specs.Condition.{both, constant}
use Rattle.policy.proofs.Ends.{last, last_but_one, two_there}
use Rattle.policy.proofs.nodes.writing.folded.Goals as goal

pub returns-in_default : goal.returns-in_default
returns-in_default c = record {
  there = λ h. absurd (false≢true h);
  last_two = λ f a b e. let n = two_there _ f a b e in absurd (omega (arith, ltb-true));
}

pub returns-in-len2-up : goal.returns-in-len2-up
returns-in-len2-up c = record {
  there = λ h. omega (arith, ltb-false);
  last_two = λ f a b e.
      let p = c.constant.ensures ∙ ap constant (last_but_one _ f a b (node.Bool false) e) in
      let q = c.constant-in-len2-up.ensures ∙ ap constant (last _ f a b (node.Bool false) e) in
      c.both_constants.ensures ∙ (λ i. both (p i) (q i));
}
