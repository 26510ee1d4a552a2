use Rattle.std.proofs.Common.{◌≡◌, ℕ, ◌-◌, List, [], ◌∷◌, ◌++◌, length, take, None, sym, ap, refl, ◌∙◌, arith}
use Rattle.policy.specs.declared.node.ConditionNode.{ConditionNode}
use Rattle.policy.specs.declared.node.ConditionNode.TheVariants as node
use Rattle.policy.proofs.Joined.{joined_open, joined_constants}
use Rattle.policy.proofs.nodes.writing.and.Goals as goal

shorter : (ns ms : List ConditionNode) (n : ℕ) → ms ≡ ns → n ≡ length ns → take (n - 2) ns ≡ take (length ms - 2) ms
shorter ns ms n e l = (λ i. take (l i - 2) ns) ∙ sym (λ i. take (length (e i) - 2) (e i))

pub returns-in-Some : goal.returns-in-Some
returns-in-Some c = record {
  joined = λ f a b pa pb e.
      c.push.ensures.items
      ∙ ap (λ (ns : List ConditionNode). ns ++ (node.Bool c.in-Some.value ∷ [])) (c.truncate.ensures.items ∙ shorter c.args.list.now.items c.as_slice.result.now _ c.as_slice.ensures.value c.len.ensures.value)
      ∙ joined_constants c.as_slice.result.now f a b pa pb (c.as_slice.ensures.value ∙ e) c.in-Some.value c.in-Some.ensures;
  few = omega (arith, c.push.ensures.len, c.truncate.ensures.len);
}

pub returns-in-None : goal.returns-in-None
returns-in-None c = record {
  joined = λ f a b pa pb e.
      c.push-in-None.ensures.items
      ∙ ap (λ (ns : List ConditionNode). ns ++ (node.And ∷ [])) (sym c.as_slice.ensures.value)
      ∙ joined_open c.as_slice.result.now f a b pa pb (c.as_slice.ensures.value ∙ e) None c.in-None.ensures refl;
  few = omega (arith, c.push-in-None.ensures.len);
}
