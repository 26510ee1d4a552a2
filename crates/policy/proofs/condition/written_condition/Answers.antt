use Rattle.std.proofs.Common.{◌≡◌, List, [], ◌∷◌, ◌++◌, ap, ◌∙◌, append_assoc}
use Rattle.clauses.specs.Tree.{Tree, written}
use Rattle.policy.specs.declared.node.ConditionNode.{ConditionNode}
use Rattle.policy.specs.Condition.{leaf, and_tree, principal_tree, action_tree, resource_tree, clause_node}
use Rattle.policy.specs.Nodes.{NodeList, Joins}
use Rattle.policy.proofs.Propers.{Good, good_and, good_principal, good_action, good_resource, good_clause}
use Rattle.policy.proofs.condition.written_condition.Goals as goal

-- Three trees and a node are written, and joined from the last on.
module _ (p a r : Tree ConditionNode) (n : ConditionNode) (gp : Good p) (ga : Good a) (gr : Good r) (gn : Good (leaf n)) where
  in_turn : {l0 l1 l2 l3 l4 : List ConditionNode} → l0 ≡ [] → l1 ≡ l0 ++ written p → l2 ≡ l1 ++ written a → l3 ≡ l2 ++ written r → l4 ≡ l3 ++ (n ∷ [])
      → l4 ≡ (written p ++ written a) ++ (written r ++ (n ∷ []))
  in_turn e0 e1 e2 e3 e4 =
      let x = e1 ∙ ap (λ (l : List ConditionNode). l ++ written p) e0 in
      let y = e2 ∙ ap (λ (l : List ConditionNode). l ++ written a) x in
      let z = e3 ∙ ap (λ (l : List ConditionNode). l ++ written r) y in
      e4 ∙ ap (λ (l : List ConditionNode). l ++ (n ∷ [])) z ∙ append_assoc (written p ++ written a) (written r) (n ∷ [])

  all_joined : {l4 l5 l6 l7 : NodeList} → l4.items ≡ (written p ++ written a) ++ (written r ++ (n ∷ [])) → Joins l4 l5 → Joins l5 l6 → Joins l6 l7
      → l7.items ≡ written (and_tree p (and_tree a (and_tree r (leaf n))))
  all_joined e j k m =
      let last = and_tree r (leaf n) in
      let middle = and_tree a last in
      let good-last = good_and r (leaf n) gr gn in
      let x = j.joined (written p ++ written a) r (leaf n) gr gn e in
      let y = k.joined (written p) a last ga good-last (x ∙ append_assoc (written p) (written a) (written last)) in
      m.joined [] p middle gp (good_and a last ga good-last) y

pub returns : goal.returns
returns g c =
    let t = c.args.t.now in
    let cs = g.B.ClauseBook.listed c.args.clauses.now in
    let p = principal_tree t.principal in
    let a = action_tree t.action in
    let r = resource_tree t.resource in
    let n = clause_node cs t.clause in
    let wrote = c.push.ensures.items ∙ ap (λ (x : ConditionNode). c.write_scope-2.new.list.items ++ (x ∷ [])) c.clause_node.ensures in
    let gp = good_principal t.principal in
    let ga = good_action t.action in
    let gr = good_resource t.resource in
    let gn = good_clause cs t.clause in
    all_joined p a r n gp ga gr gn
    (in_turn p a r n gp ga gr gn c.new-list.ensures c.write_scope.ensures.more c.write_action.ensures.more c.write_scope-2.ensures.more wrote)
    c.and.ensures c.and-2.ensures c.and-3.ensures
