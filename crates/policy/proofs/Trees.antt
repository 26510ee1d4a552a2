-- The writing of the parts of a condition.
use Rattle.std.proofs.Common.{◌≡◌, ℕ, List, [], ◌∷◌, ◌++◌, map, length, sym, ap, ◌∙◌, append_assoc}
use Rattle.std.proofs.lemmas.List.{append-nil}
use Rattle.names.specs.declared.entity.EntityUID.{EntityUID}
use Rattle.clauses.specs.Tree.{Row, none, more, written, writing}
use Rattle.policy.specs.declared.node.ConditionNode.{ConditionNode}
use Rattle.policy.specs.declared.node.ConditionNode.TheVariants as node
use Rattle.policy.specs.Condition.{leaf, over_two, entities, set_tree}

writing-entities : (f : Row ConditionNode) (es : List EntityUID) → writing (entities f es) ≡ writing f ++ map node.Entity es
writing-entities f [] = sym (append-nil (writing f))
writing-entities f (e ∷ es) = writing-entities (more f (node.Entity e) none) es ∙ append_assoc (writing f) (node.Entity e ∷ []) (map node.Entity es)

-- A list of actions: the variable, the entities, the set, `in`.
pub written_actions : (es : List EntityUID) (n : ℕ) → n ≡ length es
    → written (over_two node.In (leaf node.Action) (set_tree es)) ≡ (node.Action ∷ []) ++ (map node.Entity es ++ (node.Set n ∷ node.In ∷ []))
written_actions es n e =
    ap (λ (k : ℕ). node.Action ∷ ((writing (entities none es) ++ (node.Set k ∷ [])) ++ (node.In ∷ []))) (sym e)
    ∙ ap (λ (x : List ConditionNode). node.Action ∷ ((x ++ (node.Set n ∷ [])) ++ (node.In ∷ []))) (writing-entities none es)
    ∙ ap (λ (x : List ConditionNode). node.Action ∷ x) (append_assoc (map node.Entity es) (node.Set n ∷ []) (node.In ∷ []))
