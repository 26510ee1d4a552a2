-- The slots of a condition, part by part.
use Rattle.std.proofs.Common.{◌≡◌, ℕ, Bool, false, ◌&&◌, ◌||◌, List, [], ◌∷◌, ◌++◌, map, Some, None, Option, sym, refl, ap, ◌∙◌}
use Rattle.std.proofs.Math.Bool.{or_assoc, or-false}
use Rattle.refusals.specs.declared.slots.SlotId.{SlotId}
use Rattle.refusals.specs.declared.slots.SlotId.TheVariants.{Principal, Resource}
use Rattle.names.specs.declared.entity.EntityUID.{EntityUID}
use Rattle.clauses.specs.Book.{Clause, Lawful, at, slots_of, constant_of}
use Rattle.clauses.specs.Tree.{Tree, written}
use Rattle.policy.specs.declared.constraint.EntityReference.{EntityReference}
use Rattle.policy.specs.declared.constraint.EntityReference.TheVariants.{EUID, Slot}
use Rattle.policy.specs.declared.constraint.PrincipalOrResourceConstraint.{PrincipalOrResourceConstraint}
use Rattle.policy.specs.declared.constraint.PrincipalOrResourceConstraint.TheVariants as scope
use Rattle.policy.specs.declared.action.ActionIn.TheVariants as action
use Rattle.policy.specs.declared.template.Template.{Template}
use Rattle.policy.specs.declared.node.ConditionNode.{ConditionNode}
use Rattle.policy.specs.declared.node.ConditionNode.TheVariants as node
use Rattle.policy.specs.Scopes.{ActionConstraint, listed}
use Rattle.policy.specs.Filling.{slotted}
use Rattle.policy.specs.Slots.{has_bit, slot_equal}
use Rattle.policy.specs.Condition.{leaf, constant, both, folded, and_tree, reference_node, scope_tree, principal_tree, resource_tree, action_tree, constant_node, clause_node, condition_tree}
use Rattle.policy.specs.Mentions.{mentions, mentioned, clause_has, part_has}
use Rattle.policy.proofs.Joined.{takes_none, written-constant, some_both}
use Rattle.policy.proofs.Propers.{Good, good_and, good_principal, good_action, good_resource, good_clause}
use Rattle.policy.proofs.Trees.{written_actions}

module _ {C : Type 0} (cs : List (Clause C)) (slot : SlotId) where
  abbrev here : List ConditionNode → Bool
  here ns = mentioned cs slot ns

  here_append : (xs ys : List ConditionNode) → here (xs ++ ys) ≡ (here xs || here ys)
  here_append [] ys = refl
  here_append (n ∷ xs) ys = ap (λ (b : Bool). mentions cs slot n || b) (here_append xs ys) ∙ sym (or_assoc (mentions cs slot n) (here xs) (here ys))

  -- A constant mentions no slot.
  here_constant : (t : Tree ConditionNode) (x : Bool) → Good t → constant t.top ≡ Some x → here (written t) ≡ false
  here_constant t x p e =
      ap here (written-constant t x p e) ∙ ap (λ (n : ConditionNode). here (n ∷ [])) (takes_none t.top x e).1

  here_folded : (o : Option Bool) (a b : Tree ConditionNode) → Good a → Good b → both (constant a.top) (constant b.top) ≡ o
      → here (written (folded o a b)) ≡ (here (written a) || here (written b))
  here_folded None a b p q e =
      here_append (written a ++ written b) (node.And ∷ []) ∙ or-false (here (written a ++ written b)) ∙ here_append (written a) (written b)
  here_folded (Some c) a b p q e =
      let s = some_both (constant a.top) (constant b.top) c (sym e) in
      let x = here_constant a s.0 p s.2 in
      let y = here_constant b s.1 q s.3 in
      sym (λ i. x i || y i)

  here_and : (a b : Tree ConditionNode) → Good a → Good b → here (written (and_tree a b)) ≡ (here (written a) || here (written b))
  here_and a b p q = here_folded (both (constant a.top) (constant b.top)) a b p q refl

  module _ (v s : ConditionNode) (test : Bool) (ev : mentions cs slot v ≡ false) (es : mentions cs slot s ≡ test) where
    here_reference : (r : EntityReference) → mentions cs slot (reference_node s r) ≡ (slotted (scope.In r) && test)
    here_reference (EUID e) = refl
    here_reference Slot = es

    here_scope : (c : PrincipalOrResourceConstraint) → here (written (scope_tree v s c)) ≡ (slotted c && test)
    here_scope scope.Any = refl
    here_scope (scope.In r) = (λ i. ev i || (here_reference r i || false)) ∙ or-false (slotted (scope.In r) && test)
    here_scope (scope.Eq r) = (λ i. ev i || (here_reference r i || false)) ∙ or-false (slotted (scope.In r) && test)
    here_scope (scope.Is t) = (λ i. ev i || false)
    here_scope (scope.IsIn t r) = (λ i. ev i || (ev i || (here_reference r i || false))) ∙ or-false (slotted (scope.In r) && test)

  here_principal : (c : PrincipalOrResourceConstraint) → here (written (principal_tree c)) ≡ (slotted c && slot_equal slot Principal)
  here_principal c = here_scope node.Principal (node.Slot Principal) (slot_equal slot Principal) refl refl c

  here_resource : (c : PrincipalOrResourceConstraint) → here (written (resource_tree c)) ≡ (slotted c && slot_equal slot Resource)
  here_resource c = here_scope node.Resource (node.Slot Resource) (slot_equal slot Resource) refl refl c

  here_entities : (es : List EntityUID) (ns : List ConditionNode) → here (map node.Entity es ++ ns) ≡ here ns
  here_entities [] ns = refl
  here_entities (e ∷ es) ns = here_entities es ns

  here_action : (a : ActionConstraint) → here (written (action_tree a)) ≡ false
  here_action action.Any = refl
  here_action (action.In l) = ap here (written_actions (listed l) _ refl) ∙ here_entities (listed l) (node.Set _ ∷ node.In ∷ [])
  here_action (action.Eq e) = refl

  module _ (lawful : Lawful cs) where
    no_bit : (slot : SlotId) → has_bit slot 0 ≡ false
    no_bit Principal = refl
    no_bit Resource = refl

    here_listed : (n : ℕ) (o : Option Bool) → constant_of (at cs n) ≡ o → here (constant_node n o ∷ []) ≡ has_bit slot (slots_of (at cs n))
    here_listed n None e = or-false (has_bit slot (slots_of (at cs n)))
    here_listed n (Some b) e = sym (ap (has_bit slot) (lawful.constant_slotless n b e) ∙ no_bit slot)

    here_clause : (c : Option ℕ) → here (clause_node cs c ∷ []) ≡ clause_has cs c slot
    here_clause None = refl
    here_clause (Some n) = here_listed n (constant_of (at cs n)) refl

    -- The slots that stand in the condition are those of the scopes and of the clause.
    pub here_condition : (t : Template) → here (written (condition_tree cs t)) ≡ part_has cs t.principal t.resource t.clause slot
    here_condition t =
        let p = principal_tree t.principal in
        let a = action_tree t.action in
        let r = resource_tree t.resource in
        let c = leaf (clause_node cs t.clause) in
        let gr = good_and r c (good_resource t.resource) (good_clause cs t.clause) in
        here_and p (and_tree a (and_tree r c)) (good_principal t.principal) (good_and a (and_tree r c) (good_action t.action) gr)
        ∙ ap (λ (b : Bool). here (written p) || b)
        (here_and a (and_tree r c) (good_action t.action) gr
        ∙ (λ i. here_action t.action i || here_and r c (good_resource t.resource) (good_clause cs t.clause) i))
        ∙ (λ i. here_principal t.principal i || (here_resource t.resource i || here_clause t.clause i))
        ∙ sym (or_assoc (slotted t.principal && slot_equal slot Principal) (slotted t.resource && slot_equal slot Resource) (clause_has cs t.clause slot))
