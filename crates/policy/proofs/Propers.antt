-- A condition is one proper tree: each node stands over as many operands as it takes.
use Rattle.std.proofs.Common.{◌≡◌, ℕ, ◌+◌, Bool, List, [], ◌∷◌, length, Some, None, Option, sym, refl, arith}
use Rattle.refusals.specs.declared.slots.SlotId.TheVariants as slot
use Rattle.names.specs.declared.entity.EntityUID.{EntityUID}
use Rattle.clauses.specs.Book.{Clause, at, constant_of}
use Rattle.clauses.specs.Tree.{Row, none, more, Tree, count, Proper, alone}
use Rattle.policy.specs.declared.constraint.EntityReference.{EntityReference}
use Rattle.policy.specs.declared.constraint.EntityReference.TheVariants.{EUID, Slot}
use Rattle.policy.specs.declared.constraint.PrincipalOrResourceConstraint.{PrincipalOrResourceConstraint}
use Rattle.policy.specs.declared.constraint.PrincipalOrResourceConstraint.TheVariants as scope
use Rattle.policy.specs.declared.action.ActionIn.TheVariants as action
use Rattle.policy.specs.declared.template.Template.{Template}
use Rattle.policy.specs.declared.node.ConditionNode.{ConditionNode}
use Rattle.policy.specs.declared.node.ConditionNode.TheVariants as node
use Rattle.policy.specs.Scopes.{ActionConstraint, listed}
use Rattle.policy.specs.Condition.{arity, leaf, over_two, entities, constant, both, folded, and_tree, reference_node, scope_tree, principal_tree, resource_tree, action_tree, constant_node, clause_node, condition_tree}

abbrev pub Good : Tree ConditionNode → Type 0
Good t = Proper arity (alone t)

good_leaf : (n : ConditionNode) → arity n ≡ 0 → Good (leaf n)
good_leaf n e = (tt, tt, sym e)

good_two : (n : ConditionNode) (a b : Tree ConditionNode) → arity n ≡ 2 → Good a → Good b → Good (over_two n a b)
good_two n a b e p q = (tt, (p, q.1, q.2), sym e)

good_folded : (o : Option Bool) (a b : Tree ConditionNode) → Good a → Good b → Good (folded o a b)
good_folded None a b p q = good_two node.And a b refl p q
good_folded (Some c) a b p q = (tt, tt, refl)

pub good_and : (a b : Tree ConditionNode) → Good a → Good b → Good (and_tree a b)
good_and a b = good_folded (both (constant a.top) (constant b.top)) a b

module _ (v s : ConditionNode) (ev : arity v ≡ 0) (es : arity s ≡ 0) where
  good_reference : (r : EntityReference) → Good (leaf (reference_node s r))
  good_reference (EUID e) = (tt, tt, refl)
  good_reference Slot = good_leaf s es

  good_scope : (c : PrincipalOrResourceConstraint) → Good (scope_tree v s c)
  good_scope scope.Any = (tt, tt, refl)
  good_scope (scope.In r) = good_two node.In (leaf v) (leaf (reference_node s r)) refl (good_leaf v ev) (good_reference r)
  good_scope (scope.Eq r) = good_two node.Eq (leaf v) (leaf (reference_node s r)) refl (good_leaf v ev) (good_reference r)
  good_scope (scope.Is t) = (tt, good_leaf v ev, refl)
  good_scope (scope.IsIn t r) =
      (tt, ((tt, good_leaf v ev, refl), ((tt, tt, sym ev), (good_reference r).1, (good_reference r).2), refl), refl)

pub good_principal : (c : PrincipalOrResourceConstraint) → Good (principal_tree c)
good_principal c = good_scope node.Principal (node.Slot slot.Principal) refl refl c

pub good_resource : (c : PrincipalOrResourceConstraint) → Good (resource_tree c)
good_resource c = good_scope node.Resource (node.Slot slot.Resource) refl refl c

count-entities : (f : Row ConditionNode) (es : List EntityUID) → count (entities f es) ≡ count f + length es
count-entities f [] = omega arith
count-entities f (e ∷ es) = let h = count-entities (more f (node.Entity e) none) es in omega arith

proper_entities : (f : Row ConditionNode) (es : List EntityUID) → Proper arity f → Proper arity (entities f es)
proper_entities f [] p = p
proper_entities f (e ∷ es) p = proper_entities (more f (node.Entity e) none) es (p, tt, refl)

pub good_action : (a : ActionConstraint) → Good (action_tree a)
good_action action.Any = (tt, tt, refl)
good_action (action.In l) =
    (tt, ((tt, tt, refl), proper_entities none (listed l) tt, (let h = count-entities none (listed l) in omega arith)), refl)
good_action (action.Eq e) = (tt, ((tt, tt, refl), tt, refl), refl)

good_constant : (n : ℕ) (o : Option Bool) → Good (leaf (constant_node n o))
good_constant n None = (tt, tt, refl)
good_constant n (Some b) = (tt, tt, refl)

pub good_clause : {C : Type 0} (cs : List (Clause C)) (c : Option ℕ) → Good (leaf (clause_node cs c))
good_clause cs None = (tt, tt, refl)
good_clause cs (Some n) = good_constant n (constant_of (at cs n))

pub good_condition : {C : Type 0} (cs : List (Clause C)) (t : Template) → Good (condition_tree cs t)
good_condition cs t =
    let last = and_tree (resource_tree t.resource) (leaf (clause_node cs t.clause)) in
    let good-last = good_and (resource_tree t.resource) (leaf (clause_node cs t.clause)) (good_resource t.resource) (good_clause cs t.clause) in
    good_and (principal_tree t.principal) (and_tree (action_tree t.action) last) (good_principal t.principal)
    (good_and (action_tree t.action) last (good_action t.action) good-last)
