-- What the parts of a condition are worth, by tests.
use Rattle.std.proofs.Common.{◌≡◌, ℕ, Bool, true, false, ◌&&◌, eqb, List, [], ◌∷◌, ◌++◌, Some, None, Option, sym, refl, ap, ◌∙◌}
use Rattle.std.proofs.lemmas.List.{append-nil}
use Rattle.refusals.specs.declared.slots.SlotId.TheVariants as slot
use Rattle.names.specs.declared.entity.EntityUID.{EntityUID}
use Rattle.clauses.specs.Book.{Clause, at, constant_of}
use Rattle.clauses.specs.Tree.{Row, none, more, Tree}
use Rattle.policy.specs.declared.constraint.EntityReference.{EntityReference}
use Rattle.policy.specs.declared.constraint.EntityReference.TheVariants.{EUID, Slot}
use Rattle.policy.specs.declared.constraint.PrincipalOrResourceConstraint.{PrincipalOrResourceConstraint}
use Rattle.policy.specs.declared.constraint.PrincipalOrResourceConstraint.TheVariants as scope
use Rattle.policy.specs.declared.action.ActionIn.TheVariants as action
use Rattle.policy.specs.declared.values.SlotEnv.{SlotEnv}
use Rattle.policy.specs.declared.template.Template.{Template}
use Rattle.policy.specs.declared.node.ConditionNode.{ConditionNode}
use Rattle.policy.specs.declared.node.ConditionNode.TheVariants as node
use Rattle.policy.specs.Scopes.{ActionConstraint, listed}
use Rattle.policy.specs.Equality.{entity_equal}
use Rattle.policy.specs.Hierarchy.{Edge, is_in}
use Rattle.policy.specs.Value.{Value, boolean, entity, set, error, slot_value, as_boolean, and_value, eq_value, in_some, entity_in, in_value, is_value}
use Rattle.policy.specs.Meaning.{World, referred, Evaluator, clause_value, KeepsConstants}
use Rattle.policy.specs.Condition.{leaf, entities, constant, both, folded, and_tree, reference_node, scope_tree, principal_tree, resource_tree, action_tree, constant_node, clause_node, condition_tree}
use Rattle.policy.specs.Evaluation.{set_value, node_value, row_values, tree_value}
use Rattle.policy.proofs.Joined.{takes_none, some_both}

abbrev pub is_true : Value → Bool
is_true (boolean b) = b
is_true (entity e) = false
is_true (set es) = false
is_true error = false

-- The scopes and the clause as tests.
abbrev pub equals_it : EntityUID → Option EntityUID → Bool
equals_it x None = false
equals_it x (Some e) = entity_equal x e

abbrev pub in_it : List Edge → EntityUID → Option EntityUID → Bool
in_it h x None = false
in_it h x (Some e) = is_in h x e

abbrev pub holds : List Edge → Option EntityUID → EntityUID → PrincipalOrResourceConstraint → Bool
holds h v x scope.Any = true
holds h v x (scope.In r) = in_it h x (referred v r)
holds h v x (scope.Eq r) = equals_it x (referred v r)
holds h v x (scope.Is t) = eqb x.ty t
holds h v x (scope.IsIn t r) = eqb x.ty t && in_it h x (referred v r)

abbrev pub holds_action : List Edge → EntityUID → ActionConstraint → Bool
holds_action h x action.Any = true
holds_action h x (action.In l) = in_some h x (listed l)
holds_action h x (action.Eq e) = entity_equal x e

as_same : (y : Value) → is_true (as_boolean y) ≡ is_true y
as_same (boolean b) = refl
as_same (entity e) = refl
as_same (set es) = refl
as_same error = refl

and_true : (x y : Value) → is_true (and_value x y) ≡ (is_true x && is_true y)
and_true (boolean true) y = as_same y
and_true (boolean false) y = refl
and_true (entity e) y = refl
and_true (set es) y = refl
and_true error y = refl

in_slot : (h : List Edge) (x : EntityUID) (v : Option EntityUID) → is_true (entity_in h x (slot_value v)) ≡ in_it h x v
in_slot h x None = refl
in_slot h x (Some e) = refl

eq_slot : (x : EntityUID) (v : Option EntityUID) → is_true (eq_value (entity x) (slot_value v)) ≡ equals_it x v
eq_slot x None = refl
eq_slot x (Some e) = refl

module _ {C : Type 0} (evaluate : Evaluator C) (cs : List (Clause C)) (w : World) (env : SlotEnv) where
  abbrev worth : Tree ConditionNode → Bool
  worth t = is_true (tree_value evaluate cs w env t)

  constant_true : (a : Tree ConditionNode) (x : Bool) → constant a.top ≡ Some x → worth a ≡ x
  constant_true a x e =
      ap (λ (n : ConditionNode). is_true (node_value evaluate cs w env n (row_values evaluate cs w env a.under))) (takes_none a.top x e).1

  folded_true : (o : Option Bool) (a b : Tree ConditionNode) → both (constant a.top) (constant b.top) ≡ o → worth (folded o a b) ≡ (worth a && worth b)
  folded_true None a b e = and_true (tree_value evaluate cs w env a) (tree_value evaluate cs w env b)
  folded_true (Some c) a b e =
      let s = some_both (constant a.top) (constant b.top) c (sym e) in
      let p = constant_true a s.0 s.2 in
      let q = constant_true b s.1 s.3 in
      let k : Some c ≡ both (Some s.0) (Some s.1) = sym e ∙ (λ i. both (s.2 i) (s.3 i)) in
      let m : c ≡ (s.0 && s.1) = cc in
      m ∙ (λ i. sym p i && sym q i)

  -- Folding keeps the meaning of `and`.
  pub join_true : (a b : Tree ConditionNode) (p q : Bool) → worth a ≡ p → worth b ≡ q → worth (and_tree a b) ≡ (p && q)
  join_true a b p q e f = folded_true (both (constant a.top) (constant b.top)) a b refl ∙ (λ i. e i && f i)

  module _ (v s : ConditionNode) (x : EntityUID) (o : Option EntityUID)
      (ev : node_value evaluate cs w env v [] ≡ entity x) (es : node_value evaluate cs w env s [] ≡ slot_value o) where
    reference_worth : (r : EntityReference) → node_value evaluate cs w env (reference_node s r) [] ≡ slot_value (referred o r)
    reference_worth (EUID e) = refl
    reference_worth Slot = es

    in_true : (r : EntityReference)
        → is_true (in_value w.hierarchy (node_value evaluate cs w env v []) (node_value evaluate cs w env (reference_node s r) [])) ≡ in_it w.hierarchy x (referred o r)
    in_true r = (λ i. is_true (in_value w.hierarchy (ev i) (reference_worth r i))) ∙ in_slot w.hierarchy x (referred o r)

    scope_true : (c : PrincipalOrResourceConstraint) → worth (scope_tree v s c) ≡ holds w.hierarchy o x c
    scope_true scope.Any = refl
    scope_true (scope.In r) = in_true r
    scope_true (scope.Eq r) = (λ i. is_true (eq_value (ev i) (reference_worth r i))) ∙ eq_slot x (referred o r)
    scope_true (scope.Is t) = ap (λ (a : Value). is_true (is_value t a)) ev
    scope_true (scope.IsIn t r) =
        and_true (is_value t (node_value evaluate cs w env v [])) (in_value w.hierarchy (node_value evaluate cs w env v []) (node_value evaluate cs w env (reference_node s r) []))
        ∙ (λ i. is_true (is_value t (ev i)) && in_true r i)

  gathered : (f : Row ConditionNode) (es fs : List EntityUID)
      → set_value (set fs) (row_values evaluate cs w env (entities f es)) ≡ set_value (set (es ++ fs)) (row_values evaluate cs w env f)
  gathered f [] fs = refl
  gathered f (e ∷ es) fs = gathered (more f (node.Entity e) none) es fs

  pub action_true : (a : ActionConstraint) → worth (action_tree a) ≡ holds_action w.hierarchy w.action a
  action_true action.Any = refl
  action_true (action.In l) =
      ap (λ (b : Value). is_true (entity_in w.hierarchy w.action b)) (gathered none (listed l) [])
      ∙ ap (λ (es : List EntityUID). in_some w.hierarchy w.action es) (append-nil (listed l))
  action_true (action.Eq e) = refl

  pub principal_true : (c : PrincipalOrResourceConstraint) → worth (principal_tree c) ≡ holds w.hierarchy env.principal w.principal c
  principal_true c = scope_true node.Principal (node.Slot slot.Principal) w.principal env.principal refl refl c

  pub resource_true : (c : PrincipalOrResourceConstraint) → worth (resource_tree c) ≡ holds w.hierarchy env.resource w.resource c
  resource_true c = scope_true node.Resource (node.Slot slot.Resource) w.resource env.resource refl refl c

  abbrev pub holds_clause : Option ℕ → Bool
  holds_clause None = true
  holds_clause (Some n) = is_true (clause_value evaluate cs w env n)

  listed_true : (n : ℕ) (o : Option Bool) → ((b : Bool) → o ≡ Some b → clause_value evaluate cs w env n ≡ boolean b)
      → worth (leaf (constant_node n o)) ≡ is_true (clause_value evaluate cs w env n)
  listed_true n None f = refl
  listed_true n (Some b) f = sym (ap is_true (f b refl))

  pub clause_true : KeepsConstants evaluate cs → (c : Option ℕ) → worth (leaf (clause_node cs c)) ≡ holds_clause c
  clause_true k None = refl
  clause_true k (Some n) = listed_true n (constant_of (at cs n)) (λ b e. k n b e w env)

  -- The condition's worth as one test.
  abbrev pub applies : Template → Bool
  applies t =
      holds w.hierarchy env.principal w.principal t.principal
      && (holds_action w.hierarchy w.action t.action
      && (holds w.hierarchy env.resource w.resource t.resource && holds_clause t.clause))

  pub condition_true : KeepsConstants evaluate cs → (t : Template) → worth (condition_tree cs t) ≡ applies t
  condition_true k t =
      let r = resource_tree t.resource in
      let c = leaf (clause_node cs t.clause) in
      let a = action_tree t.action in
      join_true (principal_tree t.principal) (and_tree a (and_tree r c)) _ _ (principal_true t.principal)
      (join_true a (and_tree r c) _ _ (action_true t.action)
      (join_true r c _ _ (resource_true t.resource) (clause_true k t.clause)))
