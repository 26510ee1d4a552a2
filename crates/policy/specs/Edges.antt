-- Edge cases of conditions, of binding and of sealed texts, by computation.
use Rattle.std.specs.Prelude.{◌≡◌, ℕ, true, false, List, [], ◌∷◌, length, Some, None, Ok, Err, codes, Option, Result, refl}
use Rattle.std.proofs.Common.{lit≤}
use Rattle.refusals.specs.Refusals.{number, values}
use Rattle.refusals.specs.declared.slots.SlotId.TheVariants as slot
use Rattle.refusals.specs.declared.refusal.Refusal.{Refusal}
use Rattle.names.specs.declared.entity.EntityUID.{EntityUID}
use Rattle.clauses.specs.Book.{Clause}
use Rattle.clauses.specs.Sealed.{text_slots}
use Rattle.clauses.specs.Tree.{written}
use Rattle.policy.specs.declared.constraint.Effect.TheVariants.{Permit}
use Rattle.policy.specs.declared.constraint.EntityReference.TheVariants.{EUID, Slot}
use Rattle.policy.specs.declared.constraint.PrincipalOrResourceConstraint.{PrincipalOrResourceConstraint}
use Rattle.policy.specs.declared.constraint.PrincipalOrResourceConstraint.TheVariants as scope
use Rattle.policy.specs.declared.action.ActionList.{ActionList}
use Rattle.policy.specs.declared.action.ActionIn.TheVariants as action
use Rattle.policy.specs.declared.template.Template.{Template}
use Rattle.policy.specs.declared.node.ConditionNode.{ConditionNode}
use Rattle.policy.specs.declared.node.ConditionNode.TheVariants as node
use Rattle.policy.specs.Scopes.{ActionConstraint}
use Rattle.policy.specs.Slots.{slots_where, slot_equal}
use Rattle.policy.specs.Condition.{condition_tree}
use Rattle.policy.specs.Arity.{bindable}

-- A book of one clause, which has a slot of neither kind and is no constant.
abbrev pub one_clause : List (Clause ℕ)
one_clause = record { content = 0; slots = 0; constant = None } ∷ []

-- An entity.
abbrev pub someone : EntityUID
someone = record { ty = 1; eid = 2 }

-- Eight actions.
abbrev pub eight : ActionList
eight = record {
  items = someone ∷ someone ∷ someone ∷ someone ∷ someone ∷ someone ∷ someone ∷ someone ∷ [];
  count = 8;
  whole = refl;
  few = lit≤ tt;
  padded = refl;
}

-- A template with these scopes and this clause, and no slots.
abbrev pub slotless : PrincipalOrResourceConstraint → ActionConstraint → PrincipalOrResourceConstraint → Option ℕ → Template
slotless principal act resource clause =
    record { id = 0; effect = Permit; principal = principal; action = act; resource = resource; clause = clause; slots = slots_where (λ _. false) }

-- The nodes of the condition of a template with these scopes and this clause.
abbrev pub nodes : PrincipalOrResourceConstraint → ActionConstraint → PrincipalOrResourceConstraint → Option ℕ → List ConditionNode
nodes principal act resource clause = written (condition_tree one_clause (slotless principal act resource clause))

-- The number and the values of a refusal.
abbrev pub refusal_of : {X : Type 0} → Result X Refusal → Option (ℕ × List ℕ)
refusal_of (Ok x) = None
refusal_of (Err e) = Some (number e, values e)

-- The edge cases 1 to 5 and 7 of docs/RULES.md.
pub record Edges : Type 0 where
  -- all any, no clause: one node, true
  pub all_any : nodes scope.Any action.Any scope.Any None ≡ node.Bool true ∷ []
  -- principal eq slot, the rest any: five nodes
  pub eq_slot : nodes (scope.Eq Slot) action.Any scope.Any None
      ≡ node.Principal ∷ node.Slot slot.Principal ∷ node.Eq ∷ node.Bool true ∷ node.And ∷ []
  -- is-in twice, eight actions, a clause: 27 nodes
  pub longest : length (nodes (scope.IsIn 1 Slot) (action.In eight) (scope.IsIn 1 (EUID someone)) (Some 0)) ≡ 27
  -- a value for the principal, a slot for the resource: refusal 12 with the slots 2 and 1
  pub crossed_values : refusal_of (bindable (slots_where (λ s. slot_equal s slot.Resource)) (record { principal = Some someone; resource = None }))
      ≡ Some (12, 2 ∷ 1 ∷ [])
  -- sealed `?principals` and `"?principal"` have no slot
  pub longer_word : text_slots (codes "?principals") ≡ 0
  pub in_string : text_slots (codes "\"?principal\"") ≡ 0
  -- `?resource == a` has one
  pub resource_slot : text_slots (codes "?resource == a") ≡ 2
