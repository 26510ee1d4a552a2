-- The edge cases: of conditions, of sealed texts, of validation, of binding and of linking.
use Rattle.std.specs.Prelude.{◌≡◌, ℕ, true, List, [], ◌∷◌, length, Some, None, codes, refl}
use Rattle.std.proofs.Common.{lit≤}
use Rattle.refusals.specs.declared.slots.SlotId.TheVariants as slot
use Rattle.names.specs.declared.entity.EntityUID.{EntityUID}
use Rattle.clauses.specs.Sealed.{text_slots}
use Rattle.policy.specs.declared.constraint.EntityReference.TheVariants.{EUID, Slot}
use Rattle.policy.specs.declared.constraint.PrincipalOrResourceConstraint.TheVariants as scope
use Rattle.policy.specs.declared.action.ActionList.{ActionList}
use Rattle.policy.specs.declared.action.ActionIn.TheVariants as action
use Rattle.policy.specs.declared.node.ConditionNode.TheVariants as node
use Rattle.policy.specs.Edges.{one_clause, someone, eight, slotless, nodes, refusal_of}
use Rattle.policy.specs.Slots.{slots_where, slot_equal}
use Rattle.policy.specs.Arity.{bindable}
use Rattle.policy.specs.declared.values.SlotEnv.{SlotEnv}
use Rattle.policy_set.specs.Maps.{Maps}
use Rattle.policy_set.specs.Answers.{empty, add_static_after, link_answer}
use Rattle.policy_set.specs.Validation.{try_validate_answer}

-- What stands past the last action of a list.
abbrev blank_entity : EntityUID
blank_entity = record { ty = 0; eid = 0 }

-- A name book with the id 0, an entity's id 1 and three types.
abbrev book : List (List ℕ)
book = codes "a" ∷ codes "e" ∷ codes "Action" ∷ codes "User" ∷ codes "N::Action" ∷ []

-- Three actions, of the types `Action`, `User` and `N::Action`.
abbrev three : ActionList
three = record {
  items = record { ty = 2; eid = 1 } ∷ record { ty = 3; eid = 1 } ∷ record { ty = 4; eid = 1 } ∷ blank_entity ∷ blank_entity ∷ blank_entity ∷ blank_entity ∷ blank_entity ∷ [];
  count = 3;
  whole = refl;
  few = lit≤ tt;
  padded = refl;
}

-- No values.
abbrev no_values : SlotEnv
no_values = record { principal = None; resource = None }

-- A set with one static policy, under the id 0.
abbrev one_static : Maps
one_static = add_static_after 2 one_clause empty (slotless scope.Any action.Any scope.Any None)

-- The edge cases of docs/RULES.md, under their numbers there.
pub record Edges : Type 0 where
  -- 1: all any, no clause: one node, true
  pub all_any : nodes scope.Any action.Any scope.Any None ≡ node.Bool true ∷ []
  -- 2: principal eq slot, the rest any: five nodes
  pub eq_slot : nodes (scope.Eq Slot) action.Any scope.Any None
      ≡ node.Principal ∷ node.Slot slot.Principal ∷ node.Eq ∷ node.Bool true ∷ node.And ∷ []
  -- 3: is-in twice, eight actions, a clause: 27 nodes
  pub longest : length (nodes (scope.IsIn 1 Slot) (action.In eight) (scope.IsIn 1 (EUID someone)) (Some 0)) ≡ 27
  -- 4: sealed `?principals` and `"?principal"` have no slot
  pub longer_word : text_slots (codes "?principals") ≡ 0
  pub in_string : text_slots (codes "\"?principal\"") ≡ 0
  -- 5: `?resource == a` has one
  pub resource_slot : text_slots (codes "?resource == a") ≡ 2
  -- 6: actions of the types `Action`, `User`, `N::Action`: refusal 23 with the id and the mask 2
  pub action_mask : refusal_of (try_validate_answer book one_clause (slotless scope.Any (action.In three) scope.Any None ∷ [])) ≡ Some (23, 0 ∷ 2 ∷ [])
  -- 7: a value for the principal, a slot for the resource: refusal 12 with the slots 2 and 1
  pub crossed_values : refusal_of (bindable (slots_where (λ s. slot_equal s slot.Resource)) (record { principal = Some someone; resource = None }))
      ≡ Some (12, 2 ∷ 1 ∷ [])
  -- 8: a static policy: linking it under another id without values is refused with 25, under its own id with 13
  pub link_of_static : refusal_of (link_answer 2 one_static 0 1 no_values) ≡ Some (25, 0 ∷ [])
  pub link_as_static : refusal_of (link_answer 2 one_static 0 0 no_values) ≡ Some (13, 0 ∷ [])
