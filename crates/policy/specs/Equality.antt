-- When two templates are equal, and two policies.
use Rattle.std.specs.Prelude.{ℕ, Bool, true, false, ◌&&◌, Some, None, Option, ◌==◌, nat_eq}
use Rattle.std.specs.Cmp.Lexicographic.{pointwise}
pub use Rattle.names.specs.Entities.{entity_equal}
use Rattle.policy.specs.declared.constraint.Effect.{Effect}
use Rattle.policy.specs.declared.constraint.Effect.TheVariants.{Permit, Forbid}
use Rattle.policy.specs.declared.constraint.EntityReference.{EntityReference}
use Rattle.policy.specs.declared.constraint.EntityReference.TheVariants.{EUID, Slot}
use Rattle.policy.specs.declared.constraint.PrincipalOrResourceConstraint.{PrincipalOrResourceConstraint}
use Rattle.policy.specs.declared.action.ActionIn.TheVariants as action
use Rattle.policy.specs.declared.values.SlotEnv.{SlotEnv}
use Rattle.policy.specs.declared.template.Template.{Template}
use Rattle.policy.specs.declared.bound.Policy.{Policy}
use Rattle.policy.specs.Scopes.{ActionConstraint, kind, type_of, reference_of, listed}

-- Whether two effects are the same.
abbrev pub effect_equal : Effect → Effect → Bool
effect_equal Permit Permit = true
effect_equal Permit Forbid = false
effect_equal Forbid Permit = false
effect_equal Forbid Forbid = true

-- Two references are equal when both are the slot, or entities that are equal.
abbrev pub reference_equal : EntityReference → EntityReference → Bool
reference_equal (EUID a) (EUID b) = entity_equal a b
reference_equal (EUID a) Slot = false
reference_equal Slot (EUID b) = false
reference_equal Slot Slot = true

-- Both absent, or both there and equal.
abbrev pub option_equal : {X : Type 0} → (X → X → Bool) → Option X → Option X → Bool
option_equal same None None = true
option_equal same None (Some b) = false
option_equal same (Some a) None = false
option_equal same (Some a) (Some b) = same a b

-- Scopes are equal when they are of one kind, with equal types and references.
abbrev pub scope_equal : PrincipalOrResourceConstraint → PrincipalOrResourceConstraint → Bool
scope_equal a b =
    (kind a == kind b)
    && (option_equal nat_eq (type_of a) (type_of b) && option_equal reference_equal (reference_of a) (reference_of b))

-- Action lists are equal place by place.
abbrev pub action_equal : ActionConstraint → ActionConstraint → Bool
action_equal action.Any action.Any = true
action_equal action.Any (action.In l) = false
action_equal action.Any (action.Eq e) = false
action_equal (action.In l) action.Any = false
action_equal (action.In l) (action.In m) = pointwise entity_equal (listed l) (listed m)
action_equal (action.In l) (action.Eq e) = false
action_equal (action.Eq e) action.Any = false
action_equal (action.Eq e) (action.In l) = false
action_equal (action.Eq e) (action.Eq f) = entity_equal e f

-- The three scopes of two templates are equal.
abbrev pub scopes_equal : Template → Template → Bool
scopes_equal a b =
    scope_equal a.principal b.principal
    && (action_equal a.action b.action && scope_equal a.resource b.resource)

-- Every field is equal, the clauses by `same`.
abbrev pub template_equal : (ℕ → ℕ → Bool) → Template → Template → Bool
template_equal same a b =
    (a.id == b.id)
    && (effect_equal a.effect b.effect
    && (scopes_equal a b
    && (option_equal same a.clause b.clause && a.slots.bits == b.slots.bits)))

-- Both slots have equal values, or none.
abbrev pub values_equal : SlotEnv → SlotEnv → Bool
values_equal a b = option_equal entity_equal a.principal b.principal && option_equal entity_equal a.resource b.resource

-- Templates, link ids and values are equal.
abbrev pub policy_equal : (ℕ → ℕ → Bool) → Policy → Policy → Bool
policy_equal same a b =
    template_equal same a.template b.template
    && (option_equal nat_eq a.link b.link && values_equal a.values b.values)
