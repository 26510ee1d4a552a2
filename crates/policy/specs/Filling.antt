-- Filling the slot of a scope with its value.
use Rattle.std.specs.Prelude.{◌≡◌, Bool, true, false, List, is_some, Some, None, Option}
use Rattle.names.specs.declared.entity.EntityUID.{EntityUID}
use Rattle.policy.specs.declared.constraint.EntityReference.{EntityReference}
use Rattle.policy.specs.declared.constraint.EntityReference.TheVariants.{EUID, Slot}
use Rattle.policy.specs.declared.constraint.PrincipalOrResourceConstraint.{PrincipalOrResourceConstraint}
use Rattle.policy.specs.declared.constraint.PrincipalOrResourceConstraint.TheVariants as scope
use Rattle.policy.specs.Hierarchy.{Edge}
use Rattle.policy.specs.Meaning.{Holds}
use Rattle.policy.specs.Scopes.{reference_of}

-- A slot that has a value becomes that entity; nothing else changes.
abbrev pub fill_reference : Option EntityUID → EntityReference → EntityReference
fill_reference value (EUID e) = EUID e
fill_reference None Slot = Slot
fill_reference (Some e) Slot = EUID e

-- A scope with its slot filled, where it refers to the slot and the slot has a value.
abbrev pub fill : Option EntityUID → PrincipalOrResourceConstraint → PrincipalOrResourceConstraint
fill value scope.Any = scope.Any
fill value (scope.In r) = scope.In (fill_reference value r)
fill value (scope.Eq r) = scope.Eq (fill_reference value r)
fill value (scope.Is t) = scope.Is t
fill value (scope.IsIn t r) = scope.IsIn t (fill_reference value r)

-- Whether what a scope refers to is its slot.
abbrev pub is_slot : Option EntityReference → Bool
is_slot None = false
is_slot (Some (EUID e)) = false
is_slot (Some Slot) = true

-- Whether the scope refers to its slot.
abbrev pub slotted : PrincipalOrResourceConstraint → Bool
slotted s = is_slot (reference_of s)

-- Each of two facts follows from the other.
abbrev pub Iff : Type 0 → Type 0 → Type 0
Iff A B = (A → B) × (B → A)

-- The laws of filling a scope.
pub record Fills (value : Option EntityUID) (s : PrincipalOrResourceConstraint) : Type 0 where
  -- under the slot's value the filled scope holds exactly when the scope does
  pub keeps : (h : List Edge) (x : EntityUID) → Iff (Holds h value x (fill value s)) (Holds h value x s)
  -- a slot that has a value is gone
  pub closes : (slotted s ≡ true → is_some value ≡ true) → slotted (fill value s) ≡ false
  -- and what the slot would have counts no more
  pub fixes : (slotted s ≡ true → is_some value ≡ true)
      → (h : List Edge) (other : Option EntityUID) (x : EntityUID) → Iff (Holds h other x (fill value s)) (Holds h value x s)
