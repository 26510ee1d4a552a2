-- What scopes are made of.
use Rattle.std.specs.Prelude.{ℕ, List, [], ◌∷◌, take, Some, None, Option}
use Rattle.std.specs.Borrow.{Bor}
use Rattle.names.specs.declared.entity.EntityUID.{EntityUID}
use Rattle.policy.specs.declared.constraint.EntityReference.{EntityReference}
use Rattle.policy.specs.declared.constraint.PrincipalOrResourceConstraint.{PrincipalOrResourceConstraint}
use Rattle.policy.specs.declared.constraint.PrincipalOrResourceConstraint.TheVariants as scope
use Rattle.policy.specs.declared.action.ActionList.{ActionList}
use Rattle.policy.specs.declared.action.ActionIn.{ActionIn}
use Rattle.policy.specs.declared.action.ActionIn.TheVariants as action

-- Which of the five a scope is.
abbrev pub kind : PrincipalOrResourceConstraint → ℕ
kind scope.Any = 0
kind (scope.In r) = 1
kind (scope.Eq r) = 2
kind (scope.Is t) = 3
kind (scope.IsIn t r) = 4

-- The type name of `is`.
abbrev pub type_of : PrincipalOrResourceConstraint → Option ℕ
type_of scope.Any = None
type_of (scope.In r) = None
type_of (scope.Eq r) = None
type_of (scope.Is t) = Some t
type_of (scope.IsIn t r) = Some t

-- What the scope refers to.
abbrev pub reference_of : PrincipalOrResourceConstraint → Option EntityReference
reference_of scope.Any = None
reference_of (scope.In r) = Some r
reference_of (scope.Eq r) = Some r
reference_of (scope.Is t) = None
reference_of (scope.IsIn t r) = Some r

-- The entities of an action list.
abbrev pub listed : ActionList → List EntityUID
listed l = take l.count l.items

-- The scope of a template's action.
abbrev pub ActionConstraint : Type 0
ActionConstraint = ActionIn ActionList

-- The scope of an action as it is given to make a template: its list is lent.
abbrev pub ActionScope : Type 0
ActionScope = ActionIn (Bor (List EntityUID))

-- The entities of the action's scope.
abbrev pub actions_of : ActionConstraint → List EntityUID
actions_of action.Any = []
actions_of (action.In l) = listed l
actions_of (action.Eq e) = e ∷ []
