-- When a template applies to a request, by the Cedar documentation: its three scopes and its clause hold.
use Rattle.std.specs.Prelude.{◌≡◌, ℕ, Bool, true, ◌⊎◌, List, [], ◌∷◌, Some, None, Option}
use Rattle.names.specs.declared.entity.EntityUID.{EntityUID}
use Rattle.clauses.specs.Book.{Clause, at, constant_of}
use Rattle.policy.specs.declared.constraint.EntityReference.{EntityReference}
use Rattle.policy.specs.declared.constraint.EntityReference.TheVariants.{EUID, Slot}
use Rattle.policy.specs.declared.constraint.PrincipalOrResourceConstraint.{PrincipalOrResourceConstraint}
use Rattle.policy.specs.declared.constraint.PrincipalOrResourceConstraint.TheVariants as scope
use Rattle.policy.specs.declared.action.ActionIn.TheVariants as action
use Rattle.policy.specs.declared.values.SlotEnv.{SlotEnv}
use Rattle.policy.specs.declared.template.Template.{Template}
use Rattle.policy.specs.Scopes.{ActionConstraint, listed}
use Rattle.policy.specs.Hierarchy.{Edge, In}
use Rattle.policy.specs.Value.{Value, boolean, error}

-- A request, and the entity hierarchy that it is decided in.
pub record World : Type 0 where
  pub principal : EntityUID
  pub action : EntityUID
  pub resource : EntityUID
  pub hierarchy : List Edge

-- The entity that a scope refers to: the one named, or the slot's value.
abbrev pub referred : Option EntityUID → EntityReference → Option EntityUID
referred value (EUID e) = Some e
referred value Slot = value

-- x is in the entity that is referred to.
pub record Within (h : List Edge) (x : EntityUID) (o : Option EntityUID) : Type 0 where
  pub there : EntityUID
  pub refers : o ≡ Some there
  pub inside : In h x there

-- The entity is one of the list.
abbrev pub Member : EntityUID → List EntityUID → Type 0
Member e [] = ⊥
Member e (a ∷ es) = (e ≡ a) ⊎ Member e es

-- x is in an entity of the list.
pub record WithinSome (h : List Edge) (x : EntityUID) (es : List EntityUID) : Type 0 where
  pub there : EntityUID
  pub listed : Member there es
  pub inside : In h x there

-- The scope of the principal or the resource x, where `value` is what that position's slot has.
abbrev pub Holds : List Edge → Option EntityUID → EntityUID → PrincipalOrResourceConstraint → Type 0
Holds h value x scope.Any = Unit {0}
Holds h value x (scope.In r) = Within h x (referred value r)
Holds h value x (scope.Eq r) = referred value r ≡ Some x
Holds h value x (scope.Is t) = x.ty ≡ t
Holds h value x (scope.IsIn t r) = (x.ty ≡ t) × Within h x (referred value r)

-- The scope of the action x.
abbrev pub HoldsAction : List Edge → EntityUID → ActionConstraint → Type 0
HoldsAction h x action.Any = Unit {0}
HoldsAction h x (action.In l) = WithinSome h x (listed l)
HoldsAction h x (action.Eq e) = x ≡ e

-- The request lies in the scope of the template.
pub record InScope (w : World) (env : SlotEnv) (t : Template) : Type 0 where
  pub principal : Holds w.hierarchy env.principal w.principal t.principal
  pub action : HoldsAction w.hierarchy w.action t.action
  pub resource : Holds w.hierarchy env.resource w.resource t.resource

-- What a clause is worth, by its content, for a request in a hierarchy and values of the slots.
abbrev pub Evaluator : Type 0 → Type 0
Evaluator C = C → World → SlotEnv → Value

module _ {C : Type 0} (evaluate : Evaluator C) (cs : List (Clause C)) where
  -- The worth of a clause that may be absent from the book: an error where it is.
  abbrev pub listed_value : World → SlotEnv → Option (Clause C) → Value
  listed_value w env None = error
  listed_value w env (Some c) = evaluate c.content w env

  -- The worth of the clause of a number.
  abbrev pub clause_value : World → SlotEnv → ℕ → Value
  clause_value w env n = listed_value w env (at cs n)

  -- What is asked of an evaluator: a constant clause is worth its constant.
  abbrev pub KeepsConstants : Type 0
  KeepsConstants = (n : ℕ) (b : Bool) → constant_of (at cs n) ≡ Some b → (w : World) (env : SlotEnv) → clause_value w env n ≡ boolean b

  -- An absent clause holds.
  abbrev pub HoldsClause : World → SlotEnv → Option ℕ → Type 0
  HoldsClause w env None = Unit {0}
  HoldsClause w env (Some n) = clause_value w env n ≡ boolean true

  -- The scope and the clause hold together.
  pub record Applies (w : World) (env : SlotEnv) (t : Template) : Type 0 where
    pub scope : InScope w env t
    pub clause : HoldsClause w env t.clause
