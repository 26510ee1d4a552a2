-- Making a template from its parts.
use Rattle.std.specs.Prelude.{◌≡◌, ℕ, Bool, List, [], ◌∷◌, ◌++◌, length, Ok, Err, Decides, MatchBool, Option, Result, nat_lt}
use Rattle.refusals.specs.declared.refusal.Refusal.{Refusal}
use Rattle.refusals.specs.declared.refusal.Refusal.TheVariants.{TooManyActions}
use Rattle.names.specs.declared.entity.EntityUID.{EntityUID}
use Rattle.names.specs.declared.type_name.Scan.TheVariants.{Start}
use Rattle.names.specs.Scan.{scanned, accepts}
use Rattle.names.specs.TypeName.{TypeName}
use Rattle.clauses.specs.Book.{Clause}
use Rattle.clauses.specs.NameChecks.{type_check}
use Rattle.policy.specs.declared.constraint.Effect.{Effect}
use Rattle.policy.specs.declared.constraint.EntityReference.{EntityReference}
use Rattle.policy.specs.declared.constraint.EntityReference.TheVariants.{EUID, Slot}
use Rattle.policy.specs.declared.constraint.PrincipalOrResourceConstraint.{PrincipalOrResourceConstraint}
use Rattle.policy.specs.declared.action.ActionList.{ActionList}
use Rattle.policy.specs.declared.action.ActionIn.TheVariants as action
use Rattle.policy.specs.declared.template.Template.{Template}
use Rattle.policy.specs.Scopes.{ActionConstraint, ActionScope, type_of, reference_of, actions_of, listed}
use Rattle.policy.specs.Known.{and_then, in_turn, optional, template_known}
use Rattle.policy.specs.Mentions.{condition_slots}

-- The entities that were given for the action.
abbrev pub given_actions : ActionScope → List EntityUID
given_actions action.Any = []
given_actions (action.In es) = es.now
given_actions (action.Eq e) = e ∷ []

-- The action's scope is what was given.
abbrev pub GivenAction : ActionScope → ActionConstraint → Type 0
GivenAction action.Any a = a ≡ action.Any
GivenAction (action.In es) a = (l : ActionList) × (a ≡ action.In l) × (listed l ≡ es.now)
GivenAction (action.Eq e) a = a ≡ action.Eq e

-- Refusal 6 above eight entities; else the action's scope.
abbrev pub MakesAction : ActionScope → Result ActionConstraint Refusal → Type 0
MakesAction action r =
    MatchBool (nat_lt 8 (length (given_actions action)))
    (r ≡ Err (TooManyActions (length (given_actions action))))
    ((a : ActionConstraint) × GivenAction action a × (r ≡ Ok a))

-- The type of an entity that a scope refers to.
abbrev pub reference_types : EntityReference → List ℕ
reference_types (EUID e) = e.ty ∷ []
reference_types Slot = []

-- The type of `is`, then the type of the entity that the scope refers to.
abbrev pub scope_types : PrincipalOrResourceConstraint → List ℕ
scope_types s = optional (λ t. t ∷ []) (type_of s) ++ optional reference_types (reference_of s)

-- The types of entities, in order.
abbrev pub entities_types : List EntityUID → List ℕ
entities_types [] = []
entities_types (e ∷ es) = e.ty ∷ entities_types es

-- The type names of a template in record order.
abbrev pub template_types : Template → List ℕ
template_types t = scope_types t.principal ++ (entities_types (actions_of t.action) ++ scope_types t.resource)

-- Whether a text is a type name, by the scan.
abbrev pub type_name : List ℕ → Bool
type_name text = accepts (scanned Start text)

-- The scan says yes exactly of type names.
abbrev pub TypeNamesDecided : Type 0
TypeNamesDecided = (text : List ℕ) → Decides (type_name text) (TypeName text)

-- Refusal 5 of the first name whose text is not a type name.
abbrev pub types_kept : List (List ℕ) → List ℕ → Result (Unit {0}) Refusal
types_kept texts ns = in_turn (type_check texts) ns

-- A template is made of these parts, with the slots of its condition.
pub record Made {C : Type 0} (cs : List (Clause C)) (id : ℕ) (effect : Effect) (principal : PrincipalOrResourceConstraint) (action : ActionScope)
    (resource : PrincipalOrResourceConstraint) (clause : Option ℕ) (t : Template) : Type 0 where
  pub made_id : t.id ≡ id
  pub made_effect : t.effect ≡ effect
  pub made_principal : t.principal ≡ principal
  pub made_action : GivenAction action t.action
  pub made_resource : t.resource ≡ resource
  pub made_clause : t.clause ≡ clause
  pub made_slots : t.slots ≡ condition_slots cs t

-- Refusals 1, 2 and 5 of a template; else the template.
abbrev pub template_kept : {C : Type 0} → List (List ℕ) → List (Clause C) → Template → Result Template Refusal
template_kept texts cs t = and_then (template_known (length texts) cs t) (and_then (types_kept texts (template_types t)) (Ok t))

-- Refusal 6 of the action; else what the template made of the parts is refused for, or that template.
abbrev pub Makes : {C : Type 0} → List (List ℕ) → List (Clause C) → ℕ → Effect → PrincipalOrResourceConstraint → ActionScope
    → PrincipalOrResourceConstraint → Option ℕ → Result Template Refusal → Type 0
Makes texts cs id effect principal action resource clause r =
    MatchBool (nat_lt 8 (length (given_actions action)))
    (r ≡ Err (TooManyActions (length (given_actions action))))
    ((t : Template) × Made cs id effect principal action resource clause t × (r ≡ template_kept texts cs t))
