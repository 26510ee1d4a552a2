-- How entities and scopes are printed.
use Rattle.std.specs.Prelude.{ℕ, List, [], ◌∷◌, ◌++◌, codes}
use Rattle.names.specs.declared.entity.EntityUID.{EntityUID}
use Rattle.policy.specs.declared.constraint.EntityReference.{EntityReference}
use Rattle.policy.specs.declared.constraint.EntityReference.TheVariants.{EUID, Slot}
use Rattle.policy.specs.declared.constraint.PrincipalOrResourceConstraint.{PrincipalOrResourceConstraint}
use Rattle.policy.specs.declared.constraint.PrincipalOrResourceConstraint.TheVariants as scope
use Rattle.policy.specs.declared.action.ActionIn.{ActionIn}
use Rattle.policy.specs.declared.action.ActionIn.TheVariants as action
use Rattle.policy.specs.declared.action.ActionList.{ActionList}
use Rattle.policy.specs.Scopes.{listed}
use Rattle.script.specs.declared.encode.Colon.TheVariants.{Coded, Plain}
use Rattle.printing.specs.Print.{name_text}

-- TYPE/EID.
abbrev pub entity_word : List (List ℕ) → EntityUID → List ℕ
entity_word texts e = name_text texts Plain e.ty ++ (47 ∷ name_text texts Coded e.eid)

-- `?` for the slot, or an entity.
abbrev pub reference_word : List (List ℕ) → EntityReference → List ℕ
reference_word texts Slot = codes "?"
reference_word texts (EUID e) = entity_word texts e

-- A principal's or a resource's scope.
abbrev pub scope_word : List (List ℕ) → PrincipalOrResourceConstraint → List ℕ
scope_word texts scope.Any = codes "any"
scope_word texts (scope.Eq r) = codes "eq:" ++ reference_word texts r
scope_word texts (scope.In r) = codes "in:" ++ reference_word texts r
scope_word texts (scope.Is ty) = codes "is:" ++ name_text texts Plain ty
scope_word texts (scope.IsIn ty r) = codes "isin:" ++ (name_text texts Plain ty ++ (58 ∷ reference_word texts r))

-- Entities behind the first, a comma before each.
abbrev pub more_entities : List (List ℕ) → List EntityUID → List ℕ
more_entities texts [] = []
more_entities texts (e ∷ es) = 44 ∷ (entity_word texts e ++ more_entities texts es)

-- Entities with commas between them.
abbrev pub entities_word : List (List ℕ) → List EntityUID → List ℕ
entities_word texts [] = []
entities_word texts (e ∷ es) = entity_word texts e ++ more_entities texts es

-- An action's scope.
abbrev pub action_word : List (List ℕ) → ActionIn ActionList → List ℕ
action_word texts action.Any = codes "any"
action_word texts (action.Eq e) = codes "eq:" ++ entity_word texts e
action_word texts (action.In list) = codes "in:[" ++ (entities_word texts (listed list) ++ codes "]")
