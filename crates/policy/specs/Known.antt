-- The names and the clause of a record, and the refusals 1 and 2 of those that the books lack.
use Rattle.std.specs.Prelude.{ℕ, cond, List, [], ◌∷◌, ◌++◌, length, Some, None, Ok, Err, Option, Result, nat_lt}
use Rattle.refusals.specs.declared.refusal.Refusal.{Refusal}
use Rattle.refusals.specs.declared.refusal.Refusal.TheVariants.{UnknownClause}
use Rattle.names.specs.declared.entity.EntityUID.{EntityUID}
use Rattle.clauses.specs.Book.{Clause}
pub use Rattle.clauses.specs.Checks.{and_then, in_turn}
use Rattle.clauses.specs.NameChecks.{name_check}
use Rattle.policy.specs.declared.constraint.EntityReference.{EntityReference}
use Rattle.policy.specs.declared.constraint.EntityReference.TheVariants.{EUID, Slot}
use Rattle.policy.specs.declared.constraint.PrincipalOrResourceConstraint.{PrincipalOrResourceConstraint}
use Rattle.policy.specs.declared.values.SlotEnv.{SlotEnv}
use Rattle.policy.specs.declared.template.Template.{Template}
use Rattle.policy.specs.declared.bound.Policy.{Policy}
use Rattle.policy.specs.Scopes.{type_of, reference_of, actions_of}

-- The names of what may be absent.
abbrev pub optional : {X : Type 0} → (X → List ℕ) → Option X → List ℕ
optional names None = []
optional names (Some x) = names x

-- A type before its id.
abbrev pub entity_names : EntityUID → List ℕ
entity_names e = e.ty ∷ e.eid ∷ []

-- The names of entities, in order.
abbrev pub entities_names : List EntityUID → List ℕ
entities_names [] = []
entities_names (e ∷ es) = entity_names e ++ entities_names es

-- The names of what a scope refers to; a slot has none.
abbrev pub reference_names : EntityReference → List ℕ
reference_names (EUID e) = entity_names e
reference_names Slot = []

-- The type of `is`, then the names of what the scope refers to.
abbrev pub scope_names : PrincipalOrResourceConstraint → List ℕ
scope_names s = optional (λ t. t ∷ []) (type_of s) ++ optional reference_names (reference_of s)

-- The names of a template in record order.
abbrev pub template_names : Template → List ℕ
template_names t =
    t.id ∷ (scope_names t.principal ++ (entities_names (actions_of t.action) ++ scope_names t.resource))

-- The principal's value before the resource's.
abbrev pub values_names : SlotEnv → List ℕ
values_names env = optional entity_names env.principal ++ optional entity_names env.resource

-- The names of a template, of a link id if there is one, and of values.
abbrev pub parts_names : Template → Option ℕ → SlotEnv → List ℕ
parts_names t link env = template_names t ++ (optional (λ n. n ∷ []) link ++ values_names env)

-- The names of a policy in record order.
abbrev pub policy_names : Policy → List ℕ
policy_names p = parts_names p.template p.link p.values

-- Refusal 1 of the first name that is not below the count.
abbrev pub names_known : ℕ → List ℕ → Result (Unit {0}) Refusal
names_known count ns = in_turn (name_check count) ns

-- Refusal 2 of a clause that is not below the count.
abbrev pub clause_known : {C : Type 0} → List (Clause C) → Option ℕ → Result (Unit {0}) Refusal
clause_known cs None = Ok tt
clause_known cs (Some n) = cond (nat_lt n (length cs)) (Ok tt) (Err (UnknownClause n))

-- Refusals 1 and 2 of a template.
abbrev pub template_known : {C : Type 0} → ℕ → List (Clause C) → Template → Result (Unit {0}) Refusal
template_known count cs t = and_then (names_known count (template_names t)) (clause_known cs t.clause)

-- Refusals 1 and 2 of a policy.
abbrev pub policy_known : {C : Type 0} → ℕ → List (Clause C) → Policy → Result (Unit {0}) Refusal
policy_known count cs p = and_then (names_known count (policy_names p)) (clause_known cs p.template.clause)
