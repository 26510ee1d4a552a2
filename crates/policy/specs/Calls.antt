-- What the public calls answer: `count` is the name book's count, `cs` the clauses of the clause book.
use Rattle.std.specs.Prelude.{ℕ, Bool, List, Some, Ok, Option, Result}
use Rattle.refusals.specs.declared.refusal.Refusal.{Refusal}
use Rattle.names.specs.declared.entity.EntityUID.{EntityUID}
use Rattle.clauses.specs.Book.{Clause, same_clause}
use Rattle.policy.specs.declared.constraint.PrincipalOrResourceConstraint.{PrincipalOrResourceConstraint}
use Rattle.policy.specs.declared.values.SlotEnv.{SlotEnv}
use Rattle.policy.specs.declared.template.Template.{Template}
use Rattle.policy.specs.declared.bound.Policy.{Policy}
use Rattle.clauses.specs.Tree.{written}
use Rattle.policy.specs.Known.{and_then, names_known, clause_known, template_names, parts_names, policy_names, scope_names, entity_names, optional, template_known, policy_known}
use Rattle.policy.specs.Arity.{bindable, Parts}
use Rattle.policy.specs.Filling.{fill}
use Rattle.policy.specs.Filled.{filled}
use Rattle.policy.specs.Answer.{fitted}
use Rattle.policy.specs.Condition.{condition_tree}
use Rattle.policy.specs.Equality.{template_equal, policy_equal}

-- Refusals 1 of both records, then 2 of both; then the test.
abbrev pub equals_template : {C : Type 0} → (C → C → Bool) → ℕ → List (Clause C) → Template → Template → Result Bool Refusal
equals_template equal count cs a b =
    and_then (and_then (names_known count (template_names a)) (names_known count (template_names b)))
    (and_then (and_then (clause_known cs a.clause) (clause_known cs b.clause)) (Ok (template_equal (same_clause equal cs) a b)))

-- The same of two policies.
abbrev pub equals_policy : {C : Type 0} → (C → C → Bool) → ℕ → List (Clause C) → Policy → Policy → Result Bool Refusal
equals_policy equal count cs a b =
    and_then (and_then (names_known count (policy_names a)) (names_known count (policy_names b)))
    (and_then (and_then (clause_known cs a.template.clause) (clause_known cs b.template.clause)) (Ok (policy_equal (same_clause equal cs) a b)))

-- Refusals 1 and 2 of the template, then 24 by the room in the buffer.
abbrev pub condition_answer : {C : Type 0} → ℕ → List (Clause C) → Template → ℕ → Result ℕ Refusal
condition_answer count cs t room = and_then (template_known count cs t) (fitted (written (condition_tree cs t)) room)

-- Refusals 1 of the template, of the new id if there is one and of the values; 2 of the template; 12.
abbrev pub binding_answer : {C : Type 0} → ℕ → List (Clause C) → Template → Option ℕ → SlotEnv → Result (Unit {0}) Refusal
binding_answer count cs t link env =
    and_then (names_known count (parts_names t link env)) (and_then (clause_known cs t.clause) (bindable t.slots env))

-- The link of a template, where these accept.
abbrev pub template_link_answer : {C : Type 0} → ℕ → List (Clause C) → Template → ℕ → SlotEnv → Result Parts Refusal
template_link_answer count cs t id env = and_then (binding_answer count cs t (Some id) env) (Ok (record { template = t; link = Some id; values = env }))

-- Refusals 1 of the scope and of the value.
abbrev pub fill_answer : ℕ → PrincipalOrResourceConstraint → Option EntityUID → Result PrincipalOrResourceConstraint Refusal
fill_answer count s value =
    and_then (and_then (names_known count (scope_names s)) (names_known count (optional entity_names value))) (Ok (fill value s))

-- Refusals 1 and 2 of the policy.
abbrev pub filled_answer : {C : Type 0} → ℕ → List (Clause C) → Policy → Result Template Refusal
filled_answer count cs p = and_then (policy_known count cs p) (Ok (filled cs p))
