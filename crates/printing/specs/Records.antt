-- How templates and policies are printed.
use Rattle.std.specs.Prelude.{ℕ, List, [], ◌∷◌, ◌++◌, Some, None, codes, decimal, Option}
use Rattle.names.specs.declared.entity.EntityUID.{EntityUID}
use Rattle.policy.specs.declared.constraint.Effect.{Effect}
use Rattle.policy.specs.declared.constraint.Effect.TheVariants.{Permit, Forbid}
use Rattle.policy.specs.declared.template.Template.{Template}
use Rattle.policy.specs.declared.values.SlotEnv.{SlotEnv}
use Rattle.policy.specs.Arity.{Parts}
use Rattle.policy_set.specs.Answers.{id_of}
use Rattle.printing.specs.Print.{id_word}
use Rattle.printing.specs.Scopes.{entity_word, scope_word, action_word}

-- A slot's value, `-` for none.
abbrev pub value_word : List (List ℕ) → Option EntityUID → List ℕ
value_word texts None = codes "-"
value_word texts (Some e) = entity_word texts e

-- The values of both slots.
abbrev pub values_words : List (List ℕ) → SlotEnv → List (List ℕ)
values_words texts values = value_word texts values.principal ∷ value_word texts values.resource ∷ []

-- A clause's number, `-` for none.
abbrev pub clause_word : Option ℕ → List ℕ
clause_word None = codes "-"
clause_word (Some n) = decimal n

-- The word of an effect.
abbrev pub effect_word : Effect → List ℕ
effect_word Permit = codes "permit"
effect_word Forbid = codes "forbid"

-- EFFECT P A R CLAUSE SLOTS.
abbrev pub fields_words : List (List ℕ) → Template → List (List ℕ)
fields_words texts t =
    effect_word t.effect ∷ scope_word texts t.principal ∷ action_word texts t.action ∷ scope_word texts t.resource ∷ clause_word t.clause ∷ decimal t.slots.bits ∷ []

-- ID FIELDS.
abbrev pub template_words : List (List ℕ) → Template → List (List ℕ)
template_words texts t = id_word texts t.id ∷ fields_words texts t

-- The kind of a policy.
abbrev pub kind_word : Option ℕ → List ℕ
kind_word None = codes "static"
kind_word (Some id) = codes "link"

-- ID TEMPLATEID KIND PV RV.
abbrev pub policy_words : List (List ℕ) → Parts → List (List ℕ)
policy_words texts p =
    id_word texts (id_of p) ∷ id_word texts p.template.id ∷ kind_word p.link ∷ values_words texts p.values

-- Two ids with a sign between them.
abbrev pub pair_word : List (List ℕ) → ℕ → List ℕ → ℕ → List ℕ
pair_word texts first between second = id_word texts first ++ (between ++ id_word texts second)
