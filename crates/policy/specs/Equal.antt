-- Equality of templates and of policies in words: all fields are equal, and the clauses have equal contents.
use Rattle.std.specs.Prelude.{◌≡◌, ℕ, List, Some, None, Option}
use Rattle.clauses.specs.Book.{Clause, Same}
use Rattle.policy.specs.declared.template.Template.{Template}
use Rattle.policy.specs.declared.bound.Policy.{Policy}

-- Both are absent, or both are in the book with equal contents.
abbrev pub EqualClauses : {C : Type 0} → List (Clause C) → Option ℕ → Option ℕ → Type 0
EqualClauses cs None None = Unit {0}
EqualClauses cs None (Some b) = ⊥
EqualClauses cs (Some a) None = ⊥
EqualClauses cs (Some a) (Some b) = Same cs a b

-- All fields of two templates are equal, the clauses by content.
pub record EqualTemplates {C : Type 0} (cs : List (Clause C)) (a b : Template) : Type 0 where
  pub id : a.id ≡ b.id
  pub effect : a.effect ≡ b.effect
  pub principal : a.principal ≡ b.principal
  pub action : a.action ≡ b.action
  pub resource : a.resource ≡ b.resource
  pub clause : EqualClauses cs a.clause b.clause
  pub slots : a.slots ≡ b.slots

-- The templates, the link ids and the values of two policies are equal.
pub record EqualPolicies {C : Type 0} (cs : List (Clause C)) (a b : Policy) : Type 0 where
  pub template : EqualTemplates cs a.template b.template
  pub link : a.link ≡ b.link
  pub values : a.values ≡ b.values
