-- The tests of equality against equality itself.
use Rattle.std.proofs.Common.{◌≡◌, ℕ, zero, suc, Bool, true, eqb, List, Some, None, Decides, Option, sym, refl, ap, ◌∙◌, subst}
use Rattle.std.specs.Cmp.Lexicographic.{pointwise, pointwise_decides}
use Rattle.std.proofs.lemmas.Bool.{and_from, and_parts, eqb-true, eq-eqb, false≢true}
use Rattle.names.proofs.Entities.{entity_only, entity_itself}
use Rattle.clauses.specs.Book.{Clause, Same, at, same_content, same_clause}
use Rattle.clauses.specs.Book as book
use Rattle.policy.specs.declared.constraint.Effect.{Effect}
use Rattle.policy.specs.declared.constraint.Effect.TheVariants.{Permit, Forbid}
use Rattle.policy.specs.declared.constraint.EntityReference.{EntityReference}
use Rattle.policy.specs.declared.constraint.EntityReference.TheVariants.{EUID, Slot}
use Rattle.policy.specs.declared.constraint.PrincipalOrResourceConstraint.{PrincipalOrResourceConstraint}
use Rattle.policy.specs.declared.constraint.PrincipalOrResourceConstraint.TheVariants as scope
use Rattle.policy.specs.declared.action.ActionIn.TheVariants as action
use Rattle.policy.specs.declared.values.SlotEnv.{SlotEnv}
use Rattle.policy.specs.declared.template.Template.{Template}
use Rattle.policy.specs.declared.bound.Policy.{Policy}
use Rattle.policy.specs.Scopes.{ActionConstraint, kind, type_of, reference_of, listed}
use Rattle.policy.specs.Equality.{effect_equal, entity_equal, reference_equal, option_equal, scope_equal, scopes_equal, action_equal, template_equal, values_equal, policy_equal}
use Rattle.policy.specs.Equal.{EqualClauses, EqualTemplates, EqualPolicies}
use Rattle.refusals.proofs.Sets.{slot_sets}
use Rattle.policy.proofs.Records.{action_lists}

-- A test that says yes of equal things alone, and of each thing and itself.
tests : {X : Type 0} (same : X → X → Bool) → ((x y : X) → same x y ≡ true → x ≡ y) → ((x : X) → same x x ≡ true) → book.DecidesEquality same
tests {X} same only itself = record { only = only; whenever = λ x y e. subst (λ (z : X). same x z ≡ true) e (itself x) }

pub numbers : book.DecidesEquality eqb
numbers = record { only = eqb-true; whenever = eq-eqb }

effect_only : (a b : Effect) → effect_equal a b ≡ true → a ≡ b
effect_only Permit Permit h = refl
effect_only Permit Forbid h = elim (false≢true h) [ ]
effect_only Forbid Permit h = elim (false≢true h) [ ]
effect_only Forbid Forbid h = refl

effect_itself : (a : Effect) → effect_equal a a ≡ true
effect_itself Permit = refl
effect_itself Forbid = refl

pub effects : book.DecidesEquality effect_equal
effects = tests effect_equal effect_only effect_itself

pub entities : book.DecidesEquality entity_equal
entities = tests entity_equal entity_only entity_itself

reference_only : (a b : EntityReference) → reference_equal a b ≡ true → a ≡ b
reference_only (EUID a) (EUID b) h = ap EUID (entity_only a b h)
reference_only (EUID a) Slot h = elim (false≢true h) [ ]
reference_only Slot (EUID b) h = elim (false≢true h) [ ]
reference_only Slot Slot h = refl

reference_itself : (a : EntityReference) → reference_equal a a ≡ true
reference_itself (EUID a) = entities.whenever a a refl
reference_itself Slot = refl

references : book.DecidesEquality reference_equal
references = tests reference_equal reference_only reference_itself

module _ {X : Type 0} (same : X → X → Bool) (t : book.DecidesEquality same) where
  option_only : (a b : Option X) → option_equal same a b ≡ true → a ≡ b
  option_only None None h = refl
  option_only None (Some b) h = elim (false≢true h) [ ]
  option_only (Some a) None h = elim (false≢true h) [ ]
  option_only (Some a) (Some b) h = ap Some (t.only a b h)

  option_itself : (a : Option X) → option_equal same a a ≡ true
  option_itself None = refl
  option_itself (Some a) = t.whenever a a refl

  pub options : book.DecidesEquality (option_equal same)
  options = tests (option_equal same) option_only option_itself

  decided : (x y : X) → Decides (same x y) (x ≡ y)
  decided x y = (t.only x y, t.whenever x y)

  pub lists : book.DecidesEquality (pointwise same)
  lists = record { only = λ xs ys. (pointwise_decides decided xs ys).0; whenever = λ xs ys. (pointwise_decides decided xs ys).1 }

-- The scope that is made of such parts.
made_of : ℕ → Option ℕ → Option EntityReference → PrincipalOrResourceConstraint
made_of zero t r = scope.Any
made_of (suc zero) t None = scope.Any
made_of (suc zero) t (Some r) = scope.In r
made_of (suc (suc zero)) t None = scope.Any
made_of (suc (suc zero)) t (Some r) = scope.Eq r
made_of (suc (suc (suc zero))) None r = scope.Any
made_of (suc (suc (suc zero))) (Some t) r = scope.Is t
made_of (suc (suc (suc (suc n)))) None r = scope.Any
made_of (suc (suc (suc (suc n)))) (Some t) None = scope.Any
made_of (suc (suc (suc (suc n)))) (Some t) (Some r) = scope.IsIn t r

remade : (s : PrincipalOrResourceConstraint) → made_of (kind s) (type_of s) (reference_of s) ≡ s
unfolding made_of
remade scope.Any = refl
remade (scope.In r) = refl
remade (scope.Eq r) = refl
remade (scope.Is t) = refl
remade (scope.IsIn t r) = refl

scope_only : (a b : PrincipalOrResourceConstraint) → scope_equal a b ≡ true → a ≡ b
scope_only a b h =
    let p = and_parts (eqb (kind a) (kind b)) _ h in
    let q = and_parts (option_equal eqb (type_of a) (type_of b)) (option_equal reference_equal (reference_of a) (reference_of b)) p.1 in
    let k = eqb-true (kind a) (kind b) p.0 in
    let t = option_only eqb numbers (type_of a) (type_of b) q.0 in
    let r = option_only reference_equal references (reference_of a) (reference_of b) q.1 in
    sym (remade a) ∙ (λ i. made_of (k i) (t i) (r i)) ∙ remade b

scope_itself : (a : PrincipalOrResourceConstraint) → scope_equal a a ≡ true
scope_itself a =
    and_from (eqb (kind a) (kind a)) _ (eq-eqb (kind a) (kind a) refl)
    (and_from (option_equal eqb (type_of a) (type_of a)) (option_equal reference_equal (reference_of a) (reference_of a))
    (option_itself eqb numbers (type_of a)) (option_itself reference_equal references (reference_of a)))

pub scopes : book.DecidesEquality scope_equal
scopes = tests scope_equal scope_only scope_itself

action_only : (a b : ActionConstraint) → action_equal a b ≡ true → a ≡ b
action_only action.Any action.Any h = refl
action_only action.Any (action.In l) h = elim (false≢true h) [ ]
action_only action.Any (action.Eq e) h = elim (false≢true h) [ ]
action_only (action.In l) action.Any h = elim (false≢true h) [ ]
action_only (action.In l) (action.In m) h = ap action.In (action_lists l m ((lists entity_equal entities).only (listed l) (listed m) h))
action_only (action.In l) (action.Eq e) h = elim (false≢true h) [ ]
action_only (action.Eq e) action.Any h = elim (false≢true h) [ ]
action_only (action.Eq e) (action.In l) h = elim (false≢true h) [ ]
action_only (action.Eq e) (action.Eq f) h = ap action.Eq (entity_only e f h)

action_itself : (a : ActionConstraint) → action_equal a a ≡ true
action_itself action.Any = refl
action_itself (action.In l) = (lists entity_equal entities).whenever (listed l) (listed l) refl
action_itself (action.Eq e) = entities.whenever e e refl

pub actions : book.DecidesEquality action_equal
actions = tests action_equal action_only action_itself

values_only : (a b : SlotEnv) → values_equal a b ≡ true → a ≡ b
values_only a b h =
    let p = and_parts (option_equal entity_equal a.principal b.principal) (option_equal entity_equal a.resource b.resource) h in
    let x = option_only entity_equal entities a.principal b.principal p.0 in
    let y = option_only entity_equal entities a.resource b.resource p.1 in
    λ i. record { principal = x i; resource = y i }

pub environments : book.DecidesEquality values_equal
environments =
    tests values_equal values_only
    (λ a. and_from (option_equal entity_equal a.principal a.principal) (option_equal entity_equal a.resource a.resource)
    (option_itself entity_equal entities a.principal) (option_itself entity_equal entities a.resource))

module _ {C : Type 0} (equal : C → C → Bool) (cs : List (Clause C)) (d : book.DecidesEquality equal) where
  same_only : (m n : ℕ) (a b : Option (Clause C)) → at cs m ≡ a → at cs n ≡ b → same_content equal a b ≡ true → Same cs m n
  same_only m n None b p q h = elim (false≢true h) [ ]
  same_only m n (Some a) None p q h = elim (false≢true h) [ ]
  same_only m n (Some a) (Some b) p q h =
      record { left = a; right = b; left_at = p; right_at = q; alike = d.only a.content b.content h }

  same_whenever : (m n : ℕ) → Same cs m n → same_clause equal cs m n ≡ true
  same_whenever m n s =
      ap (λ (a : Option (Clause C)). same_content equal a (at cs n)) s.left_at
      ∙ ap (λ (b : Option (Clause C)). same_content equal (Some s.left) b) s.right_at
      ∙ d.whenever s.left.content s.right.content s.alike

  clause_only : (a b : Option ℕ) → option_equal (same_clause equal cs) a b ≡ true → EqualClauses cs a b
  clause_only None None h = tt
  clause_only None (Some n) h = elim (false≢true h) [ ]
  clause_only (Some m) None h = elim (false≢true h) [ ]
  clause_only (Some m) (Some n) h = same_only m n (at cs m) (at cs n) refl refl h

  clause_whenever : (a b : Option ℕ) → EqualClauses cs a b → option_equal (same_clause equal cs) a b ≡ true
  clause_whenever None None h = refl
  clause_whenever None (Some n) h = elim h [ ]
  clause_whenever (Some m) None h = elim h [ ]
  clause_whenever (Some m) (Some n) h = same_whenever m n h

  template_only : (a b : Template) → template_equal (same_clause equal cs) a b ≡ true → EqualTemplates cs a b
  template_only a b h =
      let p = and_parts (eqb a.id b.id) _ h in
      let q = and_parts (effect_equal a.effect b.effect) _ p.1 in
      let r = and_parts (scopes_equal a b) _ q.1 in
      let s = and_parts (option_equal (same_clause equal cs) a.clause b.clause) (eqb a.slots.bits b.slots.bits) r.1 in
      let x = and_parts (scope_equal a.principal b.principal) _ r.0 in
      let y = and_parts (action_equal a.action b.action) (scope_equal a.resource b.resource) x.1 in
      record {
        id = eqb-true a.id b.id p.0;
        effect = effect_only a.effect b.effect q.0;
        principal = scope_only a.principal b.principal x.0;
        action = action_only a.action b.action y.0;
        resource = scope_only a.resource b.resource y.1;
        clause = clause_only a.clause b.clause s.0;
        slots = slot_sets a.slots b.slots (eqb-true a.slots.bits b.slots.bits s.1);
      }

  template_whenever : (a b : Template) → EqualTemplates cs a b → template_equal (same_clause equal cs) a b ≡ true
  template_whenever a b e =
      and_from (eqb a.id b.id) _ (eq-eqb a.id b.id e.id)
      (and_from (effect_equal a.effect b.effect) _ (effects.whenever a.effect b.effect e.effect)
      (and_from (scopes_equal a b) _
      (and_from (scope_equal a.principal b.principal) _ (scopes.whenever a.principal b.principal e.principal)
      (and_from (action_equal a.action b.action) (scope_equal a.resource b.resource)
      (actions.whenever a.action b.action e.action)
      (scopes.whenever a.resource b.resource e.resource)))
      (and_from (option_equal (same_clause equal cs) a.clause b.clause) (eqb a.slots.bits b.slots.bits)
      (clause_whenever a.clause b.clause e.clause)
      (eq-eqb a.slots.bits b.slots.bits (λ i. (e.slots i).bits)))))

  -- The test of templates is equality in words.
  pub templates_decided : (a b : Template) (r : Bool) → r ≡ template_equal (same_clause equal cs) a b → Decides r (EqualTemplates cs a b)
  templates_decided a b r e = ((λ t. template_only a b (sym e ∙ t)), λ t. e ∙ template_whenever a b t)

  policy_only : (a b : Policy) → policy_equal (same_clause equal cs) a b ≡ true → EqualPolicies cs a b
  policy_only a b h =
      let p = and_parts (template_equal (same_clause equal cs) a.template b.template) _ h in
      let q = and_parts (option_equal eqb a.link b.link) (values_equal a.values b.values) p.1 in
      record {
        template = template_only a.template b.template p.0;
        link = option_only eqb numbers a.link b.link q.0;
        values = values_only a.values b.values q.1;
      }

  policy_whenever : (a b : Policy) → EqualPolicies cs a b → policy_equal (same_clause equal cs) a b ≡ true
  policy_whenever a b e =
      and_from (template_equal (same_clause equal cs) a.template b.template) _ (template_whenever a.template b.template e.template)
      (and_from (option_equal eqb a.link b.link) (values_equal a.values b.values)
      ((options eqb numbers).whenever a.link b.link e.link)
      (environments.whenever a.values b.values e.values))

  -- The test of policies is equality in words.
  pub policies_decided : (a b : Policy) (r : Bool) → r ≡ policy_equal (same_clause equal cs) a b → Decides r (EqualPolicies cs a b)
  policies_decided a b r e = ((λ t. policy_only a b (sym e ∙ t)), λ t. e ∙ policy_whenever a b t)
