-- A policy whose clause is in the book equals itself.
use Rattle.std.proofs.Common.{◌≡◌, ℕ, zero, suc, ◌<◌, Bool, true, false, cond, eqb, ltb, List, [], ◌∷◌, length, Some, None, Ok, Err, Option, Result, sym, refl, ap, ◌∙◌, arith}
use Rattle.std.proofs.lemmas.Bool.{and_from, ltb-true}
use Rattle.refusals.specs.declared.refusal.Refusal.{Refusal}
use Rattle.refusals.specs.declared.refusal.Refusal.TheVariants.{UnknownClause}
use Rattle.clauses.specs.Book.{Clause, DecidesEquality, at, same_content, same_clause}
use Rattle.policy.specs.declared.template.Template.{Template}
use Rattle.policy.specs.declared.values.SlotEnv.{SlotEnv}
use Rattle.policy.specs.Arity.{Parts}
use Rattle.policy.specs.Equality.{effect_equal, scope_equal, scopes_equal, action_equal, option_equal, template_equal, values_equal}
use Rattle.policy.specs.Known.{names_known, template_names, clause_known, template_known}
use Rattle.policy.proofs.Deciding.{numbers, effects, options, scopes, actions, environments}
use Rattle.policy_set.specs.Merge.{parts_equal}
use Rattle.policy_set.proofs.Accepted.{accepted_then}

-- a number below the count has a clause
at_below : {C : Type 0} (cs : List (Clause C)) (n : ℕ) → n < length cs → (c : Clause C) × (at cs n ≡ Some c)
at_below [] n h = absurd (omega arith)
at_below (c ∷ cs) zero h = (c, refl)
at_below (c ∷ cs) (suc n) h = at_below cs n (omega arith)

known_below : (b : Bool) (e : Refusal) → ◌≡◌ {A = Result (Unit {0}) Refusal} (cond b (Ok tt) (Err e)) (Ok tt) → b ≡ true
known_below true e h = refl
known_below false e h = let z : ◌≡◌ {A = ℕ} 0 1 = cc in absurd (omega arith)

-- the clause of a template whose names and clause are known
pub clause_of_known : {C : Type 0} (count : ℕ) (cs : List (Clause C)) (t : Template) → template_known count cs t ≡ Ok tt → clause_known cs t.clause ≡ Ok tt
clause_of_known count cs t e = sym (accepted_then (names_known count (template_names t)) (clause_known cs t.clause) tt (sym e)).1

module _ {C : Type 0} (equal : C → C → Bool) (cs : List (Clause C)) (decides : DecidesEquality equal) where
  clause_itself : (o : Option ℕ) → clause_known cs o ≡ Ok tt → option_equal (same_clause equal cs) o o ≡ true
  clause_itself None h = refl
  clause_itself (Some n) h =
      let a = at_below cs n (ltb-true n (length cs) (known_below (ltb n (length cs)) (UnknownClause n) h)) in
      ap (λ (o : Option (Clause C)). same_content equal o o) a.1 ∙ decides.whenever a.0.content a.0.content refl

  template_itself : (t : Template) → clause_known cs t.clause ≡ Ok tt → template_equal (same_clause equal cs) t t ≡ true
  template_itself t h =
      and_from (eqb t.id t.id) _ (numbers.whenever t.id t.id refl)
      (and_from (effect_equal t.effect t.effect) _ (effects.whenever t.effect t.effect refl)
      (and_from (scopes_equal t t) _
      (and_from (scope_equal t.principal t.principal) _ (scopes.whenever t.principal t.principal refl)
      (and_from (action_equal t.action t.action) (scope_equal t.resource t.resource) (actions.whenever t.action t.action refl) (scopes.whenever t.resource t.resource refl)))
      (and_from (option_equal (same_clause equal cs) t.clause t.clause) (eqb t.slots.bits t.slots.bits) (clause_itself t.clause h) (numbers.whenever t.slots.bits t.slots.bits refl))))

  -- policies with equal templates, one link id and the same values are equal
  pub equal_template : (s t : Template) (l : Option ℕ) (v : SlotEnv) → template_equal (same_clause equal cs) s t ≡ true
      → parts_equal (same_clause equal cs) record { template = s; link = l; values = v } record { template = t; link = l; values = v } ≡ true
  equal_template s t l v h =
      and_from (template_equal (same_clause equal cs) s t) _ h
      (and_from (option_equal eqb l l) (values_equal v v) ((options eqb numbers).whenever l l refl) (environments.whenever v v refl))

  pub policy_itself : (p : Parts) → clause_known cs p.template.clause ≡ Ok tt → parts_equal (same_clause equal cs) p p ≡ true
  policy_itself p h = equal_template p.template p.template p.link p.values (template_itself p.template h)
