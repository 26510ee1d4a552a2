-- The tests against the words.
use Rattle.std.proofs.Common.{◌≡◌, ℕ, true, eqb, List, [], ◌∷◌, Some, None, Option, sym, refl, ap, ◌∙◌, subst, inl, inr}
use Rattle.std.proofs.lemmas.Bool.{false≢true, and_parts, and_from, or_cases, or_left, or_right, eqb-true, eq-eqb}
use Rattle.names.specs.declared.entity.EntityUID.{EntityUID}
use Rattle.clauses.specs.Book.{Clause}
use Rattle.policy.specs.declared.constraint.PrincipalOrResourceConstraint.{PrincipalOrResourceConstraint}
use Rattle.policy.specs.declared.constraint.PrincipalOrResourceConstraint.TheVariants as scope
use Rattle.policy.specs.declared.action.ActionIn.TheVariants as action
use Rattle.policy.specs.declared.values.SlotEnv.{SlotEnv}
use Rattle.policy.specs.declared.template.Template.{Template}
use Rattle.policy.specs.Scopes.{ActionConstraint, listed}
use Rattle.policy.specs.Hierarchy.{Edge, In, is_in}
use Rattle.policy.specs.Value.{Value, boolean, entity, set, error, in_some}
use Rattle.policy.specs.Meaning.{World, referred, Within, Member, WithinSome, Holds, HoldsAction, Evaluator, clause_value, HoldsClause, Applies}
use Rattle.policy.specs.Condition.{condition_tree}
use Rattle.policy.specs.Evaluation.{tree_value, Means}
use Rattle.policy.proofs.Deciding.{entities}
use Rattle.policy.proofs.Reached.{in_only, in_whenever}
use Rattle.policy.proofs.Worth.{is_true, equals_it, in_it, holds, holds_action, holds_clause, applies, condition_true}

within_only : (h : List Edge) (x : EntityUID) (o : Option EntityUID) → in_it h x o ≡ true → Within h x o
within_only h x None t = elim (false≢true t) [ ]
within_only h x (Some e) t = record { there = e; refers = refl; inside = in_only h x e t }

within_whenever : (h : List Edge) (x : EntityUID) (o : Option EntityUID) → Within h x o → in_it h x o ≡ true
within_whenever h x o w = ap (λ (y : Option EntityUID). in_it h x y) w.refers ∙ in_whenever h x w.there w.inside

equals_only : (x : EntityUID) (o : Option EntityUID) → equals_it x o ≡ true → o ≡ Some x
equals_only x None t = elim (false≢true t) [ ]
equals_only x (Some e) t = ap Some (sym (entities.only x e t))

equals_whenever : (x : EntityUID) (o : Option EntityUID) → o ≡ Some x → equals_it x o ≡ true
equals_whenever x o e = ap (λ (y : Option EntityUID). equals_it x y) e ∙ entities.whenever x x refl

some_only : (h : List Edge) (x : EntityUID) (es : List EntityUID) → in_some h x es ≡ true → WithinSome h x es
some_only h x [] t = elim (false≢true t) [ ]
some_only h x (e ∷ es) t =
    elim (or_cases (is_in h x e) (in_some h x es) t) [
      | inl p ↦ record { there = e; listed = inl refl; inside = in_only h x e p }
      | inr q ↦ let w = some_only h x es q in record { there = w.there; listed = inr w.listed; inside = w.inside }
    ]

some_whenever : (h : List Edge) (x a : EntityUID) (es : List EntityUID) → Member a es → In h x a → in_some h x es ≡ true
some_whenever h x a [] m i = elim m [ ]
some_whenever h x a (e ∷ es) m i =
    elim m [
      | inl p ↦ or_left (is_in h x e) (in_some h x es) (subst (λ (y : EntityUID). is_in h x y ≡ true) p (in_whenever h x a i))
      | inr q ↦ or_right (is_in h x e) (in_some h x es) (some_whenever h x a es q i)
    ]

holds_only : (h : List Edge) (v : Option EntityUID) (x : EntityUID) (s : PrincipalOrResourceConstraint) → holds h v x s ≡ true → Holds h v x s
holds_only h v x scope.Any t = tt
holds_only h v x (scope.In r) t = within_only h x (referred v r) t
holds_only h v x (scope.Eq r) t = equals_only x (referred v r) t
holds_only h v x (scope.Is n) t = eqb-true x.ty n t
holds_only h v x (scope.IsIn n r) t =
    let w = and_parts (eqb x.ty n) (in_it h x (referred v r)) t in (eqb-true x.ty n w.0, within_only h x (referred v r) w.1)

holds_whenever : (h : List Edge) (v : Option EntityUID) (x : EntityUID) (s : PrincipalOrResourceConstraint) → Holds h v x s → holds h v x s ≡ true
holds_whenever h v x scope.Any t = refl
holds_whenever h v x (scope.In r) t = within_whenever h x (referred v r) t
holds_whenever h v x (scope.Eq r) t = equals_whenever x (referred v r) t
holds_whenever h v x (scope.Is n) t = eq-eqb x.ty n t
holds_whenever h v x (scope.IsIn n r) t =
    and_from (eqb x.ty n) (in_it h x (referred v r)) (eq-eqb x.ty n t.0) (within_whenever h x (referred v r) t.1)

action_only : (h : List Edge) (x : EntityUID) (a : ActionConstraint) → holds_action h x a ≡ true → HoldsAction h x a
action_only h x action.Any t = tt
action_only h x (action.In l) t = some_only h x (listed l) t
action_only h x (action.Eq e) t = entities.only x e t

action_whenever : (h : List Edge) (x : EntityUID) (a : ActionConstraint) → HoldsAction h x a → holds_action h x a ≡ true
action_whenever h x action.Any t = refl
action_whenever h x (action.In l) t = some_whenever h x t.there (listed l) t.listed t.inside
action_whenever h x (action.Eq e) t = entities.whenever x e t

true_only : (v : Value) → is_true v ≡ true → v ≡ boolean true
true_only (boolean b) t = ap boolean t
true_only (entity e) t = elim (false≢true t) [ ]
true_only (set es) t = elim (false≢true t) [ ]
true_only error t = elim (false≢true t) [ ]

module _ {C : Type 0} (evaluate : Evaluator C) (cs : List (Clause C)) (w : World) (env : SlotEnv) where
  clause_only : (c : Option ℕ) → holds_clause evaluate cs w env c ≡ true → HoldsClause evaluate cs w env c
  clause_only None t = tt
  clause_only (Some n) t = true_only (clause_value evaluate cs w env n) t

  clause_whenever : (c : Option ℕ) → HoldsClause evaluate cs w env c → holds_clause evaluate cs w env c ≡ true
  clause_whenever None t = refl
  clause_whenever (Some n) t = ap is_true t

  applies_only : (t : Template) → applies evaluate cs w env t ≡ true → Applies evaluate cs w env t
  applies_only t h =
      let a = and_parts (holds w.hierarchy env.principal w.principal t.principal) _ h in
      let b = and_parts (holds_action w.hierarchy w.action t.action) _ a.1 in
      let c = and_parts (holds w.hierarchy env.resource w.resource t.resource) (holds_clause evaluate cs w env t.clause) b.1 in
      record {
        scope = record {
          principal = holds_only w.hierarchy env.principal w.principal t.principal a.0;
          action = action_only w.hierarchy w.action t.action b.0;
          resource = holds_only w.hierarchy env.resource w.resource t.resource c.0;
        };
        clause = clause_only t.clause c.1;
      }

  applies_whenever : (t : Template) → Applies evaluate cs w env t → applies evaluate cs w env t ≡ true
  applies_whenever t a =
      and_from _ _ (holds_whenever w.hierarchy env.principal w.principal t.principal a.scope.principal)
      (and_from _ _ (action_whenever w.hierarchy w.action t.action a.scope.action)
      (and_from _ _ (holds_whenever w.hierarchy env.resource w.resource t.resource a.scope.resource)
      (clause_whenever t.clause a.clause)))

-- The condition means the scope and the clause together.
pub means : {C : Type 0} (cs : List (Clause C)) (t : Template) → Means cs t
means cs t = record {
  only = λ evaluate k w env h. applies_only evaluate cs w env t (sym (condition_true evaluate cs w env k t) ∙ ap is_true h);
  whenever = λ evaluate k w env a.
      true_only (tree_value evaluate cs w env (condition_tree cs t)) (condition_true evaluate cs w env k t ∙ applies_whenever evaluate cs w env t a);
}
