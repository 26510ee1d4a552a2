-- A template is refused with its action, and made with it.
use Rattle.std.proofs.Common.{◌≡◌, ℕ, Bool, true, false, ltb, List, length, IfOk, Ok, Err, MatchBool, Option, Result, sym, subst, arith}
use Rattle.refusals.specs.declared.refusal.Refusal.{Refusal}
use Rattle.refusals.specs.declared.refusal.Refusal.TheVariants.{TooManyActions}
use Rattle.clauses.specs.Book.{Clause}
use Rattle.policy.specs.declared.constraint.Effect.{Effect}
use Rattle.policy.specs.declared.constraint.PrincipalOrResourceConstraint.{PrincipalOrResourceConstraint}
use Rattle.policy.specs.declared.template.Template.{Template}
use Rattle.policy.specs.Scopes.{ActionConstraint, ActionScope}
use Rattle.policy.specs.Known.{and_then, template_known}
use Rattle.policy.specs.Filled.{scopes_within}
use Rattle.policy.specs.Making.{given_actions, GivenAction, MakesAction, types_kept, template_types, Made, template_kept, Makes}

module _ {C : Type 0} (texts : List (List ℕ)) (cs : List (Clause C)) (id : ℕ) (effect : Effect) (principal : PrincipalOrResourceConstraint)
    (action : ActionScope) (resource : PrincipalOrResourceConstraint) (clause : Option ℕ) where
  abbrev Kept : Result Template Refusal → Type 0
  Kept r = (t : Template) × Made cs id effect principal action resource clause t × (r ≡ template_kept texts cs t)

  refused : (b : Bool) (m e : Refusal)
      → MatchBool b (◌≡◌ {A = Result ActionConstraint Refusal} (Err e) (Err m)) ((a : ActionConstraint) × GivenAction action a × (◌≡◌ {A = Result ActionConstraint Refusal} (Err e) (Ok a)))
      → MatchBool b (◌≡◌ {A = Result Template Refusal} (Err e) (Err m)) (Kept (Err e))
  refused true m e h = cc
  refused false m e h = absurd (let q = h.2 in let z : ◌≡◌ {A = ℕ} 0 1 = cc in omega arith)

  pub makes_refused : (e : Refusal) → MakesAction action (Err e) → Makes texts cs id effect principal action resource clause (Err e)
  makes_refused e h = refused (ltb 8 (length (given_actions action))) (TooManyActions (length (given_actions action))) e h

  accepted : (b : Bool) (m : Refusal) (a : ActionConstraint) (r : Result Template Refusal)
      → MatchBool b (◌≡◌ {A = Result ActionConstraint Refusal} (Ok a) (Err m)) ((x : ActionConstraint) × GivenAction action x × (◌≡◌ {A = Result ActionConstraint Refusal} (Ok a) (Ok x)))
      → (GivenAction action a → Kept r) → MatchBool b (r ≡ Err m) (Kept r)
  accepted true m a r h f = absurd (let z : ◌≡◌ {A = ℕ} 0 1 = cc in omega arith)
  accepted false m a r h f = let e : h.0 ≡ a = (let q = h.2 in cc) in f (subst (λ (x : ActionConstraint). GivenAction action x) e h.1)

  pub makes_made : (a : ActionConstraint) (r : Result Template Refusal) → MakesAction action (Ok a) → (GivenAction action a → Kept r)
      → Makes texts cs id effect principal action resource clause r
  makes_made a r h f = accepted (ltb 8 (length (given_actions action))) (TooManyActions (length (given_actions action))) a r h f

within-kept : (a b : Result (Unit {0}) Refusal) (t : Template) → scopes_within t ≡ true → IfOk (and_then a (and_then b (Ok t))) (λ t. scopes_within t ≡ true)
within-kept (Ok u) (Ok v) t w = w
within-kept (Ok u) (Err e) t w = tt
within-kept (Err e) b t w = tt

-- A template that is handed back is the one that was tested.
pub within_made : {C : Type 0} (texts : List (List ℕ)) (cs : List (Clause C)) (t : Template) (r : Result Template Refusal)
    → r ≡ template_kept texts cs t → scopes_within t ≡ true → IfOk r (λ t. scopes_within t ≡ true)
within_made texts cs t r e w =
    subst (λ (x : Result Template Refusal). IfOk x (λ t. scopes_within t ≡ true)) (sym e)
    (within-kept (template_known (length texts) cs t) (types_kept texts (template_types t)) t w)
