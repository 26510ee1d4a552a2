use Rattle.std.proofs.Common.{◌≡◌, ℕ, Bool, true, false, cond, ltb, List, length, Ok, Err, MatchBool, Result, sym, refl, subst, arith, Bor}
use Rattle.refusals.specs.declared.refusal.Refusal.{Refusal}
use Rattle.names.specs.declared.entity.EntityUID.{EntityUID}
use Rattle.policy.specs.declared.action.ActionList.{ActionList}
use Rattle.policy.specs.declared.action.ActionIn.TheVariants as action
use Rattle.policy.specs.Scopes.{ActionConstraint, ActionScope, listed}
use Rattle.policy.specs.Making.{GivenAction, MakesAction}
use Rattle.policy.proofs.making.action_of.Goals as goal

module _ (es : Bor (List EntityUID)) (l : ActionList) where
  by_test : (b : Bool) (e : Refusal) → Ok (listed l) ≡ cond {A = Result (List EntityUID) Refusal} b (Err e) (Ok es.now)
      → MatchBool b (◌≡◌ {A = Result ActionConstraint Refusal} (Ok (action.In l)) (Err e))
      ((a : ActionConstraint) × GivenAction (action.In es) a × (◌≡◌ {A = Result ActionConstraint Refusal} (Ok (action.In l)) (Ok a)))
  by_test true e h = absurd (let z : ◌≡◌ {A = ℕ} 0 1 = cc in omega arith)
  by_test false e h = (action.In l, (l, refl, cc), refl)

pub returns-in_ok-try_from-in-In : goal.returns-in_ok-try_from-in-In
returns-in_ok-try_from-in-In c =
    let l = c.in_ok-try_from-in-In.field-0 in
    let es = c.in-In.entities in
    subst (λ (s : ActionScope). MakesAction s (Ok (action.In l))) (sym c.in-In.is)
    (by_test es l (ltb 8 (length es.now)) _ c.in_ok-try_from-in-In.ensures)
