-- A template that is handed back has the parts that it was made of.
use Rattle.std.proofs.Common.{◌≡◌, ℕ, Bool, true, false, List, Ok, Err, MatchBool, Option, Result, subst, arith}
use Rattle.refusals.specs.declared.refusal.Refusal.{Refusal}
use Rattle.clauses.specs.Book.{Clause}
use Rattle.policy.specs.declared.constraint.Effect.{Effect}
use Rattle.policy.specs.declared.constraint.PrincipalOrResourceConstraint.{PrincipalOrResourceConstraint}
use Rattle.policy.specs.declared.template.Template.{Template}
use Rattle.policy.specs.Scopes.{ActionScope}
use Rattle.policy.specs.Known.{and_then}
use Rattle.policy.specs.Making.{Made}
use Rattle.bench.proofs.full_set.Source.template.Goals as goal

same : (a b : Result (Unit {0}) Refusal) (s t : Template) → ◌≡◌ {A = Result Template Refusal} (Ok t) (and_then a (and_then b (Ok s))) → s ≡ t
same (Ok u) (Ok v) s t e = cc
same (Ok u) (Err r) s t e = absurd (let z : ◌≡◌ {A = ℕ} 0 1 = cc in omega arith)
same (Err r) b s t e = absurd (let z : ◌≡◌ {A = ℕ} 0 1 = cc in omega arith)

made : {C : Type 0} {cs : List (Clause C)} {id : ℕ} {effect : Effect} {principal resource : PrincipalOrResourceConstraint}
    {action : ActionScope} {clause : Option ℕ} (known kept : Template → Result (Unit {0}) Refusal) (b : Bool) (m : Refusal) (t : Template)
    → MatchBool b (◌≡◌ {A = Result Template Refusal} (Ok t) (Err m))
    ((s : Template) × Made cs id effect principal action resource clause s
    × (◌≡◌ {A = Result Template Refusal} (Ok t) (and_then (known s) (and_then (kept s) (Ok s)))))
    → Made cs id effect principal action resource clause t
made known kept true m t h = absurd (let z : ◌≡◌ {A = ℕ} 0 1 = cc in omega arith)
made {cs} {id} {effect} {principal} {resource} {action} {clause} known kept false m t h =
    subst (λ (x : Template). Made cs id effect principal action resource clause x) (same (known h.0) (kept h.0) h.0 t h.2) h.1

pub returns-clause-principal : goal.returns-clause-principal
returns-clause-principal c = (made _ _ _ _ _ c.in_ok-new.ensures.answer).made_principal

pub returns-clause-resource : goal.returns-clause-resource
returns-clause-resource c = (made _ _ _ _ _ c.in_ok-new.ensures.answer).made_resource
