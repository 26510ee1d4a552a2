-- What a call answers where a test refuses.
use Rattle.std.proofs.Common.{◌≡◌, ℕ, true, Ok, Err, Result, refl, ap, arith}
use Rattle.refusals.specs.declared.refusal.Refusal.{Refusal}
use Rattle.refusals.specs.declared.refusal.Refusal.TheVariants.{PolicyIdConflict}
use Rattle.policy.specs.Arity.{bindable}
use Rattle.policy.specs.Known.{and_then}
use Rattle.policy.specs.declared.template.Template.{Template}
use Rattle.policy.specs.declared.values.SlotEnv.{SlotEnv}
use Rattle.policy_set.specs.Maps.{Maps, bound}
use Rattle.policy_set.specs.Answers.{linked_answer}

-- what a test that went before says
pub then_refused : {X Y : Type 0} (first : Result (Unit {0}) Refusal) (e : Refusal) (x : X) (rest : Result Y Refusal)
    → ◌≡◌ {A = Result X Refusal} (Err e) (and_then first (Ok x)) → Err e ≡ and_then first rest
then_refused (Ok u) e x rest q = let z : ◌≡◌ {A = ℕ} 0 1 = cc in absurd (omega arith)
then_refused (Err d) e x rest q = let z : e ≡ d = cc in ap Err z

pub then_accepted : {X : Type 0} (first : Result (Unit {0}) Refusal) (x y : X) → ◌≡◌ {A = Result X Refusal} (Ok y) (and_then first (Ok x)) → (first ≡ Ok tt) × (y ≡ x)
then_accepted (Ok u) x y q = (refl, cc)
then_accepted (Err d) x y q = let z : ◌≡◌ {A = ℕ} 0 1 = cc in absurd (omega arith)

pub linked_taken : (m : Maps) (new : ℕ) (values : SlotEnv) (t : Template) → bindable t.slots values ≡ Ok tt → bound m new ≡ true
    → Err (PolicyIdConflict new) ≡ linked_answer m new values t
linked_taken m new values t binds b = rw (binds, b) refl
