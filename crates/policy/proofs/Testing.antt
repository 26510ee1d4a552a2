-- Tests one after the other: the first refusal stands.
use Rattle.std.proofs.Common.{◌≡◌, ℕ, List, [], ◌∷◌, ◌++◌, IsErrAnd, Ok, Err, Result, sym, refl, ap, ◌∙◌, arith}
use Rattle.std.proofs.lemmas.Result.{err_from_is_err_and}
use Rattle.refusals.specs.declared.refusal.Refusal.{Refusal}
use Rattle.policy.specs.Known.{and_then, in_turn}

pub stops : {X : Type 0} {e : Refusal} {x : Result (Unit {0}) Refusal} (r : Result X Refusal) → Err e ≡ x → Err e ≡ and_then x r
stops r h = ap (λ (y : Result (Unit {0}) Refusal). and_then y r) h

pub passes : {X : Type 0} {u : Unit {0}} {x : Result (Unit {0}) Refusal} (r : Result X Refusal) → Ok u ≡ x → r ≡ and_then x r
passes r h = ap (λ (y : Result (Unit {0}) Refusal). and_then y r) h

pub and_then_assoc : {X : Type 0} (a b : Result (Unit {0}) Refusal) (r : Result X Refusal) → and_then (and_then a b) r ≡ and_then a (and_then b r)
and_then_assoc (Ok u) b r = refl
and_then_assoc (Err e) b r = refl

module _ (test : ℕ → Result (Unit {0}) Refusal) where
  -- The numbers of one list, then those of the other.
  pub turn_append : (xs ys : List ℕ) → in_turn test (xs ++ ys) ≡ and_then (in_turn test xs) (in_turn test ys)
  turn_append [] ys = refl
  turn_append (n ∷ xs) ys =
      ap (λ (r : Result (Unit {0}) Refusal). and_then (test n) r) (turn_append xs ys)
      ∙ sym (and_then_assoc (test n) (in_turn test xs) (in_turn test ys))

  -- The numbers of three lists, one after the other.
  pub turn_three : (xs ys zs : List ℕ)
      → and_then (in_turn test xs) (and_then (in_turn test ys) (in_turn test zs)) ≡ in_turn test (xs ++ (ys ++ zs))
  turn_three xs ys zs =
      sym (turn_append xs (ys ++ zs) ∙ ap (λ (r : Result (Unit {0}) Refusal). and_then (in_turn test xs) r) (turn_append ys zs))

-- The exit of a `?`.
pub broke : {X : Type 0} {e : Refusal} (r : Result X Refusal) → IsErrAnd r (λ y. y ≡ e) → r ≡ Err e
broke r h = let p = err_from_is_err_and r h in p.1 ∙ ap Err p.2

-- Where all tests accept, the last does.
pub last_accepts : {X : Type 0} {x : X} (a : Result (Unit {0}) Refusal) (r : Result X Refusal) → Ok x ≡ and_then a r → Ok x ≡ r
last_accepts (Ok u) r h = h
last_accepts (Err e) r h = absurd (let z : ◌≡◌ {A = ℕ} 0 1 = cc in omega arith)
