-- Answers that are carried on.
use Rattle.std.proofs.Common.{◌≡◌, ℕ, List, Ok, Err, Result, ap}
use Rattle.refusals.specs.declared.refusal.Refusal.{Refusal}
use Rattle.policy.specs.Known.{and_then}
use Rattle.console.specs.Answered.{AnswersAs}
use Rattle.console.specs.Reader.{ReadsAs, answered}
use Rattle.console.specs.declared.stop.Stop.{Stop}
use Rattle.console.specs.declared.stop.Stop.TheVariants.{Wrong, Refused, NoMemory}

-- what answers, reads
pub answers_read : {X Y : Type 0} (view : X → Y) (result : Result X Stop) (answer : Result Y Refusal) (texts : List (List ℕ)) → AnswersAs view result answer
    → ReadsAs view result texts (answered answer texts)
answers_read view (Ok x) answer texts e = ap (λ a. answered a texts) e
answers_read view (Err (Refused r)) answer texts e = ap (λ a. answered a texts) e
answers_read view (Err (Wrong w)) answer texts e = absurd e
answers_read view (Err NoMemory) answer texts e = tt

-- what comes of an answer
abbrev pub carry : {X Y : Type 0} → (X → Result Y Refusal) → Result X Refusal → Result Y Refusal
carry f (Ok x) = f x
carry f (Err e) = Err e

-- what comes of an answer behind a test
pub carried : {X Y : Type 0} (test : Result (Unit {0}) Refusal) (answer : Result X Refusal) (x : X) (f : X → Result Y Refusal) → answer ≡ and_then test (Ok x)
    → carry f answer ≡ and_then test (f x)
carried (Ok u) answer x f e = ap (carry f) e
carried (Err r) answer x f e = ap (carry f) e
