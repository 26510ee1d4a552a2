-- How results of the console stand to the answers of calls on books and sets.
use Rattle.std.specs.Prelude.{◌≡◌, Ok, Err, Result}
use Rattle.refusals.specs.declared.refusal.Refusal.{Refusal}
use Rattle.console.specs.declared.stop.Stop.{Stop}
use Rattle.console.specs.declared.stop.Stop.TheVariants.{Wrong, Refused, NoMemory}

-- A call answers, by a view of what it gives, or is refused; there may also be too little memory.
abbrev pub AnswersAs : {X Y : Type 0} → (X → Y) → Result X Stop → Result Y Refusal → Type 0
AnswersAs view (Ok x) answer = answer ≡ Ok (view x)
AnswersAs view (Err (Refused refusal)) answer = answer ≡ Err refusal
AnswersAs view (Err (Wrong w)) answer = ⊥
AnswersAs view (Err NoMemory) answer = Unit {0}

-- The line is no call; there may also be too little memory.
abbrev pub IsWrong : {X : Type 0} → Result X Stop → Type 0
IsWrong (Ok x) = ⊥
IsWrong (Err (Wrong w)) = Unit {0}
IsWrong (Err (Refused refusal)) = ⊥
IsWrong (Err NoMemory) = Unit {0}
