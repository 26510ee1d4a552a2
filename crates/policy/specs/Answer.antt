-- What a call that writes into the caller's buffer answers and leaves.
use Rattle.std.specs.Prelude.{ℕ, cond, List, ◌++◌, length, drop, Ok, Err, Result, nat_lt}
use Rattle.refusals.specs.declared.refusal.Refusal.{Refusal}
use Rattle.refusals.specs.declared.refusal.Refusal.TheVariants.{ShortBuffer}

-- How many were written; refusal 24 where the room is too small.
abbrev pub fitted : {X : Type 0} → List X → ℕ → Result ℕ Refusal
fitted xs room = cond (nat_lt room (length xs)) (Err (ShortBuffer (length xs))) (Ok (length xs))

-- The buffer after such an answer: what was written, then as before; on a refusal all as before.
abbrev pub buffer_after : {X : Type 0} → List X → List X → Result ℕ Refusal → List X
buffer_after xs buffer (Ok n) = xs ++ drop n buffer
buffer_after xs buffer (Err e) = buffer
