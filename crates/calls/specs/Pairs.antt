-- The pairs that an answer holds.
use Rattle.std.specs.Prelude.{ℕ, List, take, Ok, Err, Result}
use Rattle.refusals.specs.declared.refusal.Refusal.{Refusal}
use Rattle.policy_set.specs.declared.rows.Renaming.{Renaming}
use Rattle.calls.specs.declared.pairs.Pairs.{Pairs}

-- The pairs of an answer, in order.
abbrev pub pairs_in : Pairs → List Renaming
pairs_in p = take p.used p.rows

-- The pairs that stand in the first rows, or a refusal.
abbrev pub first_pairs : Result ℕ Refusal → List Renaming → Result (List Renaming) Refusal
first_pairs (Ok n) rows = Ok (take n rows)
first_pairs (Err e) rows = Err e
