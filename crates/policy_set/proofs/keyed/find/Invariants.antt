use Rattle.std.proofs.Common.{◌≡◌, ◌+◌, length}
use Rattle.std.specs.List.{position_from}
use Rattle.policy_set.proofs.Places.{has}
use Rattle.policy_set.proofs.keyed.find.Given as goal

-- The rows that were passed do not have the key.
abbrev pub invariant-loop-block : goal.invariant-loop-block
invariant-loop-block g l =
    (l.passed + length l.rest ≡ length l.rows)
    × (position_from (has g.R.Keyed.naming l.key) l.passed l.rest ≡ position_from (has g.R.Keyed.naming l.key) 0 l.rows)

abbrev pub decreases-loop-block : goal.decreases-loop-block
decreases-loop-block g l = length l.rest
