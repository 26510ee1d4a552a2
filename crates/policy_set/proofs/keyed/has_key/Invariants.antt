use Rattle.std.proofs.Common.{◌≡◌, take}
use Rattle.std.specs.List.{list_any}
use Rattle.policy_set.proofs.Places.{has}
use Rattle.policy_set.proofs.keyed.has_key.Given as goal

abbrev pub invariant-loop-row : goal.invariant-loop-row
invariant-loop-row g l = l.found ≡ list_any (has g.R.Keyed.naming l.key) (take l.row-index l.rows)
