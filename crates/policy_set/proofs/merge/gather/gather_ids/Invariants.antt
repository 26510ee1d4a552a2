use Rattle.std.proofs.Common.{◌≡◌, ◌+◌, ◌≤◌, Bool, drop}
use Rattle.std.specs.Fn.{FnReturnsAt}
use Rattle.arrayvec.specs.ArrayVec.{array_vec_len}
use Rattle.policy_set.specs.Merge.{gather}
use Rattle.policy_set.proofs.merge.gather.gather_ids.Given as goal

abbrev pub invariant-loop-row : goal.invariant-loop-row
invariant-loop-row g l =
    (array_vec_len l.ids ≤ array_vec_len l.initial.ids + l.row-index)
    × ((asks : _ → Bool) → ((x : _) (b : Bool) → FnReturnsAt g.F.Fn l.test x b → b ≡ asks x)
    → gather g.R.Keyed.naming asks l.ids.items (drop l.row-index l.rows) ≡ gather g.R.Keyed.naming asks l.initial.ids.items l.rows)
