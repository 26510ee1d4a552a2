use Rattle.std.proofs.Common.{◌≡◌, drop, filter}
use Rattle.std.specs.List.{slice_get}
use Rattle.policy_set.specs.Answers.{is_under}
use Rattle.policy_set.proofs.set.PolicySet.linked_at.Given as goal

abbrev pub invariant-loop-row : goal.invariant-loop-row
invariant-loop-row l =
    slice_get (filter (is_under l.template) (drop l.row-index l.row-items)) l.left ≡ slice_get (filter (is_under l.template) l.row-items) l.place
