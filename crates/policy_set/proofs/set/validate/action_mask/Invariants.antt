use Rattle.std.proofs.Common.{◌≡◌, ◌+◌, ◌^◌, ◌<◌, drop}
use Rattle.names.specs.Book.{texts}
use Rattle.policy_set.specs.Validation.{mask_from}
use Rattle.policy_set.proofs.set.validate.action_mask.Given as goal

abbrev pub invariant-loop-k : goal.invariant-loop-k
invariant-loop-k l =
    (l.mask < 2 ^ l.k) × (l.mask + mask_from (texts l.names) l.k (drop l.k l.actions) ≡ mask_from (texts l.names) 0 l.actions)
