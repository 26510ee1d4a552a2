use Rattle.policy_set.proofs.Shifts.{rotated}
use Rattle.policy_set.proofs.keyed.move_last.Goals as goal

pub returns : goal.returns
returns g c = rotated _ _ _ c.requires c.rotate_left.ensures.after
