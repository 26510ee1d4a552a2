use Rattle.std.proofs.Common.{◌-◌}
use Rattle.policy_set.specs.Answers.{empty}
use Rattle.policy_set.specs.Meaning.{maps_of}
use Rattle.bench.specs.Growth.{Grows}
use Rattle.bench.proofs.full_set.full_set.Given as goal

abbrev pub invariant-loop-i : goal.invariant-loop-i
invariant-loop-i l = Grows empty (maps_of l.set) l.i (l.i - l.fn.size.slotted)
