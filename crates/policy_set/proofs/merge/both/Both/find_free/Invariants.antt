use Rattle.std.proofs.Common.{◌≡◌, ◌-◌}
use Rattle.names.specs.Book.{texts}
use Rattle.policy_set.specs.Choice.{first_free, taken_by}
use Rattle.policy_set.specs.Meaning.{maps_of}
use Rattle.policy_set.proofs.merge.both.Both.find_free.Given as goal

abbrev pub invariant-loop-counter : goal.invariant-loop-counter
invariant-loop-counter l =
    first_free (texts l.names) (taken_by (maps_of l.self.live.now) (maps_of l.self.incoming.now)) (65536 - l.counter) l.fresh l.counter
    ≡ first_free (texts l.names) (taken_by (maps_of l.self.live.now) (maps_of l.self.incoming.now)) (65536 - l.start) l.fresh l.start
