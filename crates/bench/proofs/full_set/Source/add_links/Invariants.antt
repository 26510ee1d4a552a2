use Rattle.std.proofs.Common.{◌≡◌, ◌++◌}
use Rattle.policy_set.specs.Meaning.{maps_of}
use Rattle.bench.specs.Growth.{Grows, templates_of, in_turn}
use Rattle.bench.proofs.full_set.Source.add_links.Given as goal

abbrev pub invariant-loop-i : goal.invariant-loop-i
invariant-loop-i l = record {
  size : Grows (maps_of l.initial.set) (maps_of l.set) 0 l.i;
  turns : templates_of (maps_of l.set) ≡ templates_of (maps_of l.initial.set) ++ in_turn l.slotted l.i;
}
