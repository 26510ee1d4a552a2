use Rattle.std.proofs.Common.{◌≡◌, map, vec_len}
use Rattle.policy.specs.Filling.{slotted}
use Rattle.policy_set.specs.Meaning.{maps_of}
use Rattle.bench.specs.Growth.{Grows, by_turns}
use Rattle.bench.proofs.full_set.Source.add_templates.Given as goal

abbrev pub invariant-loop-i : goal.invariant-loop-i
invariant-loop-i l = record {
  count : vec_len l.templates ≡ l.i;
  turns : map (λ t. slotted t.resource) l.templates.items ≡ by_turns l.i;
  size : Grows (maps_of l.initial.set) (maps_of l.set) l.i 0;
}
