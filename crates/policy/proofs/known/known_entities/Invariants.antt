use Rattle.std.proofs.Common.{◌≡◌, drop}
use Rattle.policy.specs.Known.{names_known, entities_names}
use Rattle.policy.proofs.known.known_entities.Given as goal

abbrev pub invariant-loop-e : goal.invariant-loop-e
invariant-loop-e l = names_known l.count (entities_names (drop l.e-index l.list)) ≡ names_known l.count (entities_names l.list)
