use Rattle.std.proofs.Common.{◌≡◌, drop}
use Rattle.names.specs.Book.{texts}
use Rattle.policy.specs.Making.{types_kept, entities_types}
use Rattle.policy.proofs.making.kept_entities.Given as goal

abbrev pub invariant-loop-e : goal.invariant-loop-e
invariant-loop-e l = types_kept (texts l.names) (entities_types (drop l.e-index l.list)) ≡ types_kept (texts l.names) (entities_types l.list)
