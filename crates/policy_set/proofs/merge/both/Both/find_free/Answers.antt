use Rattle.std.proofs.Common.{sym, ◌∙◌}
use Rattle.names.specs.Book.{texts}
use Rattle.policy_set.specs.Choice.{taken_by}
use Rattle.policy_set.specs.Meaning.{maps_of}
use Rattle.policy_set.proofs.Choices.{free_hit, free_miss, next_of}
use Rattle.policy_set.proofs.merge.both.Both.find_free.Goals as goal

pub returns-then-not-is_bound : goal.returns-then-not-is_bound
returns-then-not-is_bound c = record {
  value = sym (free_hit (texts c.args.names.now) (taken_by (maps_of c.args.self.now.live.now) (maps_of c.args.self.now.incoming.now)) 65536
      c.args.fresh c.loop-counter.counter c.attempt-t.result c.loop-counter-test.true c.attempt-t.ensures
      (sym c.if-not-is_bound.true ∙ c.is_bound.ensures))
      ∙ c.loop-counter.invariant;
  next = next_of _ _ _ _ c.attempt-t.ensures;
}

pub loop-counter-preserved : goal.loop-counter-preserved
loop-counter-preserved c =
    free_miss (texts c.args.names.now) (taken_by (maps_of c.args.self.now.live.now) (maps_of c.args.self.now.incoming.now)) 65536
    c.args.fresh c.loop-counter.counter c.attempt-t.result c.loop-counter-test.true c.attempt-t.ensures
    (sym c.if-not-is_bound.false ∙ c.is_bound.ensures)
    ∙ c.loop-counter.invariant
