use Rattle.std.proofs.Common.{◌≡◌, drop}
use Rattle.names.specs.Book.{texts, limits}
use Rattle.policy_set.specs.Choice.{enter_all}
use Rattle.policy_set.proofs.merge.enter.enter_all.Given as goal

abbrev pub invariant-loop-counter : goal.invariant-loop-counter
invariant-loop-counter l =
    (limits l.names ≡ limits l.initial.names)
    × (enter_all (limits l.initial.names) (texts l.names) (drop l.counter-index l.news) ≡ enter_all (limits l.initial.names) (texts l.initial.names) l.news)
