use Rattle.std.proofs.Common.{◌≡◌, ◌≤◌, ◌++◌, drop}
use Rattle.arrayvec.specs.ArrayVec.{array_vec_len}
use Rattle.names.specs.Book.{texts}
use Rattle.policy_set.specs.Choice.{choose, after_these, new_texts, taken_by}
use Rattle.policy_set.specs.Meaning.{maps_of}
use Rattle.policy_set.proofs.merge.both.Both.choose_names.Given as goal

abbrev pub invariant-loop-id : goal.invariant-loop-id
invariant-loop-id l =
    (array_vec_len l.plan.news ≤ l.id-index)
    × (array_vec_len l.plan.pairs ≤ l.id-index)
    × (after_these l.plan.pairs.items (choose (texts l.names) (taken_by (maps_of l.self.live.now) (maps_of l.self.incoming.now)) 65536 (array_vec_len l.plan.news) l.counter (drop l.id-index l.ids))
    ≡ choose (texts l.names) (taken_by (maps_of l.self.live.now) (maps_of l.self.incoming.now)) 65536 0 0 l.ids)
    × (l.plan.news.items ++ new_texts (texts l.names) (taken_by (maps_of l.self.live.now) (maps_of l.self.incoming.now)) 65536 (array_vec_len l.plan.news) l.counter (drop l.id-index l.ids)
    ≡ new_texts (texts l.names) (taken_by (maps_of l.self.live.now) (maps_of l.self.incoming.now)) 65536 0 0 l.ids)
