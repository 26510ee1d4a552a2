use Rattle.policy_set.specs.Held.{rows_in}
use Rattle.policy_set.specs.Meaning.{maps_of}
use Rattle.policy_set.specs.Merge.{final, merged}
use Rattle.policy_set.proofs.Updates.{maps_equal, kept_as}
use Rattle.policy_set.proofs.set.PolicySet.apply.Goals as goal

pub invariant_of-self : goal.invariant_of-self
invariant_of-self c =
    let k = kept_as (merged (final c.args.pairs.now) (maps_of c.args.self.now) (maps_of c.args.incoming.now))
    (rows_in c.put_all.new.self) (rows_in c.put_all-2.new.self) (rows_in c.put_all-3.new.self)
    c.put_all.ensures c.put_all-2.ensures c.put_all-3.ensures
    record { one = c.requires.names_one; values = c.requires.valued; scopes = c.requires.scoped; members = c.requires.same_members } in
    record { names_one = k.one; valued = k.values; scoped = k.scopes; same_members = k.members }

pub returns : goal.returns
returns c =
    maps_equal (merged (final c.args.pairs.now) (maps_of c.args.self.now) (maps_of c.args.incoming.now))
    (rows_in c.put_all.new.self) (rows_in c.put_all-2.new.self) (rows_in c.put_all-3.new.self)
    c.put_all.ensures c.put_all-2.ensures c.put_all-3.ensures
