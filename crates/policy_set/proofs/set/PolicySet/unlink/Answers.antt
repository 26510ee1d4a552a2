use Rattle.std.proofs.Common.{length, sym, refl, ◌∙◌, subst}
use Rattle.names.specs.Book.{texts}
use Rattle.policy.specs.Arity.{parts}
use Rattle.policy_set.specs.Held.{rows_in}
use Rattle.policy_set.specs.Maps.{Maps}
use Rattle.policy_set.specs.Maps.Thing.{policy}
use Rattle.policy_set.specs.Answers.{unlink_answer, without_policy}
use Rattle.policy_set.specs.Laws.{Removes}
use Rattle.policy_set.specs.Meaning.{maps_of}
use Rattle.policy_set.proofs.Accepted.{unlinkable}
use Rattle.policy_set.proofs.Changes.{accepted_after}
use Rattle.policy_set.proofs.Removed.{link_removed_kept, link_removes}
use Rattle.policy_set.proofs.Sets.{sound, kept_in}
use Rattle.policy_set.proofs.Updates.{maps_equal, kept_as}
use Rattle.policy_set.proofs.set.PolicySet.unlink.Goals as goal

pub invariant_of-self : goal.invariant_of-self
invariant_of-self c =
    let set = c.args.self.now in
    let id = c.args.id in
    let u = unlinkable (length (texts c.args.names.now)) (maps_of set) id (parts c.in_ok-policy.policy) c.in_ok-policy.ensures in
    let k = kept_as (without_policy id (maps_of set)) (rows_in set.templates) (rows_in c.remove.new.self) (rows_in c.remove-2.new.self)
    refl c.remove.ensures c.remove-2.ensures (link_removed_kept (maps_of set) id (sound set) (kept_in set) u.no_template) in
    record { names_one = k.one; valued = k.values; scoped = k.scopes; same_members = k.members }

pub returns : goal.returns
returns c =
    let set = c.args.self.now in
    let id = c.args.id in
    let p = parts c.in_ok-policy.policy in
    let u = unlinkable (length (texts c.args.names.now)) (maps_of set) id p c.in_ok-policy.ensures in
    let e = maps_equal (without_policy id (maps_of set)) (rows_in set.templates) (rows_in c.remove.new.self) (rows_in c.remove-2.new.self)
    refl c.remove.ensures c.remove-2.ensures in
    record {
      answer = c.in_ok-policy.ensures;
      after = e ∙ accepted_after (unlink_answer (length (texts c.args.names.now)) (maps_of set) id) (without_policy id (maps_of set)) (maps_of set) p c.in_ok-policy.ensures;
      law = subst (λ (m : Maps). Removes (maps_of set) m id (policy p)) (sym e) (link_removes (maps_of set) id p (sound set) u.no_template u.policy);
    }
