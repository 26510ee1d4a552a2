use Rattle.std.proofs.Common.{length, sym, refl, ◌∙◌, subst}
use Rattle.names.specs.Book.{texts}
use Rattle.policy_set.specs.Held.{rows_in}
use Rattle.policy_set.specs.Maps.{Maps}
use Rattle.policy_set.specs.Maps.Thing.{template}
use Rattle.policy_set.specs.Answers.{remove_template_answer, without_template}
use Rattle.policy_set.specs.Laws.{Removes}
use Rattle.policy_set.specs.Meaning.{maps_of}
use Rattle.policy_set.proofs.Accepted.{removable}
use Rattle.policy_set.proofs.Changes.{accepted_after}
use Rattle.policy_set.proofs.Removed.{template_removed_kept, template_removes}
use Rattle.policy_set.proofs.Sets.{sound, kept_in}
use Rattle.policy_set.proofs.Updates.{maps_equal, kept_as}
use Rattle.policy_set.proofs.set.PolicySet.remove_template.Goals as goal

pub invariant_of-self : goal.invariant_of-self
invariant_of-self c =
    let set = c.args.self.now in
    let id = c.args.id in
    let u = removable (length (texts c.args.names.now)) (maps_of set) id c.in_ok-template.template c.in_ok-template.ensures in
    let k = kept_as (without_template id (maps_of set)) (rows_in c.remove.new.self) (rows_in set.policies) (rows_in set.members)
    c.remove.ensures refl refl (template_removed_kept (maps_of set) id (sound set) (kept_in set) u.no_policy u.no_members) in
    record { names_one = k.one; valued = k.values; scoped = k.scopes; same_members = k.members }

pub returns : goal.returns
returns c =
    let set = c.args.self.now in
    let id = c.args.id in
    let t = c.in_ok-template.template in
    let u = removable (length (texts c.args.names.now)) (maps_of set) id t c.in_ok-template.ensures in
    let e = maps_equal (without_template id (maps_of set)) (rows_in c.remove.new.self) (rows_in set.policies) (rows_in set.members) c.remove.ensures refl refl in
    record {
      answer = c.in_ok-template.ensures;
      after = e ∙ accepted_after (remove_template_answer (length (texts c.args.names.now)) (maps_of set) id) (without_template id (maps_of set)) (maps_of set) t c.in_ok-template.ensures;
      law = subst (λ (m : Maps). Removes (maps_of set) m id (template t)) (sym e) (template_removes (maps_of set) id t (sound set) u.template u.no_policy u.no_members);
    }
