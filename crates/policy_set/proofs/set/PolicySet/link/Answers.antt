use Rattle.std.proofs.Common.{◌≡◌, [], ◌∷◌, length, sym, refl, ap, ◌∙◌, subst, arith}
use Rattle.names.specs.Book.{texts}
use Rattle.policy.specs.Arity.{Parts, parts}
use Rattle.policy.specs.Binding.{value_slots}
use Rattle.policy_set.specs.Held.{rows_in}
use Rattle.policy_set.specs.Maps.{Maps}
use Rattle.policy_set.specs.Maps.Thing.{policy}
use Rattle.policy_set.specs.Sound.{member}
use Rattle.policy_set.specs.Answers.{link_answer, with_policy, link_row}
use Rattle.policy_set.specs.Laws.{Adds}
use Rattle.policy_set.specs.Meaning.{maps_of}
use Rattle.policy_set.proofs.Accepted.{link_of_template}
use Rattle.policy_set.proofs.Added.{as_many, no_member, link_added_kept, link_adds}
use Rattle.policy_set.proofs.Changes.{accepted_after}
use Rattle.policy_set.proofs.Sets.{sound, kept_in}
use Rattle.policy_set.proofs.Updates.{maps_equal, kept_as}
use Rattle.policy_set.proofs.set.PolicySet.link.Goals as goal

pub push-requires : goal.push-requires
push-requires c =
    let set = c.args.self.now in
    let l = link_of_template (length (texts c.args.names.now)) (maps_of set) c.args.template_id c.args.new_id c.args.values (parts c.in_ok-policy.policy) c.in_ok-policy.ensures in
    (omega arith, (l.2.room, l.2.policy_free))

pub push-requires-2 : goal.push-requires-2
push-requires-2 c =
    let set = c.args.self.now in
    let l = link_of_template (length (texts c.args.names.now)) (maps_of set) c.args.template_id c.args.new_id c.args.values (parts c.in_ok-policy.policy) c.in_ok-policy.ensures in
    (omega arith, (omega (arith, l.2.room, as_many (maps_of set) (sound set)), no_member (maps_of set) (sound set) c.args.new_id l.2.policy_free))

pub invariant_of-self : goal.invariant_of-self
invariant_of-self c =
    let set = c.args.self.now in
    let p = c.in_ok-policy.policy in
    let row = link_row c.args.template_id c.args.new_id c.args.values in
    let l = link_of_template (length (texts c.args.names.now)) (maps_of set) c.args.template_id c.args.new_id c.args.values (parts p) c.in_ok-policy.ensures in
    let exact : value_slots c.args.values ≡ l.0.slots.bits =
    ap (λ (q : Parts). value_slots q.values) (sym l.2.made) ∙ (p.exact ∙ ap (λ (q : Parts). q.template.slots.bits) l.2.made) in
    let k = kept_as (with_policy row (maps_of set)) (rows_in set.templates) (rows_in c.push.new.self) (rows_in c.push-2.new.self)
    refl c.push.ensures c.push-2.ensures
    (link_added_kept (maps_of set) row l.0 (sound set) (kept_in set) l.2.template_free l.2.policy_free refl l.1 l.2.has_slots exact) in
    record { names_one = k.one; valued = k.values; scoped = k.scopes; same_members = k.members }

pub returns : goal.returns
returns c =
    let set = c.args.self.now in
    let p = parts c.in_ok-policy.policy in
    let row = link_row c.args.template_id c.args.new_id c.args.values in
    let answer = link_answer (length (texts c.args.names.now)) (maps_of set) c.args.template_id c.args.new_id c.args.values in
    let l = link_of_template (length (texts c.args.names.now)) (maps_of set) c.args.template_id c.args.new_id c.args.values p c.in_ok-policy.ensures in
    let e = maps_equal (with_policy row (maps_of set)) (rows_in set.templates) (rows_in c.push.new.self) (rows_in c.push-2.new.self) refl c.push.ensures c.push-2.ensures in
    record {
      answer = c.in_ok-policy.ensures;
      after = e ∙ accepted_after answer (with_policy row (maps_of set)) (maps_of set) p c.in_ok-policy.ensures;
      law = subst (λ (m : Maps). Adds (maps_of set) m c.args.new_id (policy p) (member row ∷ [])) (sym e)
          (subst (λ (q : Parts). Adds (maps_of set) (with_policy row (maps_of set)) c.args.new_id (policy q) (member row ∷ [])) (sym l.2.made)
          (link_adds (maps_of set) row l.0 (sound set) l.2.template_free l.2.policy_free refl l.1));
    }
