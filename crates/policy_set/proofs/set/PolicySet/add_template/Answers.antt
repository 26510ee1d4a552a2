use Rattle.std.proofs.Common.{[], length, sym, refl, ◌∙◌, subst, arith}
use Rattle.names.specs.Book.{texts}
use Rattle.policy_set.specs.Held.{rows_in}
use Rattle.policy_set.specs.Maps.{Maps}
use Rattle.policy_set.specs.Maps.Thing.{template}
use Rattle.policy_set.specs.Answers.{add_template_answer, with_template}
use Rattle.policy_set.specs.Laws.{Adds}
use Rattle.policy_set.specs.Meaning.{maps_of}
use Rattle.policy_set.proofs.Accepted.{new_template}
use Rattle.policy_set.proofs.Added.{template_added_kept, template_adds}
use Rattle.policy_set.proofs.Changes.{accepted_after}
use Rattle.policy_set.proofs.Scopes.{within}
use Rattle.policy_set.proofs.Sets.{sound, kept_in}
use Rattle.policy_set.proofs.Updates.{maps_equal, kept_as}
use Rattle.policy_set.proofs.set.PolicySet.add_template.Goals as goal

pub push-requires : goal.push-requires
push-requires g c =
    let n = new_template (length (texts c.args.names.now)) (g.B.ClauseBook.listed c.args.clauses.now) (maps_of c.args.self.now) c.args.t c.in_ok-can_add_template.ensures in
    (omega arith, (n.room, n.template_free))

pub invariant_of-self : goal.invariant_of-self
invariant_of-self g c =
    let set = c.args.self.now in
    let t = c.args.t in
    let cs = g.B.ClauseBook.listed c.args.clauses.now in
    let n = new_template (length (texts c.args.names.now)) cs (maps_of set) t c.in_ok-can_add_template.ensures in
    let w = within cs (g.met.B.ClauseBook.lawful c.args.clauses.now) t n.cached in
    let k = kept_as (with_template t (maps_of set)) (rows_in c.push.new.self) (rows_in set.policies) (rows_in set.members)
    c.push.ensures refl refl (template_added_kept (maps_of set) t (sound set) (kept_in set) n.template_free n.policy_free n.has_slots w) in
    record { names_one = k.one; valued = k.values; scoped = k.scopes; same_members = k.members }

pub returns : goal.returns
returns g c =
    let set = c.args.self.now in
    let t = c.args.t in
    let cs = g.B.ClauseBook.listed c.args.clauses.now in
    let answer = add_template_answer (length (texts c.args.names.now)) cs (maps_of set) t in
    let n = new_template (length (texts c.args.names.now)) cs (maps_of set) t c.in_ok-can_add_template.ensures in
    let e = maps_equal (with_template t (maps_of set)) (rows_in c.push.new.self) (rows_in set.policies) (rows_in set.members) c.push.ensures refl refl in
    record {
      answer = c.in_ok-can_add_template.ensures;
      after = e ∙ accepted_after answer (with_template t (maps_of set)) (maps_of set) tt c.in_ok-can_add_template.ensures;
      law = subst (λ (m : Maps). Adds (maps_of set) m t.id (template t) []) (sym e) (template_adds (maps_of set) t (sound set) n.template_free n.policy_free);
    }
