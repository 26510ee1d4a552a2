use Rattle.std.proofs.Common.{[], ◌∷◌, length, sym, refl, ◌∙◌, subst, arith}
use Rattle.names.specs.Book.{texts}
use Rattle.policy_set.specs.Held.{rows_in}
use Rattle.policy_set.specs.Maps.{Maps}
use Rattle.policy_set.specs.Maps.Thing.{policy}
use Rattle.policy_set.specs.Sound.{member}
use Rattle.policy_set.specs.Answers.{add_static_answer, static_parts, row_for, with_template, with_policy}
use Rattle.policy_set.specs.Laws.{Adds}
use Rattle.policy_set.specs.Meaning.{maps_of}
use Rattle.policy_set.proofs.Accepted.{new_static}
use Rattle.policy_set.proofs.Added.{Own, as_many, no_member, static_added_kept, static_adds}
use Rattle.policy_set.proofs.Changes.{accepted_after}
use Rattle.policy_set.proofs.Scopes.{within}
use Rattle.policy_set.proofs.Sets.{sound, kept_in}
use Rattle.policy_set.proofs.Updates.{maps_equal, kept_as}
use Rattle.policy_set.proofs.set.PolicySet.add_static.Goals as goal

pub push-requires : goal.push-requires
push-requires g c =
    let n = new_static (length (texts c.args.names.now)) (g.B.ClauseBook.listed c.args.clauses.now) (maps_of c.args.self.now) c.args.policy.body c.in_ok-can_add_static.ensures in
    (omega arith, (n.template_room, n.template_free))

pub push-requires-2 : goal.push-requires-2
push-requires-2 g c =
    let n = new_static (length (texts c.args.names.now)) (g.B.ClauseBook.listed c.args.clauses.now) (maps_of c.args.self.now) c.args.policy.body c.in_ok-can_add_static.ensures in
    (omega arith, (n.policy_room, n.policy_free))

pub push-requires-3 : goal.push-requires-3
push-requires-3 g c =
    let set = c.args.self.now in
    let n = new_static (length (texts c.args.names.now)) (g.B.ClauseBook.listed c.args.clauses.now) (maps_of set) c.args.policy.body c.in_ok-can_add_static.ensures in
    (omega arith, (omega (arith, n.policy_room, as_many (maps_of set) (sound set)), no_member (maps_of set) (sound set) c.args.policy.body.id n.policy_free))

pub invariant_of-self : goal.invariant_of-self
invariant_of-self g c =
    let set = c.args.self.now in
    let t = c.args.policy.body in
    let cs = g.B.ClauseBook.listed c.args.clauses.now in
    let row = row_for (static_parts t) in
    let own : Own t row = record { id = refl; template = refl; static = refl; slotless = c.args.policy.slotless; values = refl } in
    let n = new_static (length (texts c.args.names.now)) cs (maps_of set) t c.in_ok-can_add_static.ensures in
    let w = within cs (g.met.B.ClauseBook.lawful c.args.clauses.now) t n.cached in
    let k = kept_as (with_policy row (with_template t (maps_of set))) (rows_in c.push.new.self) (rows_in c.push-2.new.self) (rows_in c.push-3.new.self)
    c.push.ensures c.push-2.ensures c.push-3.ensures (static_added_kept (maps_of set) t row own (sound set) (kept_in set) n.template_free n.policy_free w) in
    record { names_one = k.one; valued = k.values; scoped = k.scopes; same_members = k.members }

pub returns : goal.returns
returns g c =
    let set = c.args.self.now in
    let t = c.args.policy.body in
    let cs = g.B.ClauseBook.listed c.args.clauses.now in
    let row = row_for (static_parts t) in
    let own : Own t row = record { id = refl; template = refl; static = refl; slotless = c.args.policy.slotless; values = refl } in
    let answer = add_static_answer (length (texts c.args.names.now)) cs (maps_of set) t in
    let n = new_static (length (texts c.args.names.now)) cs (maps_of set) t c.in_ok-can_add_static.ensures in
    let after = with_policy row (with_template t (maps_of set)) in
    let e = maps_equal after (rows_in c.push.new.self) (rows_in c.push-2.new.self) (rows_in c.push-3.new.self) c.push.ensures c.push-2.ensures c.push-3.ensures in
    record {
      answer = c.in_ok-can_add_static.ensures;
      after = e ∙ accepted_after answer after (maps_of set) tt c.in_ok-can_add_static.ensures;
      law = subst (λ (m : Maps). Adds (maps_of set) m t.id (policy (static_parts t)) (member row ∷ [])) (sym e) (static_adds (maps_of set) t row own (sound set) n.template_free n.policy_free);
    }
