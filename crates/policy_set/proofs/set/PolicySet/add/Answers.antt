use Rattle.std.proofs.Common.{ℕ, Bool, List, [], ◌∷◌, ◌++◌, length, sym, ap, ◌∙◌, subst, arith}
use Rattle.clauses.specs.Book.{Clause, Lawful, same_clause}
use Rattle.names.specs.Book.{texts}
use Rattle.policy.specs.Arity.{parts}
use Rattle.policy.specs.declared.bound.Policy.{Policy}
use Rattle.policy_set.specs.declared.rows.PolicyRow.{PolicyRow}
use Rattle.policy_set.specs.declared.set.PolicySet.{PolicySet}
use Rattle.policy_set.specs.Held.{rows_in}
use Rattle.policy_set.specs.Maps.{Maps, row_at}
use Rattle.policy_set.specs.Sound.{member}
use Rattle.policy_set.specs.Answers.{add_answer, row_for, with_or_inserted, with_policy}
use Rattle.policy_set.specs.Laws.{Grants}
use Rattle.policy_set.specs.Meaning.{maps_of}
use Rattle.policy_set.proofs.Accepted.{NewPolicy, new_policy}
use Rattle.policy_set.proofs.Added.{as_many, no_member}
use Rattle.policy_set.proofs.Changes.{accepted_after}
use Rattle.policy_set.proofs.Granted.{Granted, granted}
use Rattle.policy_set.proofs.Scopes.{within}
use Rattle.policy_set.proofs.Sets.{sound, kept_in}
use Rattle.policy_set.proofs.Updates.{maps_equal, kept_as}
use Rattle.policy_set.proofs.set.PolicySet.add.Goals as goal

-- what the tests leave to know
grant : {C : Type 0} (cs : List (Clause C)) (same : ℕ → ℕ → Bool) (set : PolicySet) (p : Policy) → Lawful cs → NewPolicy cs same (maps_of set) (parts p)
    → Granted same (maps_of set) (parts p) (with_policy (row_for (parts p)) (with_or_inserted p.template (maps_of set)))
grant cs same set p lawful n = granted same (maps_of set) (sound set) (kept_in set) (parts p) record {
  scopes = within cs lawful p.template n.cached;
  equal = n.equal;
  policy_free = n.policy_free;
  link = n.link;
  exact = p.exact;
  unlinked = p.unlinked;
}

pub or_insert-requires : goal.or_insert-requires
or_insert-requires g c =
    let cs = g.B.ClauseBook.listed c.args.clauses.now in
    (omega arith, (new_policy (length (texts c.args.names.now)) cs (same_clause g.B.ClauseBook.equal cs) (maps_of c.args.self.now) c.args.policy c.in_ok-can_add.ensures).template_room)

pub push-requires : goal.push-requires
push-requires g c =
    let set = c.args.self.now in
    let cs = g.B.ClauseBook.listed c.args.clauses.now in
    let n = new_policy (length (texts c.args.names.now)) cs (same_clause g.B.ClauseBook.equal cs) (maps_of set) c.args.policy c.in_ok-can_add.ensures in
    (omega arith, (n.policy_room, ap (λ (r : PolicyRow). row_at (maps_of set) r.id) c.from-row.ensures ∙ n.policy_free))

pub push-requires-2 : goal.push-requires-2
push-requires-2 g c =
    let set = c.args.self.now in
    let cs = g.B.ClauseBook.listed c.args.clauses.now in
    let n = new_policy (length (texts c.args.names.now)) cs (same_clause g.B.ClauseBook.equal cs) (maps_of set) c.args.policy c.in_ok-can_add.ensures in
    (omega arith, (omega (arith, n.policy_room, as_many (maps_of set) (sound set)), no_member (maps_of set) (sound set) c.from-row.result.id (ap (λ (r : PolicyRow). row_at (maps_of set) r.id) c.from-row.ensures ∙ n.policy_free)))

pub invariant_of-self : goal.invariant_of-self
invariant_of-self g c =
    let set = c.args.self.now in
    let p = c.args.policy in
    let cs = g.B.ClauseBook.listed c.args.clauses.now in
    let same = same_clause g.B.ClauseBook.equal cs in
    let n = new_policy (length (texts c.args.names.now)) cs same (maps_of set) p c.in_ok-can_add.ensures in
    let k = kept_as (with_policy (row_for (parts p)) (with_or_inserted p.template (maps_of set))) (rows_in c.or_insert.new.self) (rows_in c.push.new.self) (rows_in c.push-2.new.self)
    c.or_insert.ensures
    (c.push.ensures ∙ ap (λ (r : PolicyRow). rows_in set.policies ++ r ∷ []) c.from-row.ensures)
    (c.push-2.ensures ∙ ap (λ (r : PolicyRow). rows_in set.members ++ member r ∷ []) c.from-row.ensures)
    (grant cs same set p (g.met.B.ClauseBook.lawful c.args.clauses.now) n).kept in
    record { names_one = k.one; valued = k.values; scoped = k.scopes; same_members = k.members }

pub returns : goal.returns
returns g c =
    let set = c.args.self.now in
    let p = c.args.policy in
    let cs = g.B.ClauseBook.listed c.args.clauses.now in
    let same = same_clause g.B.ClauseBook.equal cs in
    let n = new_policy (length (texts c.args.names.now)) cs same (maps_of set) p c.in_ok-can_add.ensures in
    let after = with_policy (row_for (parts p)) (with_or_inserted p.template (maps_of set)) in
    let e = maps_equal after (rows_in c.or_insert.new.self) (rows_in c.push.new.self) (rows_in c.push-2.new.self)
    c.or_insert.ensures
    (c.push.ensures ∙ ap (λ (r : PolicyRow). rows_in set.policies ++ r ∷ []) c.from-row.ensures)
    (c.push-2.ensures ∙ ap (λ (r : PolicyRow). rows_in set.members ++ member r ∷ []) c.from-row.ensures) in
    record {
      answer = c.in_ok-can_add.ensures;
      after = e ∙ accepted_after (add_answer (length (texts c.args.names.now)) cs same (maps_of set) p) after (maps_of set) tt c.in_ok-can_add.ensures;
      law = subst (λ (m : Maps). Grants same (maps_of set) m (parts p)) (sym e) (grant cs same set p (g.met.B.ClauseBook.lawful c.args.clauses.now) n).law;
    }
