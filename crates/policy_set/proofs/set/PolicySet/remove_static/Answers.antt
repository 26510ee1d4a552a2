use Rattle.std.proofs.Common.{◌≡◌, ℕ, [], ◌∷◌, length, Ok, Result, sym, refl, ap, ◌∙◌, subst}
use Rattle.clauses.specs.NameChecks.{name_check}
use Rattle.refusals.specs.declared.refusal.Refusal.{Refusal}
use Rattle.policy.specs.Known.{and_then, names_known}
use Rattle.names.specs.Book.{texts}
use Rattle.policy_set.specs.Held.{rows_in}
use Rattle.policy_set.specs.Maps.{Maps, template_at}
use Rattle.policy_set.specs.Maps.Thing.{policy}
use Rattle.policy_set.specs.Laws.{Removes, Refused}
use Rattle.refusals.specs.declared.refusal.Refusal.TheVariants.{RemovePolicyNoTemplateError}
use Rattle.policy.specs.Arity.{parts}
use Rattle.policy_set.specs.Answers.{without_template, without_policy, policy_last}
use Rattle.policy_set.specs.Meaning.{maps_of}
use Rattle.policy_set.proofs.Lookups.{is_some}
use Rattle.policy_set.proofs.Sounds.{row_of}
use Rattle.policy_set.proofs.Sets.{sound, kept_in}
use Rattle.policy_set.proofs.Updates.{maps_equal, kept_as}
use Rattle.policy_set.proofs.Removed.{static_removed-kept, static_removes, policy_last-kept, policy_last_refused, remove_static_accepts, remove_static_puts_back}
use Rattle.policy_set.proofs.set.PolicySet.remove_static.Goals as goal

-- a name that the book has, among one
known : (count id : ℕ) → Ok tt ≡ name_check count id → Ok tt ≡ names_known count (id ∷ [])
known count id e = ap (λ (r : Result (Unit {0}) Refusal). and_then r (Ok tt)) e

pub invariant_of-self : goal.invariant_of-self
invariant_of-self c =
    let set = c.args.self.now in
    let id = c.args.id in
    let k = kept_as (policy_last id (maps_of set)) (rows_in set.templates) (rows_in c.move_last.new.self) (rows_in set.members)
    refl c.move_last.ensures refl (policy_last-kept (maps_of set) id (sound set) (kept_in set)) in
    record { names_one = k.one; valued = k.values; scoped = k.scopes; same_members = k.members }

pub invariant_of-self-2 : goal.invariant_of-self-2
invariant_of-self-2 c =
    let set = c.args.self.now in
    let id = c.args.id in
    let t = is_some (template_at (maps_of set) id) (sym c.has_template.ensures ∙ c.if-not-has_template.false) in
    let r = row_of (maps_of set) id (parts c.in-Some.policy) c.in-Some.ensures in
    let k = kept_as (without_template id (without_policy id (maps_of set))) (rows_in c.remove.new.self) (rows_in c.remove-2.new.self) (rows_in c.remove-3.new.self)
    c.remove.ensures c.remove-2.ensures c.remove-3.ensures (static_removed-kept (maps_of set) id t.0 r.0 (sound set) (kept_in set) t.1 r.1) in
    record { names_one = k.one; valued = k.values; scoped = k.scopes; same_members = k.members }

pub returns-then-not-has_template : goal.returns-then-not-has_template
returns-then-not-has_template c =
    let set = c.args.self.now in
    let id = c.args.id in
    let a = remove_static_puts_back (length (texts c.args.names.now)) (maps_of set) id (parts c.in-Some.policy) (known _ _ c.in_ok-check_name.ensures) c.in-Some.ensures
    (sym c.has_template.ensures ∙ c.if-not-has_template.true) in
    let e = maps_equal (policy_last id (maps_of set)) (rows_in set.templates) (rows_in c.move_last.new.self) (rows_in set.members) refl c.move_last.ensures refl in
    record {
      answer = a.0;
      after = e ∙ sym a.1;
      law = subst (λ (m : Maps). Refused (maps_of set) m (RemovePolicyNoTemplateError id)) (sym e) (policy_last_refused (maps_of set) id (sound set));
    }

pub returns : goal.returns
returns c =
    let set = c.args.self.now in
    let id = c.args.id in
    let p = parts c.in-Some.policy in
    let t = is_some (template_at (maps_of set) id) (sym c.has_template.ensures ∙ c.if-not-has_template.false) in
    let r = row_of (maps_of set) id p c.in-Some.ensures in
    let a = remove_static_accepts (length (texts c.args.names.now)) (maps_of set) id p (known _ _ c.in_ok-check_name.ensures) c.in-Some.ensures
    (sym c.has_template.ensures ∙ c.if-not-has_template.false) in
    let e = maps_equal (without_template id (without_policy id (maps_of set))) (rows_in c.remove.new.self) (rows_in c.remove-2.new.self) (rows_in c.remove-3.new.self)
    c.remove.ensures c.remove-2.ensures c.remove-3.ensures in
    record {
      answer = a.0;
      after = e ∙ sym a.1;
      law = subst (λ (m : Maps). Removes (maps_of set) m id (policy p)) (sym e)
          (static_removes (maps_of set) id t.0 r.0 p (sound set) t.1 r.1 (sym c.in-Some.ensures));
    }
