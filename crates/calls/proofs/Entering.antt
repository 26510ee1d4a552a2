-- How grants and take-backs keep a set and its tally together.
use Rattle.std.proofs.Common.{◌≡◌, ℕ, Bool, true, false, cond, eqb, List, is_some, Some, None, Option, sym, refl, ap, ◌∙◌, subst, arith}
use Rattle.std.proofs.lemmas.Bool.{eqb-true, eqb-false, or_parts}
use Rattle.policy.specs.Arity.{Parts}
use Rattle.policy.specs.declared.template.Template.{Template}
use Rattle.policy_set.specs.Maps.{Maps, Thing, template_at, row_at, changed, whole, in_force, bound, named, thing}
use Rattle.policy_set.specs.Maps.Thing.{nothing, template, policy}
use Rattle.policy_set.specs.Laws.{Adds, Removes}
use Rattle.policy_set.specs.Merge.{parts_equal}
use Rattle.policy_set.specs.Tally.{Account, Tally, grant, Agrees, Shows}
use Rattle.policy_set.proofs.Lookups.{no_some, some_same, is_none}
use Rattle.calls.specs.Law.{take_back, with_account}

-- the policy that a thing is
abbrev policy_in : Thing → Option Parts
policy_in nothing = None
policy_in (template t) = None
policy_in (policy p) = Some p

pub in_thing : (t : Option Template) (p : Option Parts) → policy_in (thing t p) ≡ p
in_thing None None = refl
in_thing None (Some p) = refl
in_thing (Some t) None = refl
in_thing (Some t) (Some p) = refl

-- what an id names tells what is in force under it
pub force_named : (m : Maps) (k : ℕ) (it : Thing) → named m k ≡ it → in_force m k ≡ policy_in it
force_named m k it e = sym (in_thing (template_at m k) (in_force m k)) ∙ ap policy_in e

pub force_same : (m n : Maps) (k : ℕ) → named m k ≡ named n k → in_force m k ≡ in_force n k
force_same m n k e = force_named m k (named n k) e ∙ in_thing (template_at n k) (in_force n k)

pub force_unbound : (m : Maps) (k : ℕ) → bound m k ≡ false → in_force m k ≡ None
force_unbound m k e =
    let p = or_parts (is_some (template_at m k)) (is_some (row_at m k)) e in
    ap (changed (whole m)) (is_none (row_at m k) p.1)

-- one id has another policy in force, or none
pub record Change (before after : Maps) (id : ℕ) (now : Option Parts) : Type 0 where
  pub here : in_force after id ≡ now
  pub others : (k : ℕ) → (k ≡ id → ⊥) → in_force after k ≡ in_force before k

pub added : (before after : Maps) (id : ℕ) (p : Parts) (members : List _) → Adds before after id (policy p) members → Change before after id (Some p)
added before after id p members a = record {
  here = force_named after id (policy p) a.names_it;
  others = λ k n. force_same after before k (a.others k n);
}

pub removed : (before after : Maps) (id : ℕ) (it : Thing) → Removes before after id it → Change before after id None
removed before after id it r = record {
  here = force_unbound after id r.unbound;
  others = λ k n. force_same after before k (r.others k n);
}

module _ (same : ℕ → ℕ → Bool) (before after : Maps) (tally : Tally) (sh : Shows same tally before) where
  -- nothing in force has changed
  pub shows_same : ((k : ℕ) → in_force after k ≡ in_force before k) → Shows same tally after
  shows_same e k = subst (Agrees same (tally k)) (sym (e k)) (sh k)

  -- one account changes with what is in force
  shows_changed : (id : ℕ) (now : Option Parts) (a : Account) → Change before after id now → Agrees same a now → Shows same (with_account id a tally) after
  shows_changed id now a c h k = go (eqb id k) refl
    where
      go : (b : Bool) → eqb id k ≡ b → Agrees same (cond b a (tally k)) (in_force after k)
      go true e =
          subst (λ j. Agrees same a (in_force after j)) (eqb-true id k e) (subst (Agrees same a) (sym c.here) h)
      go false e = subst (Agrees same (tally k)) (sym (c.others k (λ z. eqb-false id k e (sym z)))) (sh k)

  pub shows_granted : (id : ℕ) (now p : Parts) → Change before after id (Some now) → in_force before id ≡ None → parts_equal same now p ≡ true
      → Shows same (with_account id (grant (tally id) p) tally) after
  shows_granted id now p c n e =
      let h : Agrees same (tally id) None = subst (Agrees same (tally id)) n (sh id) in
      shows_changed id (Some now) (grant (tally id) p) c record {
        balance = omega (arith, h.balance);
        latest = λ q d. subst (λ (x : Parts). parts_equal same x p ≡ true) (some_same now q d) e;
      }

  pub shows_taken : (id : ℕ) (p : Parts) → Change before after id None → in_force before id ≡ Some p
      → Shows same (with_account id (take_back (tally id)) tally) after
  shows_taken id p c s =
      let h : Agrees same (tally id) (Some p) = subst (Agrees same (tally id)) s (sh id) in
      shows_changed id None (take_back (tally id)) c record { balance = omega (arith, h.balance); latest = λ q d. no_some q d }

  -- what is taken back equals its latest grant
  pub latest_taken : (id : ℕ) (p : Parts) → in_force before id ≡ Some p → parts_equal same p (tally id).latest ≡ true
  latest_taken id p e = (sh id).latest p e
