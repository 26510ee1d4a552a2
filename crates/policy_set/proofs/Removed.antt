-- What removals change, and that they keep what a set keeps.
use Rattle.std.proofs.Common.{◌≡◌, ℕ, Bool, true, false, cond, eqb, List, [], ◌∷◌, is_some, Some, None, Ok, Err, filter, Option, sym, refl, ap, ◌∙◌}
use Rattle.std.proofs.lemmas.Bool.{eqb-false, eq-eqb}
use Rattle.refusals.specs.declared.refusal.Refusal.TheVariants.{RemovePolicyNoTemplateError}
use Rattle.policy.specs.Arity.{Parts}
use Rattle.policy.specs.Known.{names_known}
use Rattle.policy.specs.declared.template.Template.{Template}
use Rattle.policy_set.specs.declared.rows.PolicyRow.{PolicyRow}
use Rattle.policy_set.specs.declared.rows.Member.{Member}
use Rattle.policy_set.specs.Tables.{lookup}
use Rattle.policy_set.specs.Rows.{template_id, policy_id, member_id}
use Rattle.policy_set.specs.Maps.{Maps, template_at, row_at, member_at, in_force, changed, whole, thing}
use Rattle.policy_set.specs.Maps.Thing.{policy, template}
use Rattle.policy_set.specs.Sound.{member, Sound}
use Rattle.policy_set.specs.Answers.{remove_static_answer, remove_static_after, no_rows, is_under, reverse_set, without_policy, without_template, policy_last}
use Rattle.policy_set.specs.Laws.{Removes, Refused}
use Rattle.policy_set.proofs.Changes.{removes, erase_absent}
use Rattle.policy_set.proofs.Lookups.{times_none, some_same, no_some, lookup_erased, lookup-kept, lookup_moved}
use Rattle.policy_set.proofs.Sounds.{no_true}
use Rattle.policy_set.proofs.Updates.{Update, Fits, Kept, kept, kept_same}

-- nothing stands under an id
pub nothing_fits : (m : Maps) → Fits m None None None
nothing_fits m = record { one = refl; values = refl; scopes = refl; member = refl }

-- a link is removed
pub link_removed : (m : Maps) (id : ℕ) → Sound m → template_at m id ≡ None → Update m (without_policy id m) id None None None
link_removed m id s n = record {
  templates = λ k. lookup-kept template_id id m.templates k ∙ ap (λ (o : Option Template). cond (eqb id k) o (template_at m k)) n;
  rows = λ k. lookup_erased policy_id id m.policies k s.policies_once;
  members = λ k. lookup_erased member_id id m.members k s.members_once;
  apart = λ k q d e p. sym n;
}

pub link_removed_kept : (m : Maps) (id : ℕ) → Sound m → Kept m → template_at m id ≡ None → Kept (without_policy id m)
link_removed_kept m id s old n = kept m (without_policy id m) id None None None (link_removed m id s n) old (nothing_fits (without_policy id m))

pub link_removes : (m : Maps) (id : ℕ) (p : Parts) → Sound m → template_at m id ≡ None → in_force m id ≡ Some p → Removes m (without_policy id m) id (policy p)
link_removes m id p s a b =
    removes m (without_policy id m) id (policy p) s.members_once (link_removed m id s a) refl
    (ap (λ (o : Option Template). thing o (in_force m id)) a ∙ ap (thing None) b)

-- a static policy is removed
pub static_removed_all : (m : Maps) (id : ℕ) (t : Template) (r : PolicyRow) → Sound m → template_at m id ≡ Some t → row_at m id ≡ Some r
    → Update m (without_template id (without_policy id m)) id None None None
static_removed_all m id t r s a b = record {
  templates = λ k. lookup_erased template_id id m.templates k s.templates_once;
  rows = λ k. lookup_erased policy_id id m.policies k s.policies_once;
  members = λ k. lookup_erased member_id id m.members k s.members_once;
  apart = λ k q n e p. absurd (other k q n e p (template_at m k) refl);
}
  where
    other : (k : ℕ) (q : PolicyRow) → eqb id k ≡ false → row_at m k ≡ Some q → q.template ≡ id → (o : Option Template) → template_at m k ≡ o → ⊥
    other k q n e p None f =
        let l = (s.link k q f e).1 in
        let u : t ≡ l.0 = some_same t l.0 (sym a ∙ (ap (template_at m) (sym p) ∙ l.1)) in
        l.2 (ap (λ (w : Template). w.slots.bits) (sym u) ∙ (s.static id t r a b).2)
    other k q n e p (Some u) f = eqb-false id k n (sym p ∙ (s.static k u q f e).0)

pub static_removed-kept : (m : Maps) (id : ℕ) (t : Template) (r : PolicyRow) → Sound m → Kept m → template_at m id ≡ Some t → row_at m id ≡ Some r
    → Kept (without_template id (without_policy id m))
static_removed-kept m id t r s old a b =
    kept m (without_template id (without_policy id m)) id None None None (static_removed_all m id t r s a b) old (nothing_fits (without_template id (without_policy id m)))

pub static_removes : (m : Maps) (id : ℕ) (t : Template) (r : PolicyRow) (p : Parts) → Sound m → template_at m id ≡ Some t → row_at m id ≡ Some r
    → in_force m id ≡ Some p → Removes m (without_template id (without_policy id m)) id (policy p)
static_removes m id t r p s a b c =
    removes m (without_template id (without_policy id m)) id (policy p) s.members_once (static_removed_all m id t r s a b) refl
    (ap (λ (o : Option Template). thing o (in_force m id)) a ∙ ap (thing (Some t)) c)

-- a member under a template stands in its reverse set
pub some_kept : {X : Type 0} (key : X → ℕ) (k : ℕ) (p : X → Bool) (xs : List X) (x : X) → lookup key k xs ≡ Some x → p x ≡ true → no_rows (filter p xs) ≡ false
some_kept key k p [] x e h = no_some x e
some_kept key k p (y ∷ xs) x e h = go (some_kept key k p xs x) (eqb (key y) k) (p y) refl e
  where
    go : (lookup key k xs ≡ Some x → p x ≡ true → no_rows (filter p xs) ≡ false) → (b c : Bool) → p y ≡ c → cond b (Some y) (lookup key k xs) ≡ Some x
        → no_rows (cond c (y ∷ filter p xs) (filter p xs)) ≡ false
    go ih b true q f = refl
    go ih true false q f = no_true (sym q ∙ (ap p (some_same y x f) ∙ h))
    go ih false false q f = ih f h

-- a template without policies is removed
pub template_removed : (m : Maps) (id : ℕ) → Sound m → row_at m id ≡ None → no_rows (reverse_set id m) ≡ true → Update m (without_template id m) id None None None
template_removed m id s a b = record {
  templates = λ k. lookup_erased template_id id m.templates k s.templates_once;
  rows = λ k. lookup-kept policy_id id m.policies k ∙ ap (λ (o : Option PolicyRow). cond (eqb id k) o (row_at m k)) a;
  members = λ k. lookup-kept member_id id m.members k ∙ ap (λ (o : Option Member). cond (eqb id k) o (member_at m k)) (s.members id ∙ ap (changed member) a);
  apart = λ k q n e p.
      no_true (sym (some_kept member_id k (is_under id) m.members (member q) (s.members k ∙ ap (changed member) e) (eq-eqb q.template id p)) ∙ b);
}

pub template_removed_kept : (m : Maps) (id : ℕ) → Sound m → Kept m → row_at m id ≡ None → no_rows (reverse_set id m) ≡ true → Kept (without_template id m)
template_removed_kept m id s old a b = kept m (without_template id m) id None None None (template_removed m id s a b) old (nothing_fits (without_template id m))

pub template_removes : (m : Maps) (id : ℕ) (t : Template) → Sound m → template_at m id ≡ Some t → row_at m id ≡ None → no_rows (reverse_set id m) ≡ true
    → Removes m (without_template id m) id (template t)
template_removes m id t s a b c =
    removes m (without_template id m) id (template t) s.members_once (template_removed m id s b c)
    (sym (erase_absent member_id id m.members (times_none member_id id m.members (s.members id ∙ ap (changed member) b))))
    (ap (λ (o : Option Template). thing o (in_force m id)) a ∙ ap (λ (o : Option PolicyRow). thing (Some t) (changed (whole m) o)) b)

-- a policy is moved last
pub policy_last-kept : (m : Maps) (id : ℕ) → Sound m → Kept m → Kept (policy_last id m)
policy_last-kept m id s old = kept_same m (policy_last id m) (λ k. refl) (λ k. lookup_moved policy_id id m.policies k s.policies_once) (λ k. refl) old

-- what removing a static policy answers and leaves where it accepts
pub remove_static_accepts : (names : ℕ) (m : Maps) (id : ℕ) (p : Parts) → Ok tt ≡ names_known names (id ∷ []) → Some p ≡ in_force m id → is_some (template_at m id) ≡ true
    → (Ok p ≡ remove_static_answer names m id) × (remove_static_after names m id ≡ without_template id (without_policy id m))
remove_static_accepts names m id p a b c = (rw (← a, ← b, c) refl, rw (← a, ← b, c) refl)

-- and where it puts a link back
pub remove_static_puts_back : (names : ℕ) (m : Maps) (id : ℕ) (p : Parts) → Ok tt ≡ names_known names (id ∷ []) → Some p ≡ in_force m id → is_some (template_at m id) ≡ false
    → (Err (RemovePolicyNoTemplateError id) ≡ remove_static_answer names m id) × (remove_static_after names m id ≡ policy_last id m)
remove_static_puts_back names m id p a b c = (rw (← a, ← b, c) refl, rw (← a, ← b, c) refl)

pub policy_last_refused : (m : Maps) (id : ℕ) → Sound m → Refused m (policy_last id m) (RemovePolicyNoTemplateError id)
policy_last_refused m id s = record {
  same = λ n. absurd (n refl);
  names = λ k. ap (λ (o : Option PolicyRow). thing (template_at m k) (changed (whole m) o)) (lookup_moved policy_id id m.policies k s.policies_once);
}
