-- What additions change, and that they keep what a set keeps.
use Rattle.std.proofs.Common.{◌≡◌, ℕ, true, false, cond, not, ◌&&◌, eqb, [], ◌∷◌, ◌++◌, length, is_some, Some, None, Option, sym, refl, ap, ◌∙◌}
use Rattle.std.proofs.lemmas.List.{append-nil}
use Rattle.std.proofs.lemmas.Bool.{eq-eqb, and_from}
use Rattle.std.specs.Bool.{then_some}
use Rattle.policy.specs.Binding.{value_slots}
use Rattle.policy.specs.Arity.{Parts}
use Rattle.policy.specs.declared.template.Template.{Template}
use Rattle.policy_set.specs.declared.rows.PolicyRow.{PolicyRow}
use Rattle.policy_set.specs.declared.rows.Member.{Member}
use Rattle.policy_set.specs.Tables.{lookup}
use Rattle.policy_set.specs.Rows.{template_id, policy_id, member_id}
use Rattle.policy_set.specs.Maps.{Maps, template_at, row_at, member_at, changed, passes, present, link_of}
use Rattle.policy_set.specs.Maps.Thing.{template, policy}
use Rattle.policy_set.specs.Laws.{Adds}
use Rattle.policy_set.proofs.Changes.{adds}
use Rattle.policy_set.specs.Sound.{has_slots, scopes_within, member, Sound}
use Rattle.policy_set.specs.Answers.{with_template, with_policy}
use Rattle.policy_set.proofs.Lookups.{no_some, lookup_pushed, lookup-kept}
use Rattle.policy_set.proofs.Sounds.{template_of, slotless_from}
use Rattle.policy_set.proofs.Places.{length_by_keys}
use Rattle.policy_set.proofs.Updates.{Update, Kept, kept}

-- there are as many members as policies
pub as_many : (m : Maps) → Sound m → length m.members ≡ length m.policies
as_many m s = length_by_keys member_id policy_id m.members m.policies s.members_once s.policies_once same
  where
    there : (o : Option PolicyRow) → is_some (changed member o) ≡ is_some o
    there None = refl
    there (Some r) = refl

    same : (k : ℕ) → is_some (member_at m k) ≡ is_some (row_at m k)
    same k = ap is_some (s.members k) ∙ there (row_at m k)

-- the id of a policy that is not there is no member's
pub no_member : (m : Maps) → Sound m → (k : ℕ) → row_at m k ≡ None → member_at m k ≡ None
no_member m s k e = s.members k ∙ ap (changed member) e

-- a template is added
pub template_added : (m : Maps) (t : Template) → Sound m → template_at m t.id ≡ None → row_at m t.id ≡ None
    → Update m (with_template t m) t.id (Some t) None None
template_added m t s a b = record {
  templates = λ k. lookup_pushed template_id m.templates t k a;
  rows = λ k. lookup-kept policy_id t.id m.policies k ∙ ap (λ (o : Option PolicyRow). cond (eqb t.id k) o (row_at m k)) b;
  members = λ k. lookup-kept member_id t.id m.members k ∙ ap (λ (o : Option Member). cond (eqb t.id k) o (member_at m k)) (no_member m s t.id b);
  apart = λ k q n e p. let u = template_of m s k q e in no_some u.0 (sym a ∙ (ap (template_at m) (sym p) ∙ u.1));
}

pub template_added_kept : (m : Maps) (t : Template) → Sound m → Kept m → template_at m t.id ≡ None → row_at m t.id ≡ None
    → has_slots t ≡ true → scopes_within t ≡ true → Kept (with_template t m)
template_added_kept m t s old a b h w =
    kept m (with_template t m) t.id (Some t) None None (template_added m t s a b) old record { one = h; values = refl; scopes = w; member = refl }

pub template_adds : (m : Maps) (t : Template) → Sound m → template_at m t.id ≡ None → row_at m t.id ≡ None → Adds m (with_template t m) t.id (template t) []
template_adds m t s a b = adds m (with_template t m) t.id (template t) (Some t) None None [] a b (template_added m t s a b) (sym (append-nil m.members)) refl

-- the row of a policy that comes with its template
pub record Own (t : Template) (r : PolicyRow) : Type 0 where
  pub id : r.id ≡ t.id
  pub template : r.template ≡ t.id
  pub static : r.link ≡ false
  pub slotless : t.slots.bits ≡ 0
  pub values : value_slots r.values ≡ 0

-- a static policy is added
pub static_added : (m : Maps) (t : Template) (r : PolicyRow) → Own t r → Sound m → template_at m t.id ≡ None → row_at m t.id ≡ None
    → Update m (with_policy r (with_template t m)) t.id (Some t) (Some r) (Some (member r))
static_added m t r o s a b =
    let b' : row_at m r.id ≡ None = ap (row_at m) o.id ∙ b in
    record {
      templates = λ k. lookup_pushed template_id m.templates t k a;
      rows = λ k. lookup_pushed policy_id m.policies r k b' ∙ ap (λ i. cond (eqb i k) (Some r) (row_at m k)) o.id;
      members = λ k. lookup_pushed member_id m.members (member r) k (no_member m s r.id b') ∙ ap (λ i. cond (eqb i k) (Some (member r)) (member_at m k)) o.id;
      apart = λ k q n e p. let u = template_of m s k q e in no_some u.0 (sym a ∙ (ap (template_at m) (sym p) ∙ u.1));
    }

own_template : (m : Maps) (t : Template) (r : PolicyRow) → Own t r → template_at m t.id ≡ None → template_at (with_policy r (with_template t m)) r.template ≡ Some t
own_template m t r o a =
    ap (λ k. lookup template_id k (m.templates ++ t ∷ [])) o.template
    ∙ (lookup_pushed template_id m.templates t t.id a ∙ ap (λ b. cond b (Some t) (template_at m t.id)) (eq-eqb t.id t.id refl))

pub static_added_kept : (m : Maps) (t : Template) (r : PolicyRow) → Own t r → Sound m → Kept m → template_at m t.id ≡ None → row_at m t.id ≡ None
    → scopes_within t ≡ true → Kept (with_policy r (with_template t m))
static_added_kept m t r o s old a b w =
    kept m (with_policy r (with_template t m)) t.id (Some t) (Some r) (Some (member r)) (static_added m t r o s a b) old record {
      one = and_from (not r.link) (eqb r.template t.id && not (has_slots t)) (ap not o.static)
          (and_from (eqb r.template t.id) (not (has_slots t)) (eq-eqb r.template t.id o.template) (slotless_from t o.slotless));
      values = ap (passes (λ (u : Template). eqb (value_slots r.values) u.slots.bits)) (own_template m t r o a)
          ∙ eq-eqb (value_slots r.values) t.slots.bits (o.values ∙ sym o.slotless);
      scopes = w;
      member = eq-eqb r.template r.template refl;
    }

pub static_adds : (m : Maps) (t : Template) (r : PolicyRow) → Own t r → Sound m → template_at m t.id ≡ None → row_at m t.id ≡ None
    → Adds m (with_policy r (with_template t m)) t.id (policy record { template = t; link = None; values = r.values }) (member r ∷ [])
static_adds m t r o s a b =
    adds m (with_policy r (with_template t m)) t.id (policy record { template = t; link = None; values = r.values }) (Some t) (Some r) (Some (member r)) (member r ∷ []) a b
    (static_added m t r o s a b) refl
    (ap (λ (u : Option Template). policy (parts (present u) (link_of r))) (own_template m t r o a) ∙ ap (λ b. policy (parts t (then_some b r.id))) o.static)
  where
    parts : Template → Option ℕ → Parts
    parts u l = record { template = u; link = l; values = r.values }

-- a link is added
pub link_added : (m : Maps) (r : PolicyRow) → Sound m → template_at m r.id ≡ None → row_at m r.id ≡ None
    → Update m (with_policy r m) r.id None (Some r) (Some (member r))
link_added m r s a b = record {
  templates = λ k. lookup-kept template_id r.id m.templates k ∙ ap (λ (o : Option Template). cond (eqb r.id k) o (template_at m k)) a;
  rows = λ k. lookup_pushed policy_id m.policies r k b;
  members = λ k. lookup_pushed member_id m.members (member r) k (no_member m s r.id b);
  apart = λ k q n e p. sym a;
}

pub link_added_kept : (m : Maps) (r : PolicyRow) (t : Template) → Sound m → Kept m → template_at m r.id ≡ None → row_at m r.id ≡ None
    → r.link ≡ true → template_at m r.template ≡ Some t → has_slots t ≡ true → value_slots r.values ≡ t.slots.bits → Kept (with_policy r m)
link_added_kept m r t s old a b l e h v =
    kept m (with_policy r m) r.id None (Some r) (Some (member r)) (link_added m r s a b) old record {
      one = and_from r.link (passes has_slots (template_at m r.template)) l (ap (passes has_slots) e ∙ h);
      values = ap (passes (λ (u : Template). eqb (value_slots r.values) u.slots.bits)) e ∙ eq-eqb (value_slots r.values) t.slots.bits v;
      scopes = refl;
      member = eq-eqb r.template r.template refl;
    }

-- the policy of a link
pub link_adds : (m : Maps) (r : PolicyRow) (t : Template) → Sound m → template_at m r.id ≡ None → row_at m r.id ≡ None
    → r.link ≡ true → template_at m r.template ≡ Some t
    → Adds m (with_policy r m) r.id (policy record { template = t; link = Some r.id; values = r.values }) (member r ∷ [])
link_adds m r t s a b l e =
    adds m (with_policy r m) r.id (policy record { template = t; link = Some r.id; values = r.values }) None (Some r) (Some (member r)) (member r ∷ []) a b (link_added m r s a b) refl
    (ap (λ (o : Option Template). policy (parts (present o) (link_of r))) e ∙ ap (λ b. policy (parts t (then_some b r.id))) l)
  where
    parts : Template → Option ℕ → Parts
    parts u o = record { template = u; link = o; values = r.values }
