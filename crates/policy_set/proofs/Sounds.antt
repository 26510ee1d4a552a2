-- The invariant of a set, test by test and in words.
use Rattle.std.proofs.Common.{◌≡◌, ℕ, Bool, true, false, not, ◌&&◌, eqb, Some, None, Option, sym, refl, ap, ◌∙◌, subst}
use Rattle.std.proofs.lemmas.Bool.{eqb-true, eqb-false, eq-eqb, ne_eqb, and_parts, not-true, not_from_false, false≢true}
use Rattle.std.specs.Bool.{then_some}
use Rattle.policy.specs.Binding.{value_slots, static_unbound}
use Rattle.policy.specs.Arity.{Parts}
use Rattle.policy.specs.declared.template.Template.{Template}
use Rattle.policy_set.specs.declared.rows.PolicyRow.{PolicyRow}
use Rattle.policy_set.specs.declared.rows.Member.{Member}
use Rattle.policy_set.specs.Tables.{Once}
use Rattle.policy_set.specs.Rows.{template_id, policy_id, member_id}
use Rattle.policy_set.specs.Maps.{Maps, template_at, row_at, member_at, changed, passes, link_of, whole, in_force}
use Rattle.policy_set.specs.Sound.{has_slots, one_thing, valued, same_member, scoped, NamesOne, Valued, Scoped, SameMembers, member, Sound}
use Rattle.policy_set.proofs.Lookups.{no_some, some_same, lookup_key}

pub no_true : {R : Type 0} → false ≡ true → R
no_true e = absurd (false≢true e)

-- what passes is there
pub passed : {X : Type 0} (test : X → Bool) (o : Option X) → passes test o ≡ true → (x : X) × (o ≡ Some x) × (test x ≡ true)
passed test None e = no_true e
passed test (Some x) e = (x, refl, e)

pub has_slots-not : (t : Template) → has_slots t ≡ true → t.slots.bits ≡ 0 → ⊥
has_slots-not t e z = eqb-false t.slots.bits 0 (not-true _ e) z

pub has_slots_from : (t : Template) → (t.slots.bits ≡ 0 → ⊥) → has_slots t ≡ true
has_slots_from t n = not_from_false _ (ne_eqb t.slots.bits 0 n)

pub slotless : (t : Template) → not (has_slots t) ≡ true → t.slots.bits ≡ 0
slotless t e = eqb-true t.slots.bits 0 (twice (eqb t.slots.bits 0) e)
  where
    twice : (b : Bool) → not (not b) ≡ true → b ≡ true
    twice true h = refl
    twice false h = h

pub slotless_from : (t : Template) → t.slots.bits ≡ 0 → not (has_slots t) ≡ true
slotless_from t z = ap (λ b. not (not b)) (eq-eqb t.slots.bits 0 z)

-- what each id names, from the tests
pub sound_of : (m : Maps) → Once template_id m.templates → Once policy_id m.policies → Once member_id m.members
    → NamesOne m → Valued m → Scoped m → SameMembers m → Sound m
sound_of m ot op om one val sco mem = record {
  templates_once = ot;
  policies_once = op;
  members_once = om;
  alone = λ k t e n. has_slots-not t (at_key k (Some t) None e n);
  static = λ k t r e f.
      let p = and_parts (not r.link) (eqb r.template t.id && not (has_slots t)) (at_key k (Some t) (Some r) e f) in
      let q = and_parts (eqb r.template t.id) (not (has_slots t)) p.1 in
      (eqb-true r.template t.id q.0 ∙ lookup_key template_id k m.templates t e, not-true _ p.0, slotless t q.1);
  link = λ k r e f.
      let p = and_parts r.link (passes has_slots (template_at m r.template)) (at_key k None (Some r) e f) in
      let q = passed has_slots (template_at m r.template) p.1 in
      (p.0, (q.0, q.1, has_slots-not q.0 q.2));
  members = λ k. go k (member_at m k) (row_at m k) refl refl (mem k);
  values = λ k r t e f.
      let p : valued m (Some r) ≡ true = subst (λ (o : Option PolicyRow). valued m o ≡ true) e (val k) in
      let q : passes (λ (s : Template). eqb (value_slots r.values) s.slots.bits) (Some t) ≡ true =
      subst (λ (o : Option Template). passes (λ (s : Template). eqb (value_slots r.values) s.slots.bits) o ≡ true) f p in
      eqb-true (value_slots r.values) t.slots.bits q;
  scopes = λ k t e. subst (λ (o : Option Template). scoped o ≡ true) e (sco k);
}
  where
    at_key : (k : ℕ) (o : Option Template) (p : Option PolicyRow) → template_at m k ≡ o → row_at m k ≡ p → one_thing m o p ≡ true
    at_key k o p e f = subst (λ (q : Option PolicyRow). one_thing m o q ≡ true) f (subst (λ (q : Option Template). one_thing m q (row_at m k) ≡ true) e (one k))

    same : (x : Member) (r : PolicyRow) → x.policy ≡ r.id → x.template ≡ r.template → x ≡ member r
    same x r p q = ap (λ a. pair a x.template) p ∙ ap (λ b. pair r.id b) q
      where
        pair : ℕ → ℕ → Member
        pair a b = record { policy = a; template = b }

    go : (k : ℕ) (o : Option Member) (p : Option PolicyRow) → member_at m k ≡ o → row_at m k ≡ p → same_member o p ≡ true → o ≡ changed member p
    go k None None e f h = refl
    go k None (Some r) e f h = no_true h
    go k (Some x) None e f h = no_true h
    go k (Some x) (Some r) e f h =
        ap Some (same x r (lookup_key member_id k m.members x e ∙ sym (lookup_key policy_id k m.policies r f)) (eqb-true x.template r.template h))

-- the template of a policy is there
pub template_of : (m : Maps) → Sound m → (k : ℕ) (r : PolicyRow) → row_at m k ≡ Some r → (t : Template) × (template_at m r.template ≡ Some t)
template_of m s k r e = go (template_at m k) refl
  where
    go : (o : Option Template) → template_at m k ≡ o → (t : Template) × (template_at m r.template ≡ Some t)
    go None f = let l = s.link k r f e in (l.1.0, l.1.1)
    go (Some t) f = (t, ap (template_at m) (s.static k t r f e).0 ∙ f)

-- a policy without a link id has no slots
pub unlinked_slotless : (m : Maps) → Sound m → (k : ℕ) (r : PolicyRow) (t : Template) → row_at m k ≡ Some r → template_at m r.template ≡ Some t
    → static_unbound (link_of r) t.slots.bits ≡ true
unlinked_slotless m s k r t e f = go (template_at m k) refl
  where
    linked : r.link ≡ true → static_unbound (link_of r) t.slots.bits ≡ true
    linked h = ap (λ b. static_unbound (then_some b r.id) t.slots.bits) h

    go : (o : Option Template) → template_at m k ≡ o → static_unbound (link_of r) t.slots.bits ≡ true
    go None g = linked (s.link k r g e).0
    go (Some u) g =
        let h = s.static k u r g e in
        let v : u ≡ t = some_same u t (sym g ∙ (sym (ap (template_at m) h.0) ∙ f)) in
        ap (λ b. static_unbound (then_some b r.id) t.slots.bits) h.1 ∙ eq-eqb t.slots.bits 0 (ap (λ (w : Template). w.slots.bits) (sym v) ∙ h.2)

-- a policy in force has a row
pub row_of : (m : Maps) (k : ℕ) (p : Parts) → Some p ≡ in_force m k → (r : PolicyRow) × (row_at m k ≡ Some r)
row_of m k p e = go (row_at m k) e
  where
    go : (o : Option PolicyRow) → Some p ≡ changed (whole m) o → (r : PolicyRow) × (o ≡ Some r)
    go None f = no_some p (sym f)
    go (Some r) f = (r, refl)
