-- What each id names after a merge.
use Rattle.std.proofs.Common.{◌≡◌, ℕ, Bool, true, false, ◌||◌, ◌⊎◌, is_some as option_is_some, Some, None, Option, sym, refl, ap, ◌∙◌, subst, inl, inr}
use Rattle.std.proofs.lemmas.Bool.{or_left, or_right}
use Rattle.std.specs.Bool.{then_some}
use Rattle.policy.specs.declared.template.Template.{Template}
use Rattle.policy.specs.Equality.{template_equal}
use Rattle.policy.specs.Arity.{Parts}
use Rattle.policy_set.specs.declared.rows.PolicyRow.{PolicyRow}
use Rattle.policy_set.specs.declared.rows.Member.{Member}
use Rattle.policy_set.specs.Rows.{template_id, policy_id, member_id}
use Rattle.policy_set.specs.Maps.{Maps, template_at, row_at, member_at, changed, present, link_of, whole, bound, thing, named}
use Rattle.policy_set.specs.Maps.Thing.{template, policy}
use Rattle.policy_set.specs.Sound.{Sound, member}
use Rattle.policy_set.specs.Merge.{things_equal, renamed_template, renamed_row, renamed_member, renamed_policy, renamed_thing, merged}
use Rattle.policy_set.specs.MergeLaw.{NamesAfter, RowsAfter}
use Rattle.policy_set.proofs.Lookups.{no_some, some_same, lookup_key, or_else, is_some}
use Rattle.policy_set.proofs.PutAll.{found, lookup_all}
use Rattle.policy_set.proofs.Sounds.{no_true, template_of}
use Rattle.policy_set.proofs.Equals.{SameTemplate, SamePolicy, same_template, is_template_equal, same_policy, is_parts_equal, same_renamed, linked_both}
use Rattle.policy_set.proofs.FinalIds.{Moves, unbound}

pub changed_some : {X Y : Type 0} (g : X → Y) (o : Option X) (y : Y) → changed g o ≡ Some y → (x : X) × (o ≡ Some x) × (g x ≡ y)
changed_some g None y e = no_some y e
changed_some g (Some x) y e = (x, refl, some_same (g x) y e)

pub changed_none : {X Y : Type 0} (g : X → Y) (o : Option X) → changed g o ≡ None → o ≡ None
changed_none g None e = refl
changed_none g (Some x) e = no_some (g x) (sym e)

pub template_bound : (m : Maps) (k : ℕ) (t : Template) → template_at m k ≡ Some t → bound m k ≡ true
template_bound m k t e = or_left _ _ (ap option_is_some e)

pub row_bound : (m : Maps) (k : ℕ) (r : PolicyRow) → row_at m k ≡ Some r → bound m k ≡ true
row_bound m k r e = or_right _ _ (ap option_is_some e)

pub member-bound : (m : Maps) → Sound m → (k : ℕ) → option_is_some (member_at m k) ≡ true → bound m k ≡ true
member-bound m so k e =
    let x = is_some (member_at m k) e in
    let r = changed_some member (row_at m k) x.0 (sym (so.members k) ∙ x.1) in
    row_bound m k r.0 r.1

pub named_policy : (m : Maps) (k : ℕ) (r : PolicyRow) → row_at m k ≡ Some r → named m k ≡ policy (whole m r)
named_policy m k r e = rw e (go (template_at m k))
  where
    go : (o : Option Template) → thing o (Some (whole m r)) ≡ policy (whole m r)
    go None = refl
    go (Some t) = refl

named_template : (m : Maps) → Sound m → (k : ℕ) (t : Template) → template_at m k ≡ Some t → (t.slots.bits ≡ 0 → ⊥) → named m k ≡ template t
named_template m so k t p n = go (row_at m k) refl
  where
    go : (o : Option PolicyRow) → row_at m k ≡ o → thing (template_at m k) (changed (whole m) o) ≡ template t
    go None d = rw p
    go (Some x) d = absurd (n (so.static k t x p d).2)

-- link ids under other ids
link_renamed : (f : ℕ → ℕ) (r : PolicyRow) → link_of (renamed_row f r) ≡ changed f (link_of r)
link_renamed f r = go r.link
  where
    go : (b : Bool) → then_some b (f r.id) ≡ changed f (then_some b r.id)
    go true = refl
    go false = refl

link_stays : (f : ℕ → ℕ) (r : PolicyRow) → f r.id ≡ r.id → changed f (link_of r) ≡ link_of r
link_stays f r e = go r.link
  where
    go : (b : Bool) → changed f (then_some b r.id) ≡ then_some b r.id
    go true = ap Some e
    go false = refl

-- two things that are equal are of one kind
pub data Alike (same : ℕ → ℕ → Bool) (live incoming : Maps) (i : ℕ) : Type 0 where
  two_templates : (s t : Template) → template_at live i ≡ Some s → row_at live i ≡ None → template_at incoming i ≡ Some t → row_at incoming i ≡ None
      → SameTemplate same s t → Alike same live incoming i
  two_links : (r q : PolicyRow) → template_at live i ≡ None → row_at live i ≡ Some r → template_at incoming i ≡ None → row_at incoming i ≡ Some q
      → SamePolicy same (whole live r) (whole incoming q) → Alike same live incoming i
  two_statics : (s t : Template) (r q : PolicyRow) → template_at live i ≡ Some s → row_at live i ≡ Some r → template_at incoming i ≡ Some t → row_at incoming i ≡ Some q
      → SameTemplate same s t → SamePolicy same (whole live r) (whole incoming q) → Alike same live incoming i

pub alike : (same : ℕ → ℕ → Bool) (live incoming : Maps) → Sound live → Sound incoming → (i : ℕ) → things_equal same (named live i) (named incoming i) ≡ true → Alike same live incoming i
alike same live incoming sl si i h = go (template_at live i) (row_at live i) (template_at incoming i) (row_at incoming i) refl refl refl refl h
  where
    go : (ot : Option Template) (op : Option PolicyRow) (it : Option Template) (ip : Option PolicyRow)
        → template_at live i ≡ ot → row_at live i ≡ op → template_at incoming i ≡ it → row_at incoming i ≡ ip
        → things_equal same (thing ot (changed (whole live) op)) (thing it (changed (whole incoming) ip)) ≡ true → Alike same live incoming i
    go None None None None p q u v e = no_true e
    go None None None (Some y) p q u v e = no_true e
    go None None (Some t) None p q u v e = no_true e
    go None None (Some t) (Some y) p q u v e = no_true e
    go (Some s) None None None p q u v e = no_true e
    go (Some s) None None (Some y) p q u v e = no_true e
    go (Some s) None (Some t) None p q u v e = two_templates s t p q u v (same_template same s t e)
    go (Some s) None (Some t) (Some y) p q u v e = no_true e
    go None (Some x) None None p q u v e = no_true e
    go None (Some x) None (Some y) p q u v e = two_links x y p q u v (same_policy same (whole live x) (whole incoming y) e)
    go None (Some x) (Some t) None p q u v e = no_true e
    go None (Some x) (Some t) (Some y) p q u v e =
        linked_both x y (same_policy same (whole live x) (whole incoming y) e).link (sl.link i x p q).0 (si.static i t y u v).1
    go (Some s) (Some x) None None p q u v e = no_true e
    go (Some s) (Some x) None (Some y) p q u v e =
        linked_both y x (sym (same_policy same (whole live x) (whole incoming y) e).link) (si.link i y u v).0 (sl.static i s x p q).1
    go (Some s) (Some x) (Some t) None p q u v e = no_true e
    go (Some s) (Some x) (Some t) (Some y) p q u v e =
        let c = same_policy same (whole live x) (whole incoming y) e in
        let l : template_at live x.template ≡ Some s = ap (template_at live) (sl.static i s x p q).0 ∙ p in
        let m : template_at incoming y.template ≡ Some t = ap (template_at incoming) (si.static i t y u v).0 ∙ u in
        let d : SameTemplate same (present (template_at live x.template)) (present (template_at incoming y.template)) = c.template in
        let g : SameTemplate same s t = rw (l, m) at d in
        two_statics s t x y p q u v g c

covered : {X : Type 0} (change : X → X) (o p : Option X) → (o ≡ None → p ≡ None) → or_else (changed change o) p ≡ changed change o
covered change None p h = h refl
covered change (Some x) p h = refl

-- k has the thing of the incoming id i
pub record From (live incoming : Maps) (f : ℕ → ℕ) (k i : ℕ) : Type 0 where
  pub is_bound : bound incoming i ≡ true
  pub goes : f i ≡ k
  pub templates : template_at (merged f live incoming) k ≡ changed (renamed_template f) (template_at incoming i)
  pub rows : row_at (merged f live incoming) k ≡ changed (renamed_row f) (row_at incoming i)
  pub members : member_at (merged f live incoming) k ≡ changed (renamed_member f) (member_at incoming i)

-- k has what it had
pub record Kept (live incoming : Maps) (f : ℕ → ℕ) (back : ℕ → Option ℕ) (k : ℕ) : Type 0 where
  pub none : (i : ℕ) → back k ≡ Some i → bound incoming i ≡ false
  pub templates : template_at (merged f live incoming) k ≡ template_at live k
  pub rows : row_at (merged f live incoming) k ≡ row_at live k
  pub members : member_at (merged f live incoming) k ≡ member_at live k

module _ (same : ℕ → ℕ → Bool) (live incoming : Maps) (f : ℕ → ℕ) (back : ℕ → Option ℕ) (sl : Sound live) (si : Sound incoming) (mv : Moves same live incoming f back) where
  t_found : (k : ℕ) → template_at (merged f live incoming) k ≡ found template_id (renamed_template f) k live.templates incoming.templates (back k)
  t_found k = lookup_all template_id (renamed_template f) f back k live.templates incoming.templates (λ x. refl) mv.there (λ i e. mv.return i (or_left _ _ e)) sl.templates_once si.templates_once

  r_found : (k : ℕ) → row_at (merged f live incoming) k ≡ found policy_id (renamed_row f) k live.policies incoming.policies (back k)
  r_found k = lookup_all policy_id (renamed_row f) f back k live.policies incoming.policies (λ x. refl) mv.there (λ i e. mv.return i (or_right _ _ e)) sl.policies_once si.policies_once

  m_found : (k : ℕ) → member_at (merged f live incoming) k ≡ found member_id (renamed_member f) k live.members incoming.members (back k)
  m_found k = lookup_all member_id (renamed_member f) f back k live.members incoming.members (λ x. refl) mv.there (λ i e. mv.return i (member-bound incoming si i e)) sl.members_once si.members_once

  -- where the incoming set has no row, neither has the live one under the final id
  record Lacks (i : ℕ) : Type 0 where
    templates : template_at incoming i ≡ None → template_at live (f i) ≡ None
    rows : row_at incoming i ≡ None → row_at live (f i) ≡ None

  lacks : (i : ℕ) → bound incoming i ≡ true → Lacks i
  lacks i h = elim (mv.apart i h) [
    | inl u ↦ let n = unbound live (f i) u.0 in record { templates = λ e. n.0; rows = λ e. n.1 }
    | inr u ↦ both u.0 (alike same live incoming sl si i u.1)
  ]
    where
      both : f i ≡ i → Alike same live incoming i → Lacks i
      both e (two_templates s t p q u v c) = record { templates = λ n. no_some t (sym n ∙ u); rows = λ n. ap (row_at live) e ∙ q }
      both e (two_links r q p q' u v c) = record { templates = λ n. ap (template_at live) e ∙ p; rows = λ n. no_some q (sym n ∙ v) }
      both e (two_statics s t r q p q' u v c d) = record { templates = λ n. no_some t (sym n ∙ u); rows = λ n. no_some q (sym n ∙ v) }

  pub from : (i : ℕ) → bound incoming i ≡ true → From live incoming f (f i) i
  from i h =
      let e = mv.return i h in
      let n = lacks i h in
      record {
        is_bound = h;
        goes = refl;
        templates = t_found (f i) ∙ (ap (found template_id (renamed_template f) (f i) live.templates incoming.templates) e
            ∙ covered (renamed_template f) (template_at incoming i) (template_at live (f i)) n.templates);
        rows = r_found (f i) ∙ (ap (found policy_id (renamed_row f) (f i) live.policies incoming.policies) e
            ∙ covered (renamed_row f) (row_at incoming i) (row_at live (f i)) n.rows);
        members = m_found (f i) ∙ (ap (found member_id (renamed_member f) (f i) live.members incoming.members) e
            ∙ covered (renamed_member f) (member_at incoming i) (member_at live (f i))
            (λ z. sl.members (f i) ∙ ap (changed member) (n.rows (changed_none member (row_at incoming i) (sym (si.members i) ∙ z)))));
      }

  pub names : (k : ℕ) → Kept live incoming f back k ⊎ ((i : ℕ) × From live incoming f k i)
  names k = go (back k) refl
    where
      other : (i : ℕ) (c : Bool) → back k ≡ Some i → bound incoming i ≡ c → Kept live incoming f back k ⊎ ((j : ℕ) × From live incoming f k j)
      other i true e h = inr (i, subst (λ j. From live incoming f j i) (mv.there k i e) (from i h))
      other i false e h =
          let n = unbound incoming i h in
          let t : template_at (merged f live incoming) k ≡ or_else (changed (renamed_template f) (template_at incoming i)) (template_at live k) =
          t_found k ∙ ap (found template_id (renamed_template f) k live.templates incoming.templates) e in
          let r : row_at (merged f live incoming) k ≡ or_else (changed (renamed_row f) (row_at incoming i)) (row_at live k) =
          r_found k ∙ ap (found policy_id (renamed_row f) k live.policies incoming.policies) e in
          let m : member_at (merged f live incoming) k ≡ or_else (changed (renamed_member f) (member_at incoming i)) (member_at live k) =
          m_found k ∙ ap (found member_id (renamed_member f) k live.members incoming.members) e in
          let w : member_at incoming i ≡ None = si.members i ∙ ap (changed member) n.1 in
          inl record {
            none = λ j d. ap (bound incoming) (some_same j i (sym d ∙ e)) ∙ h;
            templates = t ∙ ap (λ (o : Option Template). or_else (changed (renamed_template f) o) (template_at live k)) n.0;
            rows = r ∙ ap (λ (o : Option PolicyRow). or_else (changed (renamed_row f) o) (row_at live k)) n.1;
            members = m ∙ ap (λ (o : Option Member). or_else (changed (renamed_member f) o) (member_at live k)) w;
          }

      go : (o : Option ℕ) → back k ≡ o → Kept live incoming f back k ⊎ ((i : ℕ) × From live incoming f k i)
      go None e = inl record {
        none = λ i d. no_some i (sym e ∙ d);
        templates = t_found k ∙ ap (found template_id (renamed_template f) k live.templates incoming.templates) e;
        rows = r_found k ∙ ap (found policy_id (renamed_row f) k live.policies incoming.policies) e;
        members = m_found k ∙ ap (found member_id (renamed_member f) k live.members incoming.members) e;
      }
      go (Some i) e = other i (bound incoming i) e refl

  pub rows_after : RowsAfter live incoming (merged f live incoming) f
  rows_after = record {
    templates = λ k t e. elim (names k) [
      | inl h ↦ inl (sym h.templates ∙ e)
      | inr h ↦ let x = changed_some (renamed_template f) (template_at incoming h.0) t (sym h.1.templates ∙ e) in inr (h.0, x.0, x.1, sym x.2)
    ];
    policies = λ k r e. elim (names k) [
      | inl h ↦ inl (sym h.rows ∙ e)
      | inr h ↦ let x = changed_some (renamed_row f) (row_at incoming h.0) r (sym h.1.rows ∙ e) in inr (h.0, x.0, x.1, sym x.2)
    ];
  }

  -- the template of an incoming id stands under its final id
  pub incoming_template : (j : ℕ) (t : Template) → template_at incoming j ≡ Some t → template_at (merged f live incoming) (f j) ≡ Some (renamed_template f t)
  incoming_template j t e = (from j (template_bound incoming j t e)).templates ∙ ap (changed (renamed_template f)) e

  -- and so the policy
  pub incoming_whole : (i : ℕ) (r : PolicyRow) → row_at incoming i ≡ Some r → whole (merged f live incoming) (renamed_row f r) ≡ renamed_policy f (whole incoming r)
  incoming_whole i r e =
      let h = template_of incoming si i r e in
      let t : present (template_at (merged f live incoming) (f r.template)) ≡ renamed_template f (present (template_at incoming r.template)) =
      ap present (incoming_template r.template h.0 h.1) ∙ sym (ap (λ (o : Option Template). renamed_template f (present o)) h.1) in
      let l = link_renamed f r in
      λ j. record { template = t j; link = l j; values = r.values }

  -- a live template stays, or an equal one takes its place
  pub live_template : (j : ℕ) (t : Template) → template_at live j ≡ Some t → (u : Template) × (template_at (merged f live incoming) j ≡ Some u) × ((u ≡ t) ⊎ SameTemplate same t u)
  live_template j t e = elim (names j) [
    | inl k ↦ (t, k.templates ∙ e, inl refl)
    | inr g ↦ replaced g.0 g.1
  ]
    where
      replaced : (i : ℕ) → From live incoming f j i → (u : Template) × (template_at (merged f live incoming) j ≡ Some u) × ((u ≡ t) ⊎ SameTemplate same t u)
      replaced i g = elim (mv.apart i g.is_bound) [
        | inl u ↦ no_true (sym u.0 ∙ (ap (bound live) g.goes ∙ template_bound live j t e))
        | inr u ↦ both u.0 (alike same live incoming sl si i u.1)
      ]
        where
          put : (s n : Template) → f i ≡ i → template_at live i ≡ Some s → template_at incoming i ≡ Some n → SameTemplate same s n
              → (u : Template) × (template_at (merged f live incoming) j ≡ Some u) × ((u ≡ t) ⊎ SameTemplate same t u)
          put s n fi p u c =
              let w : i ≡ j = sym fi ∙ g.goes in
              let z : t ≡ s = some_same t s (sym e ∙ (ap (template_at live) (sym w) ∙ p)) in
              let d : SameTemplate same t n = rw z c in
              let k = lookup_key template_id i incoming.templates n u in
              (renamed_template f n, g.templates ∙ ap (changed (renamed_template f)) u, inr (same_renamed same f t n (ap f k ∙ (fi ∙ sym k)) d))

          both : f i ≡ i → Alike same live incoming i → (u : Template) × (template_at (merged f live incoming) j ≡ Some u) × ((u ≡ t) ⊎ SameTemplate same t u)
          both fi (two_templates s n p q u v c) = put s n fi p u c
          both fi (two_links r q p q' u v c) = no_some t (sym p ∙ (ap (template_at live) (sym fi ∙ g.goes) ∙ e))
          both fi (two_statics s n r q p q' u v c d) = put s n fi p u c

  -- and so a live policy whose row stays
  pub live_whole : (k : ℕ) (r : PolicyRow) → row_at live k ≡ Some r
      → (whole (merged f live incoming) r ≡ whole live r) ⊎ SamePolicy same (whole live r) (whole (merged f live incoming) r)
  live_whole k r e =
      let h = template_of live sl k r e in
      let g = live_template r.template h.0 h.1 in
      elim g.2 [
        | inl z ↦
            let t : present (template_at (merged f live incoming) r.template) ≡ present (template_at live r.template) = rw (h.1, g.1) z in
            inl (λ j. record { template = t j; link = link_of r; values = r.values })
        | inr c ↦
            let d : SameTemplate same (present (template_at live r.template)) (present (template_at (merged f live incoming) r.template)) = rw (h.1, g.1) c in
            inr record { template = d; link = refl; values = refl }
      ]

  -- an equal policy has an unrenamed template
  pub unrenamed : (i : ℕ) → f i ≡ i → (q : PolicyRow) → row_at incoming i ≡ Some q → Alike same live incoming i → f q.template ≡ q.template
  unrenamed i fi q e (two_templates s t p q' u v c) = no_some q (sym v ∙ e)
  unrenamed i fi q e (two_statics s t r y p q' u v c d) =
      let w = (si.static i t q u e).0 in
      ap f w ∙ (fi ∙ sym w)
  unrenamed i fi q e (two_links r y p q' u v c) =
      let z : y ≡ q = some_same y q (sym v ∙ e) in
      let hl = (sl.link i r p q').1 in
      let hi = (si.link i y u v).1 in
      let d : SameTemplate same (present (template_at live r.template)) (present (template_at incoming y.template)) = c.template in
      let g : SameTemplate same hl.0 hi.0 = rw (hl.1, hi.1) at d in
      let j : r.template ≡ y.template =
      sym (lookup_key template_id r.template live.templates hl.0 hl.1) ∙ (g.id ∙ lookup_key template_id y.template incoming.templates hi.0 hi.1) in
      let l : template_at live y.template ≡ Some hl.0 = ap (template_at live) (sym j) ∙ hl.1 in
      ap (λ (x : PolicyRow). f x.template) (sym z) ∙ (fixed y.template hl.0 hi.0 l hi.1 hl.2 hi.2 g ∙ ap (λ (x : PolicyRow). x.template) z)
    where
      fixed : (k : ℕ) (s t : Template) → template_at live k ≡ Some s → template_at incoming k ≡ Some t → (s.slots.bits ≡ 0 → ⊥) → (t.slots.bits ≡ 0 → ⊥) → SameTemplate same s t → f k ≡ k
      fixed k s t p' u' m n g = elim (mv.apart k (template_bound incoming k t u')) [
        | inl x ↦
            let a : things_equal same (named live k) (named incoming k) ≡ template_equal same s t =
            rw (named_template live sl k s p' m, named_template incoming si k t u' n) refl in
            no_true (sym x.1 ∙ (a ∙ is_template_equal same s t g))
        | inr x ↦ x.0
      ]

  -- an equal policy, under its final ids, is still equal
  pub equal_renamed : (i : ℕ) → f i ≡ i → (r q : PolicyRow) → row_at incoming i ≡ Some q → SamePolicy same (whole live r) (whole incoming q) → Alike same live incoming i
      → SamePolicy same (whole live r) (renamed_policy f (whole incoming q))
  equal_renamed i fi r q e c al =
      let h = template_of incoming si i q e in
      let u = lookup_key policy_id i incoming.policies q e in
      let w = lookup_key template_id q.template incoming.templates h.0 h.1 in
      let t : f h.0.id ≡ h.0.id = ap f w ∙ (unrenamed i fi q e al ∙ sym w) in
      let n : f (present (template_at incoming q.template)).id ≡ (present (template_at incoming q.template)).id = rw h.1 t in
      record {
        template = same_renamed same f (whole live r).template (whole incoming q).template n c.template;
        link = c.link ∙ sym (link_stays f q (ap f u ∙ (fi ∙ sym u)));
        values = c.values;
      }

thing_renamed : (f : ℕ → ℕ) (live incoming : Maps) (o : Option Template) (p : Option PolicyRow)
    → ((r : PolicyRow) → p ≡ Some r → whole (merged f live incoming) (renamed_row f r) ≡ renamed_policy f (whole incoming r))
    → thing (changed (renamed_template f) o) (changed (whole (merged f live incoming)) (changed (renamed_row f) p)) ≡ renamed_thing f (thing o (changed (whole incoming) p))
thing_renamed f live incoming None None h = refl
thing_renamed f live incoming (Some t) None h = refl
thing_renamed f live incoming None (Some r) h = ap policy (h r refl)
thing_renamed f live incoming (Some t) (Some r) h = ap policy (h r refl)

module _ (same : ℕ → ℕ → Bool) (live incoming : Maps) (f : ℕ → ℕ) (back : ℕ → Option ℕ) (sl : Sound live) (si : Sound incoming) (mv : Moves same live incoming f back) where
  comes : (i : ℕ) → bound incoming i ≡ true → named (merged f live incoming) (f i) ≡ renamed_thing f (named incoming i)
  comes i h =
      let g = from same live incoming f back sl si mv i h in
      rw (g.templates, g.rows) (thing_renamed f live incoming (template_at incoming i) (row_at incoming i) (λ r e. incoming_whole same live incoming f back sl si mv i r e))

  -- what a live id names is the same or equal
  Stays : ℕ → Type 0
  Stays k = (named (merged f live incoming) k ≡ named live k) ⊎ (things_equal same (named live k) (named (merged f live incoming) k) ≡ true)

  stays_template : (k : ℕ) (t u : Template) → template_at live k ≡ Some t → row_at live k ≡ None → template_at (merged f live incoming) k ≡ Some u → row_at (merged f live incoming) k ≡ None
      → ((u ≡ t) ⊎ SameTemplate same t u) → Stays k
  unfolding Stays
  stays_template k t u p q v w (inl e) = inl (rw (p, q, v, w) (ap template e))
  stays_template k t u p q v w (inr c) = inr (rw (p, q, v, w) (is_template_equal same t u c))

  stays_policy : (k : ℕ) (r q : PolicyRow) → row_at live k ≡ Some r → row_at (merged f live incoming) k ≡ Some q
      → ((whole (merged f live incoming) q ≡ whole live r) ⊎ SamePolicy same (whole live r) (whole (merged f live incoming) q)) → Stays k
  unfolding Stays
  stays_policy k r q d e (inl z) = inl (named_policy (merged f live incoming) k q e ∙ (ap policy z ∙ sym (named_policy live k r d)))
  stays_policy k r q d e (inr c) = inr (rw (named_policy live k r d, named_policy (merged f live incoming) k q e) (is_parts_equal same (whole live r) (whole (merged f live incoming) q) c))

  stays : (k : ℕ) → bound live k ≡ true → Stays k
  stays k h = elim (names same live incoming f back sl si mv k) [
    | inl g ↦ kept g (template_at live k) (row_at live k) refl refl h
    | inr g ↦ replaced g.0 g.1
  ]
    where
      kept : Kept live incoming f back k → (o : Option Template) (p : Option PolicyRow) → template_at live k ≡ o → row_at live k ≡ p → (option_is_some o || option_is_some p) ≡ true → Stays k
      kept g None None p q e = no_true e
      kept g (Some t) None p q e = stays_template k t t p q (g.templates ∙ p) (g.rows ∙ q) (inl refl)
      kept g None (Some r) p q e = stays_policy k r r q (g.rows ∙ q) (live_whole same live incoming f back sl si mv k r q)
      kept g (Some t) (Some r) p q e = stays_policy k r r q (g.rows ∙ q) (live_whole same live incoming f back sl si mv k r q)

      replaced : (i : ℕ) → From live incoming f k i → Stays k
      replaced i g = elim (mv.apart i g.is_bound) [
        | inl u ↦ no_true (sym u.0 ∙ (ap (bound live) g.goes ∙ h))
        | inr u ↦ both u.0 (alike same live incoming sl si i u.1)
      ]
        where
          put : f i ≡ i → (x y : PolicyRow) → row_at live i ≡ Some x → row_at incoming i ≡ Some y → SamePolicy same (whole live x) (whole incoming y) → Alike same live incoming i → Stays k
          put fi x y d v c al =
              let w : i ≡ k = sym fi ∙ g.goes in
              let s = equal_renamed same live incoming f back sl si mv i fi x y v c al in
              let z = incoming_whole same live incoming f back sl si mv i y v in
              stays_policy k x (renamed_row f y) (ap (row_at live) (sym w) ∙ d) (g.rows ∙ ap (changed (renamed_row f)) v)
              (inr (subst (λ (a : Parts). SamePolicy same (whole live x) a) (sym z) s))

          both : f i ≡ i → Alike same live incoming i → Stays k
          both fi (two_templates s t p q u v c) =
              let w : i ≡ k = sym fi ∙ g.goes in
              let p' : template_at live k ≡ Some s = ap (template_at live) (sym w) ∙ p in
              let l = live_template same live incoming f back sl si mv k s p' in
              stays_template k s l.0 p' (ap (row_at live) (sym w) ∙ q) l.1 (g.rows ∙ ap (changed (renamed_row f)) v) l.2
          both fi (two_links x y p q u v c) = put fi x y q v c (two_links x y p q u v c)
          both fi (two_statics s t x y p q u v c d) = put fi x y q v d (two_statics s t x y p q u v c d)

  others : (k : ℕ) → bound (merged f live incoming) k ≡ true → (bound live k ≡ true) ⊎ ((i : ℕ) × (bound incoming i ≡ true) × (f i ≡ k))
  others k h = elim (names same live incoming f back sl si mv k) [
    | inl g ↦ inl (let a : bound live k ≡ true = rw (g.templates, g.rows) at h in a)
    | inr g ↦ inr (g.0, g.1.is_bound, g.1.goes)
  ]

  pub names_after : NamesAfter same live incoming (merged f live incoming) f
  unfolding Stays
  names_after = record { comes = comes; stays = stays; others = others }
