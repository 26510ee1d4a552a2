-- A merge keeps what every policy set keeps.
use Rattle.std.proofs.Common.{◌≡◌, ℕ, Bool, true, false, Some, None, Option, sym, refl, ap, ◌∙◌, inl, inr}
use Rattle.policy.specs.declared.template.Template.{Template}
use Rattle.policy.specs.Binding.{value_slots}
use Rattle.policy_set.specs.declared.rows.PolicyRow.{PolicyRow}
use Rattle.policy_set.specs.Rows.{template_id, policy_id, member_id}
use Rattle.policy_set.specs.Maps.{Maps, template_at, row_at, member_at, changed}
use Rattle.policy_set.specs.Sound.{Sound, member, scopes_within}
use Rattle.policy_set.specs.Merge.{renamed_template, renamed_row, renamed_member, merged}
use Rattle.policy_set.proofs.Lookups.{some_same, once_all}
use Rattle.policy_set.proofs.Sounds.{template_of}
use Rattle.policy_set.proofs.FinalIds.{Moves}
use Rattle.policy_set.proofs.NamedAfter.{changed_some, changed_none, names, incoming_template, live_template}

member_renamed : (f : ℕ → ℕ) (o : Option PolicyRow) → changed (renamed_member f) (changed member o) ≡ changed member (changed (renamed_row f) o)
member_renamed f None = refl
member_renamed f (Some r) = refl

module _ (same : ℕ → ℕ → Bool) (live incoming : Maps) (f : ℕ → ℕ) (back : ℕ → Option ℕ) (sl : Sound live) (si : Sound incoming) (mv : Moves same live incoming f back) where
  -- a template that takes the place of a live one has its slots
  live_slots : (j : ℕ) (t : Template) → template_at live j ≡ Some t → (u : Template) × (template_at (merged f live incoming) j ≡ Some u) × (t.slots.bits ≡ u.slots.bits)
  live_slots j t e =
      let l = live_template same live incoming f back sl si mv j t e in
      (l.0, l.1, elim l.2 [ inl z ↦ ap (λ (x : Template). x.slots.bits) (sym z) | inr c ↦ c.slots ])

  alone_after : (k : ℕ) (t : Template) → template_at (merged f live incoming) k ≡ Some t → row_at (merged f live incoming) k ≡ None → t.slots.bits ≡ 0 → ⊥
  alone_after k t e n z = elim (names same live incoming f back sl si mv k) [
    | inl h ↦ sl.alone k t (sym h.templates ∙ e) (sym h.rows ∙ n) z
    | inr h ↦
        let x = changed_some (renamed_template f) (template_at incoming h.0) t (sym h.1.templates ∙ e) in
        si.alone h.0 x.0 x.1 (changed_none (renamed_row f) (row_at incoming h.0) (sym h.1.rows ∙ n)) (ap (λ (u : Template). u.slots.bits) x.2 ∙ z)
  ]

  static_after : (k : ℕ) (t : Template) (r : PolicyRow) → template_at (merged f live incoming) k ≡ Some t → row_at (merged f live incoming) k ≡ Some r
      → (r.template ≡ k) × (r.link ≡ false) × (t.slots.bits ≡ 0)
  static_after k t r e d = elim (names same live incoming f back sl si mv k) [
    | inl h ↦ sl.static k t r (sym h.templates ∙ e) (sym h.rows ∙ d)
    | inr h ↦
        let x = changed_some (renamed_template f) (template_at incoming h.0) t (sym h.1.templates ∙ e) in
        let y = changed_some (renamed_row f) (row_at incoming h.0) r (sym h.1.rows ∙ d) in
        let g = si.static h.0 x.0 y.0 x.1 y.1 in (
          ap (λ (u : PolicyRow). u.template) (sym y.2) ∙ (ap f g.0 ∙ h.1.goes),
          ap (λ (u : PolicyRow). u.link) (sym y.2) ∙ g.1,
          ap (λ (u : Template). u.slots.bits) (sym x.2) ∙ g.2,
        )
  ]

  link_after : (k : ℕ) (r : PolicyRow) → template_at (merged f live incoming) k ≡ None → row_at (merged f live incoming) k ≡ Some r
      → (r.link ≡ true) × ((t : Template) × (template_at (merged f live incoming) r.template ≡ Some t) × (t.slots.bits ≡ 0 → ⊥))
  link_after k r n d = elim (names same live incoming f back sl si mv k) [
    | inl h ↦
        let g = sl.link k r (sym h.templates ∙ n) (sym h.rows ∙ d) in
        let u = live_slots r.template g.1.0 g.1.1 in
        (g.0, (u.0, u.1, λ z. g.1.2 (u.2 ∙ z)))
    | inr h ↦
        let y = changed_some (renamed_row f) (row_at incoming h.0) r (sym h.1.rows ∙ d) in
        let g = si.link h.0 y.0 (changed_none (renamed_template f) (template_at incoming h.0) (sym h.1.templates ∙ n)) y.1 in (
          ap (λ (u : PolicyRow). u.link) (sym y.2) ∙ g.0,
          (
            renamed_template f g.1.0,
            ap (λ (u : PolicyRow). template_at (merged f live incoming) u.template) (sym y.2)
                ∙ incoming_template same live incoming f back sl si mv y.0.template g.1.0 g.1.1,
            g.1.2,
          ),
        )
  ]

  members_after : (k : ℕ) → member_at (merged f live incoming) k ≡ changed member (row_at (merged f live incoming) k)
  members_after k = elim (names same live incoming f back sl si mv k) [
    | inl h ↦ h.members ∙ (sl.members k ∙ ap (changed member) (sym h.rows))
    | inr h ↦
        h.1.members
        ∙ (ap (changed (renamed_member f)) (si.members h.0)
        ∙ (member_renamed f (row_at incoming h.0) ∙ ap (changed member) (sym h.1.rows)))
  ]

  values_after : (k : ℕ) (r : PolicyRow) (t : Template) → row_at (merged f live incoming) k ≡ Some r → template_at (merged f live incoming) r.template ≡ Some t
      → value_slots r.values ≡ t.slots.bits
  values_after k r t d e = elim (names same live incoming f back sl si mv k) [
    | inl h ↦
        let d' = sym h.rows ∙ d in
        let g = template_of live sl k r d' in
        let u = live_slots r.template g.0 g.1 in
        sl.values k r g.0 d' g.1 ∙ (u.2 ∙ ap (λ (x : Template). x.slots.bits) (some_same u.0 t (sym u.1 ∙ e)))
    | inr h ↦
        let y = changed_some (renamed_row f) (row_at incoming h.0) r (sym h.1.rows ∙ d) in
        let g = template_of incoming si h.0 y.0 y.1 in
        let m = incoming_template same live incoming f back sl si mv y.0.template g.0 g.1 in
        let e' : template_at (merged f live incoming) (f y.0.template) ≡ Some t =
        ap (λ (u : PolicyRow). template_at (merged f live incoming) u.template) y.2 ∙ e in
        ap (λ (u : PolicyRow). value_slots u.values) (sym y.2)
        ∙ (si.values h.0 y.0 g.0 y.1 g.1
        ∙ ap (λ (x : Template). x.slots.bits) (some_same (renamed_template f g.0) t (sym m ∙ e')))
  ]

  scopes_after : (k : ℕ) (t : Template) → template_at (merged f live incoming) k ≡ Some t → scopes_within t ≡ true
  scopes_after k t e = elim (names same live incoming f back sl si mv k) [
    | inl h ↦ sl.scopes k t (sym h.templates ∙ e)
    | inr h ↦
        let x = changed_some (renamed_template f) (template_at incoming h.0) t (sym h.1.templates ∙ e) in
        ap scopes_within (sym x.2) ∙ si.scopes h.0 x.0 x.1
  ]

  pub sound_after : Sound (merged f live incoming)
  sound_after = record {
    templates_once = once_all template_id (renamed_template f) live.templates incoming.templates sl.templates_once;
    policies_once = once_all policy_id (renamed_row f) live.policies incoming.policies sl.policies_once;
    members_once = once_all member_id (renamed_member f) live.members incoming.members sl.members_once;
    alone = alone_after;
    static = static_after;
    link = link_after;
    members = members_after;
    values = values_after;
    scopes = scopes_after;
  }
