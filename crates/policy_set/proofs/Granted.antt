-- What adding a policy changes, and that it keeps what a set keeps.
use Rattle.std.proofs.Common.{◌≡◌, ℕ, Bool, true, cond, ◌||◌, eqb, List, [], ◌∷◌, ◌++◌, is_some, Some, None, Ok, Option, sym, refl, ap, ◌∙◌, subst}
use Rattle.std.proofs.lemmas.Bool.{eqb-true, eq-eqb, ne_eqb, and_parts}
use Rattle.policy.specs.Arity.{Parts}
use Rattle.policy.specs.Binding.{value_slots, static_unbound}
use Rattle.policy.specs.Equality.{template_equal, effect_equal, scopes_equal, option_equal}
use Rattle.policy.specs.declared.template.Template.{Template}
use Rattle.policy.specs.declared.values.SlotEnv.{SlotEnv}
use Rattle.policy_set.specs.Rows.{template_id}
use Rattle.policy_set.specs.Maps.{Maps, template_at, row_at}
use Rattle.policy_set.specs.Maps.Thing.{policy}
use Rattle.policy_set.specs.Sound.{has_slots, scopes_within, Sound}
use Rattle.policy_set.specs.Answers.{id_of, row_for, link_fits, with_template, with_or_inserted, with_policy}
use Rattle.policy_set.specs.Laws.{kept_record, Grants}
use Rattle.policy_set.proofs.Accepted.{NewLink, new_link}
use Rattle.policy_set.proofs.Added.{Own, template_added_kept, template_adds, static_added_kept, static_adds, link_added_kept, link_adds}
use Rattle.policy_set.proofs.Lookups.{lookup_pushed, once_push}
use Rattle.policy_set.proofs.Sounds.{no_true, has_slots-not, has_slots_from, sound_of}
use Rattle.policy_set.proofs.Updates.{Kept}

-- equal templates have the same slots
pub equal_slots : (same : ℕ → ℕ → Bool) (s t : Template) → template_equal same s t ≡ true → s.slots.bits ≡ t.slots.bits
equal_slots same s t e =
    let a = and_parts (eqb s.id t.id) _ e in
    let b = and_parts (effect_equal s.effect t.effect) _ a.1 in
    let c = and_parts (scopes_equal s t) _ b.1 in
    let d = and_parts (option_equal same s.clause t.clause) (eqb s.slots.bits t.slots.bits) c.1 in
    eqb-true s.slots.bits t.slots.bits d.1

-- the maps with the template, where it is there and where it is new
pub or_present : (m : Maps) (t s : Template) → template_at m t.id ≡ Some s → with_or_inserted t m ≡ m
or_present m t s e = ap (λ (o : Option Template). maps (cond (is_some o) m.templates (m.templates ++ t ∷ []))) e
  where
    maps : List Template → Maps
    maps ts = record { templates = ts; policies = m.policies; members = m.members }

pub or_new : (m : Maps) (t : Template) → template_at m t.id ≡ None → with_or_inserted t m ≡ with_template t m
or_new m t e = ap (λ (o : Option Template). maps (cond (is_some o) m.templates (m.templates ++ t ∷ []))) e
  where
    maps : List Template → Maps
    maps ts = record { templates = ts; policies = m.policies; members = m.members }

-- what is known of a policy that can be added
pub record Addable (same : ℕ → ℕ → Bool) (m : Maps) (p : Parts) : Type 0 where
  pub scopes : scopes_within p.template ≡ true
  pub equal : (s : Template) → template_at m p.template.id ≡ Some s → template_equal same s p.template ≡ true
  pub policy_free : row_at m (id_of p) ≡ None
  pub link : link_fits m p.template p.link ≡ Ok tt
  pub exact : value_slots p.values ≡ p.template.slots.bits
  pub unlinked : static_unbound p.link p.template.slots.bits ≡ true

-- the maps after a policy is added
abbrev after : Maps → Parts → Maps
after m p = with_policy (row_for p) (with_or_inserted p.template m)

-- a set that keeps this, with the policy granted
pub record Granted (same : ℕ → ℕ → Bool) (m : Maps) (p : Parts) (end : Maps) : Type 0 where
  pub kept : Kept end
  pub law : Grants same m end p

module _ (same : ℕ → ℕ → Bool) (m : Maps) (s : Sound m) (old : Kept m) where
  -- a static policy, whose template is new
  static_granted : (t : Template) (v : SlotEnv) → Addable same m record { template = t; link = None; values = v }
      → Granted same m record { template = t; link = None; values = v } (after m record { template = t; link = None; values = v })
  static_granted t v a = go (template_at m t.id) refl
    where
      p : Parts
      p = record { template = t; link = None; values = v }

      slotless : t.slots.bits ≡ 0
      slotless = eqb-true t.slots.bits 0 a.unlinked

      own : Own t (row_for p)
      own = record { id = refl; template = refl; static = refl; slotless = slotless; values = a.exact ∙ slotless }

      go : (o : Option Template) → template_at m t.id ≡ o → Granted same m p (after m p)
      go (Some u) e = absurd (s.alone t.id u e a.policy_free (equal_slots same u t (a.equal u e) ∙ slotless))
      go None e =
          let adds = static_adds m t (row_for p) own s e a.policy_free in
          subst (λ (n : Maps). Granted same m p (with_policy (row_for p) n)) (sym (or_new m t e)) record {
            kept = static_added_kept m t (row_for p) own s old e a.policy_free a.scopes;
            law = record {
              unbound = adds.unbound;
              names_it = adds.names_it ∙ sym (ap (λ (o : Option Template). policy record { template = kept_record o t; link = None; values = v }) e);
              equal = a.equal;
              template_comes = λ n b. absurd (n refl);
              template_stays = λ n b. absurd (n refl);
              others = λ k n h. adds.others k n;
              reverse_sets = adds.reverse_sets;
            };
          }

  module _ (t : Template) (l : ℕ) (v : SlotEnv) (a : Addable same m record { template = t; link = Some l; values = v }) where
    abbrev link : Parts
    link = record { template = t; link = Some l; values = v }

    -- a link of a template that the set has
    linked_present : NewLink m t l → (u : Template) → template_at m t.id ≡ Some u → Granted same m link (after m link)
    linked_present n u e =
        let slots = equal_slots same u t (a.equal u e) in
        let has : has_slots u ≡ true = has_slots_from u (λ z. has_slots-not t n.has_slots (sym slots ∙ z)) in
        let adds = link_adds m (row_for link) u s n.id_free a.policy_free refl e in
        subst (λ (end : Maps). Granted same m link (with_policy (row_for link) end)) (sym (or_present m t u e)) record {
          kept = link_added_kept m (row_for link) u s old n.id_free a.policy_free refl e has (a.exact ∙ sym slots);
          law = record {
            unbound = adds.unbound;
            names_it = adds.names_it ∙ sym (ap (λ (o : Option Template). policy record { template = kept_record o t; link = Some l; values = v }) e);
            equal = a.equal;
            template_comes = λ d b. no_true (sym b ∙ ap (λ (o : Option Template). is_some o || is_some (row_at m t.id)) e);
            template_stays = λ d b. adds.others t.id d;
            others = λ k d h. adds.others k d;
            reverse_sets = adds.reverse_sets;
          };
        }

    -- a link that brings its template along
    linked_new : NewLink m t l → template_at m t.id ≡ None → Granted same m link (after m link)
    linked_new n e =
        let free = n.template_new e in
        let middle = template_added_kept m t s old e free n.has_slots a.scopes in
        let sound-middle = sound_of (with_template t m) (once_push template_id m.templates t s.templates_once e) s.policies_once s.members_once
        middle.one middle.values middle.scopes middle.members in
        let there : template_at (with_template t m) t.id ≡ Some t =
        lookup_pushed template_id m.templates t t.id e ∙ ap (λ b. cond b (Some t) (template_at m t.id)) (eq-eqb t.id t.id refl) in
        let gone : template_at (with_template t m) l ≡ None =
        lookup_pushed template_id m.templates t l e ∙ (ap (λ b. cond b (Some t) (template_at m l)) (ne_eqb t.id l (λ q. n.other_id (sym q))) ∙ n.id_free) in
        let first = template_adds m t s e free in
        let second = link_adds (with_template t m) (row_for link) t sound-middle gone a.policy_free refl there in
        subst (λ (end : Maps). Granted same m link (with_policy (row_for link) end)) (sym (or_new m t e)) record {
          kept = link_added_kept (with_template t m) (row_for link) t sound-middle middle gone a.policy_free refl there n.has_slots a.exact;
          law = record {
            unbound = ap (λ (o : Option Template). is_some o || is_some (row_at m l)) n.id_free ∙ ap is_some a.policy_free;
            names_it = second.names_it ∙ sym (ap (λ (o : Option Template). policy record { template = kept_record o t; link = Some l; values = v }) e);
            equal = a.equal;
            template_comes = λ d b. second.others t.id d ∙ first.names_it;
            template_stays = λ d b. no_true (sym (ap (λ (o : Option Template). is_some o || is_some (row_at m t.id)) e ∙ ap is_some free) ∙ b);
            others = λ k d h. second.others k d ∙ first.others k h;
            reverse_sets = second.reverse_sets;
          };
        }

    link_granted : Granted same m link (after m link)
    link_granted = go (template_at m t.id) refl
      where
        n : NewLink m t l
        n = new_link m t l a.link

        go : (o : Option Template) → template_at m t.id ≡ o → Granted same m link (after m link)
        go None e = linked_new n e
        go (Some u) e = linked_present n u e

  granted_parts : (t : Template) (o : Option ℕ) (v : SlotEnv) → Addable same m record { template = t; link = o; values = v }
      → Granted same m record { template = t; link = o; values = v } (after m record { template = t; link = o; values = v })
  granted_parts t None v a = static_granted t v a
  granted_parts t (Some l) v a = link_granted t l v a

  pub granted : (p : Parts) → Addable same m p → Granted same m p (with_policy (row_for p) (with_or_inserted p.template m))
  granted p a = granted_parts p.template p.link p.values a
