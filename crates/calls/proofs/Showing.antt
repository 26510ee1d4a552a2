-- What a set shows against its tally, from what the set and the tally keep together.
use Rattle.std.proofs.Common.{◌≡◌, ℕ, ◌+◌, Bool, true, false, cond, not, eqb, List, [], ◌∷◌, Some, None, filter, Option, sym, refl, ap, ◌∙◌, subst, zero-add}
use Rattle.std.specs.Bool.{then_some}
use Rattle.std.proofs.lemmas.Bool.{false≢true, eq-eqb, and_parts}
use Rattle.refusals.specs.declared.slots.SlotId.TheVariants.{Principal, Resource}
use Rattle.clauses.specs.Book.{Clause, same_clause}
use Rattle.policy.specs.Arity.{Parts}
use Rattle.policy.specs.Filling.{slotted}
use Rattle.policy.specs.Slots.{has, has_bit}
use Rattle.policy.specs.declared.bound.Policy.{Policy}
use Rattle.policy.specs.declared.template.Template.{Template}
use Rattle.policy.proofs.Exact.{policy_exact}
use Rattle.policy.proofs.Fillings.{fills}
use Rattle.policy_set.specs.declared.rows.PolicyRow.{PolicyRow}
use Rattle.policy_set.specs.Tables.{lookup, one_if, times, Once}
use Rattle.policy_set.specs.Rows.{template_id, policy_id, member_id}
use Rattle.policy_set.specs.Maps.{Maps, template_at, row_at, changed, passes, present, link_of, whole, in_force}
use Rattle.policy_set.specs.Sound.{Sound, member}
use Rattle.policy_set.specs.Answers.{is_under, reverse_set}
use Rattle.policy_set.specs.Tally.{Tally}
use Rattle.policy_set.proofs.Holding.{Holds}
use Rattle.policy_set.proofs.Lookups.{lookup_key, no_some, once_tail, once_head}
use Rattle.policy_set.proofs.Sounds.{has_slots_from, template_of, unlinked_slotless}
use Rattle.calls.specs.Law.{OneThing, Binds, Fit, Shown}
use Rattle.calls.specs.Law.OneThing.{nothing, template, link, static}

changed_some : {X Y : Type 0} (g : X → Y) (o : Option X) (y : Y) → changed g o ≡ Some y → (x : X) × (o ≡ Some x) × (g x ≡ y)
changed_some g None y e = no_some y e
changed_some g (Some x) y e = let z : g x ≡ y = cc in (x, refl, z)

-- among distinct rows, one with a key passes a test once or not at all
times_passing : {X : Type 0} (key : X → ℕ) (k : ℕ) (p : X → Bool) (xs : List X) → Once key xs → times key k (filter p xs) ≡ one_if (passes p (lookup key k xs))
times_passing key k p [] h = refl
times_passing {X} key k p (y ∷ xs) h = go (times_passing key k p xs (once_tail key y xs h)) (eqb (key y) k) (p y) refl refl
  where
    rest : times key k (filter p xs) ≡ one_if (passes p (lookup key k xs)) → eqb (key y) k ≡ true → times key k (filter p xs) ≡ 0
    rest ih e = ih ∙ ap (λ (o : Option X). one_if (passes p o)) (once_head key y xs k h e)

    go : times key k (filter p xs) ≡ one_if (passes p (lookup key k xs)) → (b c : Bool) → eqb (key y) k ≡ b → p y ≡ c
        → times key k (cond c (y ∷ filter p xs) (filter p xs)) ≡ one_if (passes p (cond b (Some y) (lookup key k xs)))
    go ih true true e q = ap (λ b. one_if b + times key k (filter p xs)) e ∙ (ap (λ n. 1 + n) (rest ih e) ∙ sym (ap one_if q))
    go ih true false e q = rest ih e ∙ sym (ap one_if q)
    go ih false true e q = ap (λ b. one_if b + times key k (filter p xs)) e ∙ (zero-add (times key k (filter p xs)) ∙ ih)
    go ih false false e q = ih

slot_within : (a b : Bool) → cond a b true ≡ true → a ≡ true → b ≡ true
slot_within true b h e = h
slot_within false b h e = absurd (false≢true e)

module _ (m : Maps) (so : Sound m) where
  -- the policy of a row
  abbrev policy_of : Template → PolicyRow → Parts
  policy_of t r = record { template = t; link = link_of r; values = r.values }

  whole_of : (r : PolicyRow) (t : Template) → template_at m r.template ≡ Some t → whole m r ≡ policy_of t r
  whole_of r t f = ap (λ (o : Option Template). policy_of (present o) r) f

  policy_at : (k : ℕ) (r : PolicyRow) (t : Template) → row_at m k ≡ Some r → template_at m r.template ≡ Some t → in_force m k ≡ Some (policy_of t r)
  policy_at k r t e f = ap (changed (whole m)) e ∙ ap Some (whole_of r t f)

  -- each id names one thing
  one_thing : (k : ℕ) → OneThing m k
  one_thing k = go (template_at m k) (row_at m k) refl refl
    where
      go : (o : Option Template) (p : Option PolicyRow) → template_at m k ≡ o → row_at m k ≡ p → OneThing m k
      go None None e f = nothing e (ap (changed (whole m)) f)
      go (Some t) None e f = template t e (ap (changed (whole m)) f) (lookup_key template_id k m.templates t e) (has_slots_from t (so.alone k t e f))
      go None (Some r) e f =
          let l = so.link k r e f in
          let t = l.1.0 in
          link (policy_of t r) e (policy_at k r t f l.1.1)
          (ap (λ b. then_some b r.id) l.0 ∙ ap Some (lookup_key policy_id k m.policies r f))
          (has_slots_from t l.1.2)
          (ap (template_at m) (lookup_key template_id r.template m.templates t l.1.1) ∙ l.1.1)
      go (Some t) (Some r) e f =
          let s = so.static k t r e f in
          let g : template_at m r.template ≡ Some t = ap (template_at m) s.0 ∙ e in
          static (policy_of t r) e (policy_at k r t f g) (ap (λ b. then_some b r.id) s.1) (lookup_key template_id k m.templates t e)
          (ap not (eq-eqb t.slots.bits 0 s.2))

  -- a reverse set lists its template's policies
  reverse : (t k : ℕ) → times member_id k (reverse_set t m) ≡ one_if (passes (λ (p : Parts). eqb p.template.id t) (in_force m k))
  reverse t k =
      times_passing member_id k (is_under t) m.members so.members_once
      ∙ ap one_if (ap (passes (is_under t)) (so.members k) ∙ go (row_at m k) refl)
    where
      go : (o : Option PolicyRow) → row_at m k ≡ o → passes (is_under t) (changed member o) ≡ passes (λ (p : Parts). eqb p.template.id t) (changed (whole m) o)
      go None e = refl
      go (Some r) e =
          let u = template_of m so k r e in
          sym (ap (λ (p : Parts). eqb p.template.id t) (whole_of r u.0 u.1) ∙ ap (λ i. eqb i t) (lookup_key template_id r.template m.templates u.0 u.1))

module _ {C : Type 0} (equal : C → C → Bool) (cs : List (Clause C)) (m : Maps) (tally : Tally) (h : Holds (same_clause equal cs) (Fit cs) m tally) where
  binds_row : (k : ℕ) (r : PolicyRow) (t : Template) → row_at m k ≡ Some r → template_at m r.template ≡ Some t → Binds cs (policy_of m h.sound t r)
  binds_row k r t e f =
      let w = and_parts _ _ (h.sound.scopes r.template t f) in
      record {
        exact = λ slot. sym (ap (has_bit slot) (h.fits r.template t f).slots) ∙ policy_exact p slot;
        principal = (fills r.values.principal t.principal).closes (λ s. sym (policy_exact p Principal) ∙ slot_within (slotted t.principal) (has Principal t.slots) w.0 s);
        resource = (fills r.values.resource t.resource).closes (λ s. sym (policy_exact p Resource) ∙ slot_within (slotted t.resource) (has Resource t.slots) w.1 s);
      }
    where
      p : Policy
      p = record {
        template = t;
        link = link_of r;
        values = r.values;
        exact = h.sound.values k r t e f;
        unlinked = unlinked_slotless m h.sound k r t e f;
      }

  binds : (k : ℕ) (p : Parts) → in_force m k ≡ Some p → Binds cs p
  binds k p e =
      let x = changed_some (whole m) (row_at m k) p e in
      let u = template_of m h.sound k x.0 x.1 in
      subst (λ (q : Parts). Binds cs q) (sym (whole_of m h.sound x.0 u.0 u.1) ∙ x.2) (binds_row k x.0 u.0 x.1 u.1)

  -- what the set shows
  pub shown : Shown equal cs m tally
  shown = record {
    one_thing = one_thing m h.sound;
    sound = h.sound;
    reverse = reverse m h.sound;
    agrees = h.shows;
    binds = binds;
    fits = h.fits;
  }

-- and back
pub holds : {C : Type 0} (equal : C → C → Bool) (cs : List (Clause C)) (m : Maps) (tally : Tally) → Shown equal cs m tally → Holds (same_clause equal cs) (Fit cs) m tally
holds equal cs m tally h = record { sound = h.sound; shows = h.agrees; fits = h.fits }
