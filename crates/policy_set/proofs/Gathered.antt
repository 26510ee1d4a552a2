-- The four passes gather the ids that name unequal things.
use Rattle.std.proofs.Common.{◌≡◌, ℕ, ◌+◌, Bool, true, false, cond, not, ◌&&◌, ◌||◌, eqb, List, [], ◌∷◌, ◌++◌, is_some, Some, None, Option, sym, refl, ap, ◌∙◌, subst, arith}
use Rattle.std.proofs.Math.Bool.{or-false, or-true, and-false, or_assoc}
use Rattle.std.proofs.lemmas.Bool.{eqb-true, eq-eqb, ne_eqb}
use Rattle.policy.specs.declared.template.Template.{Template}
use Rattle.policy.specs.Equality.{template_equal}
use Rattle.policy_set.specs.declared.rows.PolicyRow.{PolicyRow}
use Rattle.policy_set.specs.Tables.{one_if, lookup, times, Once}
use Rattle.policy_set.specs.Rows.{template_id, policy_id}
use Rattle.policy_set.specs.Maps.{Maps, template_at, row_at, changed, passes, present, whole, in_force, thing}
use Rattle.policy_set.specs.Sound.{Sound, has_slots}
use Rattle.policy_set.specs.Answers.{other_template}
use Rattle.policy_set.specs.Merge.{parts_equal, things_equal, unequal, unequal_policy, template_on_policy, link_on_template, among, noted, gather, gathered}
use Rattle.policy_set.specs.MergeLaw.{clash}
use Rattle.policy_set.proofs.Lookups.{lookup_key, once_tail, once_head, times_push}
use Rattle.policy_set.proofs.Sounds.{no_true}
use Rattle.policy_set.proofs.Equals.{SameTemplate, same_template, is_template_equal, same_policy, linked_both}

abbrev pub itself : ℕ → ℕ
itself k = k

unequal_none : {X : Type 0} (equal : X → X → Bool) (o : Option X) → unequal equal o None ≡ false
unequal_none equal None = refl
unequal_none equal (Some x) = refl

refuted : (x : Bool) → (x ≡ true → ⊥) → x ≡ false
refuted true h = absurd (h refl)
refuted false h = refl

-- a list in which an id stands once or not at all
pub among-times : (k : ℕ) (xs : List ℕ) (b : Bool) → times itself k xs ≡ one_if b → among k xs ≡ b
among-times k [] true e = absurd (omega arith)
among-times k [] false e = refl
among-times k (x ∷ xs) b e = go (among-times k xs) (eqb x k) b e
  where
    go : ((c : Bool) → times itself k xs ≡ one_if c → among k xs ≡ c) → (d c : Bool) → one_if d + times itself k xs ≡ one_if c → (d || among k xs) ≡ c
    go ih true true h = refl
    go ih true false h = absurd (omega arith)
    go ih false c h = ih c (omega arith)

-- one pass adds the keys that pass the test, each once
pub gather-times : {X : Type 0} (key : X → ℕ) (test : X → Bool) (before : ℕ → Bool) (ids : List ℕ) (xs : List X) → Once key xs
    → ((k : ℕ) → times itself k ids ≡ one_if (before k))
    → (k : ℕ) → times itself k (gather key test ids xs) ≡ one_if (before k || passes test (lookup key k xs))
gather-times key test before ids [] g h k = rw or-false (h k)
gather-times {X} key test before ids (x ∷ xs) g h k =
    gather-times key test (λ j. before j || (test x && eqb (key x) j)) (noted (test x) (key x) ids) xs (once_tail key x xs g)
    (λ j. step j (test x) (among (key x) ids) refl) k
    ∙ ap one_if (last (test x) (eqb (key x) k) refl refl)
  where
    pushed : (j : ℕ) → among (key x) ids ≡ false → (c : Bool) → eqb (key x) j ≡ c → times itself j ids + one_if c ≡ one_if (before j || c)
    pushed j e true p =
        let s : before (key x) ≡ false = sym (among-times (key x) ids (before (key x)) (h (key x))) ∙ e in
        let s2 : before j ≡ false = subst (λ i. before i ≡ false) (eqb-true _ _ p) s in
        let z : times itself j ids ≡ one_if false = rw s2 at (h j) in
        rw s2 (omega (arith, z))
    pushed j e false p = rw or-false (omega (arith, h j))

    there : (j : ℕ) → among (key x) ids ≡ true → (c : Bool) → eqb (key x) j ≡ c → times itself j ids ≡ one_if (before j || c)
    there j e true p =
        let s : before (key x) ≡ true = sym (among-times (key x) ids (before (key x)) (h (key x))) ∙ e in
        let s2 : before j ≡ true = subst (λ i. before i ≡ true) (eqb-true _ _ p) s in
        let z : times itself j ids ≡ one_if true = rw s2 at (h j) in
        rw s2 (omega (arith, z))
    there j e false p = rw or-false (h j)

    step : (j : ℕ) (t s : Bool) → among (key x) ids ≡ s → times itself j (cond (t && not s) (ids ++ key x ∷ []) ids) ≡ one_if (before j || (t && eqb (key x) j))
    step j false s e = rw or-false (h j)
    step j true true e = there j e (eqb (key x) j) refl
    step j true false e = times_push itself j ids (key x) ∙ pushed j e (eqb (key x) j) refl

    last : (t c : Bool) → test x ≡ t → eqb (key x) k ≡ c
        → ((before k || (t && c)) || passes test (lookup key k xs)) ≡ (before k || passes test (cond c (Some x) (lookup key k xs)))
    last t true e p = let n : lookup key k xs ≡ None = once_head key x xs k g p in rw (n, or-false, e) (yes_all t)
      where
        yes_all : (d : Bool) → (before k || (d && true)) ≡ (before k || d)
        yes_all true = refl
        yes_all false = refl
    last t false e p = rw or_assoc (no_all t)
      where
        no_all : (d : Bool) → (before k || ((d && false) || passes test (lookup key k xs))) ≡ (before k || passes test (lookup key k xs))
        no_all true = refl
        no_all false = refl

two_no : (x z w : Bool) → z ≡ true → w ≡ false → ((x || (not z && true)) || (w && true)) ≡ x
two_no x z w p q = simp (p, q, or-false)

module _ (same : ℕ → ℕ → Bool) (live incoming : Maps) (sl : Sound live) (si : Sound incoming) (k : ℕ) where
  -- the four tests of what stands under one id
  tests : Option Template → Option PolicyRow → Option Template → Option PolicyRow → Bool
  tests ot op it ip =
      (((false || unequal (template_equal same) ot it)
      || unequal (parts_equal same) (changed (whole live) op) (changed (whole incoming) ip))
      || passes (λ (t : Template). has_slots t && is_some op) it)
      || passes (λ (r : PolicyRow). r.link && is_some ot) ip

  cases : (ot : Option Template) (op : Option PolicyRow) (it : Option Template) (ip : Option PolicyRow)
      → template_at live k ≡ ot → row_at live k ≡ op → template_at incoming k ≡ it → row_at incoming k ≡ ip
      → tests ot op it ip
      ≡ ((is_some ot || is_some op) && ((is_some it || is_some ip) && not (things_equal same (thing ot (changed (whole live) op)) (thing it (changed (whole incoming) ip)))))
  unfolding tests
  cases None None None None p q u v = refl
  cases None None (Some t) None p q u v = rw and-false
  cases None None None (Some r) p q u v = and-false _
  cases None None (Some t) (Some r) p q u v = simp and-false
  cases (Some s) None None None p q u v = refl
  cases (Some s) None (Some t) None p q u v = simp (and-false, or-false)
  cases (Some s) None None (Some r) p q u v = rw (si.link k r u v).0
  cases (Some s) None (Some t) (Some r) p q u v =
      let e : template_equal same s t ≡ false =
      refuted _ (λ h. sl.alone k s p q ((same_template same s t h).slots ∙ (si.static k t r u v).2)) in
      rw e
  cases None (Some l) None None p q u v = refl
  cases None (Some l) (Some t) None p q u v = rw (ne_eqb t.slots.bits 0 (si.alone k t u v))
  cases None (Some l) None (Some r) p q u v = simp (and-false, or-false)
  cases None (Some l) (Some t) (Some r) p q u v =
      let e : parts_equal same (whole live l) (whole incoming r) ≡ false =
      refuted _ (λ h. linked_both l r (same_policy same (whole live l) (whole incoming r) h).link (sl.link k l p q).0 (si.static k t r u v).1) in
      rw e
  cases (Some s) (Some l) None None p q u v = refl
  cases (Some s) (Some l) (Some t) None p q u v = rw (ne_eqb t.slots.bits 0 (si.alone k t u v), or-true)
  cases (Some s) (Some l) None (Some r) p q u v =
      let e : parts_equal same (whole live l) (whole incoming r) ≡ false =
      refuted _ (λ h. linked_both r l (sym (same_policy same (whole live l) (whole incoming r) h).link) (si.link k r u v).0 (sl.static k s l p q).1) in
      rw e
  cases (Some s) (Some l) (Some t) (Some r) p q u v =
      let a = sl.static k s l p q in
      let c = si.static k t r u v in
      two_no (not (template_equal same s t) || not (parts_equal same (whole live l) (whole incoming r))) (eqb t.slots.bits 0) r.link (eq-eqb t.slots.bits 0 c.2) c.1
      ∙ go (template_equal same s t) (parts_equal same (whole live l) (whole incoming r)) refl refl
    where
      go : (x y : Bool) → template_equal same s t ≡ x → parts_equal same (whole live l) (whole incoming r) ≡ y → (not x || not y) ≡ not y
      go x false e f = or-true (not x)
      go true true e f = refl
      go false true e f =
          let a = sl.static k s l p q in
          let c = si.static k t r u v in
          let m : template_at live l.template ≡ Some s = ap (template_at live) a.0 ∙ p in
          let n : template_at incoming r.template ≡ Some t = ap (template_at incoming) c.0 ∙ u in
          let h : SameTemplate same (present (template_at live l.template)) (present (template_at incoming r.template)) =
          (same_policy same (whole live l) (whole incoming r) f).template in
          let g : SameTemplate same s t = rw (m, n) at h in
          no_true (sym e ∙ is_template_equal same s t g)

  first : (o : Option Template) → template_at incoming k ≡ o
      → passes (other_template same live) o ≡ unequal (template_equal same) (template_at live k) o
  first None e = sym (unequal_none (template_equal same) (template_at live k))
  first (Some t) e = by (template_at live t.id) ∙ ap (λ j. unequal (template_equal same) (template_at live j) (Some t)) (lookup_key template_id k incoming.templates t e)
    where
      by : (o : Option Template) → passes (λ s. not (template_equal same s t)) o ≡ unequal (template_equal same) o (Some t)
      by None = refl
      by (Some s) = refl

  second : (o : Option PolicyRow) → row_at incoming k ≡ o
      → passes (unequal_policy same live incoming) o ≡ unequal (parts_equal same) (in_force live k) (changed (whole incoming) o)
  second None e = sym (unequal_none (parts_equal same) (in_force live k))
  second (Some r) e =
      ap (λ j. unequal (parts_equal same) (in_force live j) (in_force incoming j)) (lookup_key policy_id k incoming.policies r e)
      ∙ ap (λ (p : Option PolicyRow). unequal (parts_equal same) (in_force live k) (changed (whole incoming) p)) e

  third : (o : Option Template) → template_at incoming k ≡ o
      → passes (template_on_policy live) o ≡ passes (λ (t : Template). has_slots t && is_some (row_at live k)) o
  third None e = refl
  third (Some t) e = ap (λ j. has_slots t && is_some (row_at live j)) (lookup_key template_id k incoming.templates t e)

  fourth : (o : Option PolicyRow) → row_at incoming k ≡ o
      → passes (link_on_template live) o ≡ passes (λ (r : PolicyRow). r.link && is_some (template_at live k)) o
  fourth None e = refl
  fourth (Some r) e = ap (λ j. r.link && is_some (template_at live j)) (lookup_key policy_id k incoming.policies r e)

  counted : times itself k (gathered same live incoming)
      ≡ one_if ((((false || passes (other_template same live) (template_at incoming k)) || passes (unequal_policy same live incoming) (row_at incoming k))
      || passes (template_on_policy live) (template_at incoming k)) || passes (link_on_template live) (row_at incoming k))
  counted =
      gather-times policy_id (link_on_template live) _ _ incoming.policies si.policies_once
      (gather-times template_id (template_on_policy live) _ _ incoming.templates si.templates_once
      (gather-times policy_id (unequal_policy same live incoming) _ _ incoming.policies si.policies_once
      (gather-times template_id (other_template same live) (λ j. false) [] incoming.templates si.templates_once (λ j. refl)))) k

  -- an id is gathered once where it names unequal things, and else not at all
  pub gathered_times : times itself k (gathered same live incoming) ≡ one_if (clash same live incoming k)
  unfolding tests
  gathered_times = counted ∙ ap one_if (rw (first _ refl, second _ refl, third _ refl, fourth _ refl) (cases _ _ _ _ refl refl refl refl))

  pub gathers : among k (gathered same live incoming) ≡ clash same live incoming k
  gathers = among-times k _ _ gathered_times
