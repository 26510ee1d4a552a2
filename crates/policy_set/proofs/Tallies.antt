-- A merge keeps sets and their tallies together.
use Rattle.std.proofs.Common.{◌≡◌, ℕ, Bool, true, false, cond, List, Some, None, Option, sym, refl, ap, ◌∙◌, subst, inl, inr, arith}
use Rattle.std.proofs.lemmas.Bool.{lt-ltb, le-ltb}
use Rattle.clauses.specs.Book.{Clause, DecidesEquality, at, same_content, same_clause}
use Rattle.policy.specs.declared.template.Template.{Template}
use Rattle.policy.specs.Equality.{option_equal}
use Rattle.policy.specs.Arity.{Parts}
use Rattle.policy_set.specs.declared.rows.PolicyRow.{PolicyRow}
use Rattle.policy_set.specs.declared.rows.Renaming.{Renaming}
use Rattle.policy_set.specs.Maps.{Maps, template_at, row_at, changed, whole, in_force, bound, named}
use Rattle.policy_set.specs.Sound.{Sound}
use Rattle.policy_set.specs.Merge.{parts_equal, things_equal, final, origin, renamed_template, renamed_row, renamed_policy, merged}
use Rattle.policy_set.specs.MergeLaw.{Chosen}
use Rattle.policy_set.specs.Tally.{Account, Tally, held, grant, holds_equal, merged_account, granted_from, merge_tally, GrantsAfter, Agrees, Shows, AllFit}
use Rattle.policy_set.proofs.Holding.{Holds, Comparing, Idless, HoldsAfter}
use Rattle.policy_set.proofs.Lookups.{no_some, some_same}
use Rattle.policy_set.proofs.Sounds.{no_true}
use Rattle.policy_set.proofs.Equals.{SameTemplate, SamePolicy, same_policy, is_parts_equal, both_renamed}
use Rattle.policy_set.proofs.FinalIds.{Moves, moves, unbound}
use Rattle.policy_set.proofs.NamedAfter.{Alike, alike, From, Kept, changed_some, names, named_policy, incoming_whole, live_whole, equal_renamed, row_bound}
use Rattle.policy_set.proofs.NamedAfter.Alike.{two_templates, two_links, two_statics}
use Rattle.policy_set.proofs.MergedSound.{sound_after}

-- equality of policies is symmetric and transitive where comparing clauses is
module _ (same : ℕ → ℕ → Bool) (law : Comparing same) where
  clause_sym : (a b : Option ℕ) → option_equal same a b ≡ true → option_equal same b a ≡ true
  clause_sym None None h = h
  clause_sym None (Some n) h = no_true h
  clause_sym (Some m) None h = no_true h
  clause_sym (Some m) (Some n) h = law.symmetric m n h

  clause_trans : (a b c : Option ℕ) → option_equal same a b ≡ true → option_equal same b c ≡ true → option_equal same a c ≡ true
  clause_trans None None c h g = g
  clause_trans None (Some n) c h g = no_true h
  clause_trans (Some m) None c h g = no_true h
  clause_trans (Some m) (Some n) None h g = no_true g
  clause_trans (Some m) (Some n) (Some l) h g = law.transitive m n l h g

  template_sym : (s t : Template) → SameTemplate same s t → SameTemplate same t s
  template_sym s t h = record {
    id = sym h.id;
    effect = sym h.effect;
    principal = sym h.principal;
    action = sym h.action;
    resource = sym h.resource;
    clause = clause_sym s.clause t.clause h.clause;
    slots = sym h.slots;
  }

  template_trans : (s t u : Template) → SameTemplate same s t → SameTemplate same t u → SameTemplate same s u
  template_trans s t u h g = record {
    id = h.id ∙ g.id;
    effect = h.effect ∙ g.effect;
    principal = h.principal ∙ g.principal;
    action = h.action ∙ g.action;
    resource = h.resource ∙ g.resource;
    clause = clause_trans s.clause t.clause u.clause h.clause g.clause;
    slots = h.slots ∙ g.slots;
  }

  pub policy_sym : (p q : Parts) → SamePolicy same p q → SamePolicy same q p
  policy_sym p q h = record { template = template_sym p.template q.template h.template; link = sym h.link; values = sym h.values }

  pub policy_trans : (p q r : Parts) → SamePolicy same p q → SamePolicy same q r → SamePolicy same p r
  policy_trans p q r h g = record {
    template = template_trans p.template q.template r.template h.template g.template;
    link = h.link ∙ g.link;
    values = h.values ∙ g.values;
  }

held_none : (same : ℕ → ℕ → Bool) (a : Account) → Agrees same a None → held a ≡ None
held_none same a h = rw (le-ltb a.takebacks a.grants (omega (arith, h.balance)))

held_some : (same : ℕ → ℕ → Bool) (a : Account) (p : Parts) → Agrees same a (Some p) → held a ≡ Some a.latest
held_some same a p h = rw (lt-ltb a.takebacks a.grants (omega (arith, h.balance)))

latest_same : (same : ℕ → ℕ → Bool) (a : Account) (p : Parts) → Agrees same a (Some p) → SamePolicy same p a.latest
latest_same same a p h = same_policy same p a.latest (h.latest p refl)

agrees_same : (same : ℕ → ℕ → Bool) → Comparing same → (a : Account) (p q : Parts) → Agrees same a (Some p) → SamePolicy same q p → Agrees same a (Some q)
agrees_same same law a p q h e = record {
  balance = h.balance;
  latest = λ x d. is_parts_equal same x a.latest (let z : x ≡ q = some_same x q (sym d) in rw z (policy_trans same law q p a.latest e (latest_same same a p h)));
}

agrees_grant : (same : ℕ → ℕ → Bool) (a : Account) (p q : Parts) → Agrees same a None → SamePolicy same p q → Agrees same (grant a q) (Some p)
agrees_grant same a p q h e = record {
  balance = omega (arith, h.balance);
  latest = λ x d. let z : x ≡ p = some_same x p (sym d) in is_parts_equal same x q (rw z e);
}

module _ (same : ℕ → ℕ → Bool) (law : Comparing same) (live incoming : Maps) (f : ℕ → ℕ) (back : ℕ → Option ℕ) (sl : Sound live) (si : Sound incoming) (mv : Moves same live incoming f back)
    (tl ti : Tally) (shl : Shows same tl live) (shi : Shows same ti incoming) where
  at_none : (t : Tally) (m : Maps) → Shows same t m → (k : ℕ) → row_at m k ≡ None → Agrees same (t k) None
  at_none t m sh k e = subst (Agrees same (t k)) (ap (changed (whole m)) e) (sh k)

  at_some : (t : Tally) (m : Maps) → Shows same t m → (k : ℕ) (r : PolicyRow) → row_at m k ≡ Some r → Agrees same (t k) (Some (whole m r))
  at_some t m sh k r e = subst (Agrees same (t k)) (ap (changed (whole m)) e) (sh k)

  -- nothing comes in under k
  quiet : (k i : ℕ) → row_at incoming i ≡ None → merged_account same f (tl k) (held (tl i)) (held (ti i)) ≡ tl k
  quiet k i e = ap (merged_account same f (tl k) (held (tl i))) (held_none same (ti i) (at_none ti incoming shi i e))

  kept_tally : (k : ℕ) → Kept live incoming f back k → granted_from same f tl ti k (back k) ≡ tl k
  kept_tally k h = go (back k) refl
    where
      go : (o : Option ℕ) → back k ≡ o → granted_from same f tl ti k o ≡ tl k
      go None e = refl
      go (Some i) e = quiet k i (unbound incoming i (h.none i e)).1

  kept_agrees : (k : ℕ) → Kept live incoming f back k → Agrees same (tl k) (in_force (merged f live incoming) k)
  kept_agrees k h = rw h.rows (go (row_at live k) refl)
    where
      go : (o : Option PolicyRow) → row_at live k ≡ o → Agrees same (tl k) (changed (whole (merged f live incoming)) o)
      go None e = at_none tl live shl k e
      go (Some r) e = elim (live_whole same live incoming f back sl si mv k r e) [
        | inl z ↦ rw z (at_some tl live shl k r e)
        | inr c ↦ agrees_same same law (tl k) (whole live r) (whole (merged f live incoming) r) (at_some tl live shl k r e) (policy_sym same law (whole live r) (whole (merged f live incoming) r) c)
      ]

  -- a policy is granted where the live set has no equal of it
  new : (k i : ℕ) → f i ≡ k → bound live (f i) ≡ false → things_equal same (named live i) (named incoming i) ≡ false
      → (o : Option PolicyRow) → row_at incoming i ≡ o
      → Agrees same (merged_account same f (tl k) (held (tl i)) (held (ti i))) (changed (whole (merged f live incoming)) (changed (renamed_row f) o))
  new k i g bl ne None e = subst (λ (a : Account). Agrees same a None) (sym (quiet k i e)) (at_none tl live shl k (ap (row_at live) (sym g) ∙ (unbound live (f i) bl).1))
  new k i g bl ne (Some r) e =
      let ar = at_some ti incoming shi i r e in
      let w = incoming_whole same live incoming f back sl si mv i r e in
      let z : merged_account same f (tl k) (held (tl i)) (held (ti i)) ≡ grant (tl k) (renamed_policy f (ti i).latest) =
      ap (merged_account same f (tl k) (held (tl i))) (held_some same (ti i) (whole incoming r) ar)
      ∙ ap (λ c. cond c (tl k) (grant (tl k) (renamed_policy f (ti i).latest))) (unequal (row_at live i) refl) in
      let y : Agrees same (grant (tl k) (renamed_policy f (ti i).latest)) (Some (renamed_policy f (whole incoming r))) =
      agrees_grant same (tl k) (renamed_policy f (whole incoming r)) (renamed_policy f (ti i).latest)
      (at_none tl live shl k (ap (row_at live) (sym g) ∙ (unbound live (f i) bl).1))
      (both_renamed same f (whole incoming r) (ti i).latest (latest_same same (ti i) (whole incoming r) ar)) in
      rw (z, w) y
    where
      unequal : (o : Option PolicyRow) → row_at live i ≡ o → holds_equal same (ti i).latest (held (tl i)) ≡ false
      unequal None d = ap (holds_equal same (ti i).latest) (held_none same (tl i) (at_none tl live shl i d))
      unequal (Some x) d =
          ap (holds_equal same (ti i).latest) (held_some same (tl i) (whole live x) (at_some tl live shl i x d))
          ∙ differ (parts_equal same (tl i).latest (ti i).latest) refl
        where
          differ : (c : Bool) → parts_equal same (tl i).latest (ti i).latest ≡ c → c ≡ false
          differ false h = refl
          differ true h =
              let al = at_some tl live shl i x d in
              let ar = at_some ti incoming shi i r e in
              let s1 = policy_trans same law (whole live x) (tl i).latest (ti i).latest (latest_same same (tl i) (whole live x) al) (same_policy same (tl i).latest (ti i).latest h) in
              let s2 = policy_trans same law (whole live x) (ti i).latest (whole incoming r) s1 (policy_sym same law (whole incoming r) (ti i).latest (latest_same same (ti i) (whole incoming r) ar)) in
              let n : things_equal same (named live i) (named incoming i) ≡ parts_equal same (whole live x) (whole incoming r) =
              rw (named_policy live i x d, named_policy incoming i r e) refl in
              no_true (sym ne ∙ (n ∙ is_parts_equal same (whole live x) (whole incoming r) s2))

  -- where both sets have equal policies nothing is granted
  equal_policies : (i : ℕ) → f i ≡ i → (r q : PolicyRow) → row_at live i ≡ Some r → row_at incoming i ≡ Some q
      → SamePolicy same (whole live r) (whole incoming q) → Alike same live incoming i
      → Agrees same (merged_account same f (tl i) (held (tl i)) (held (ti i))) (changed (whole (merged f live incoming)) (changed (renamed_row f) (row_at incoming i)))
  equal_policies i fi r q d e c al =
      let hl = at_some tl live shl i r d in
      let hi = at_some ti incoming shi i q e in
      let s1 = policy_trans same law (tl i).latest (whole live r) (whole incoming q) (policy_sym same law (whole live r) (tl i).latest (latest_same same (tl i) (whole live r) hl)) c in
      let s2 = policy_trans same law (tl i).latest (whole incoming q) (ti i).latest s1 (latest_same same (ti i) (whole incoming q) hi) in
      let z : merged_account same f (tl i) (held (tl i)) (held (ti i)) ≡ tl i =
      ap (merged_account same f (tl i) (held (tl i))) (held_some same (ti i) (whole incoming q) hi)
      ∙ (ap (λ (o : Option Parts). cond (holds_equal same (ti i).latest o) (tl i) (grant (tl i) (renamed_policy f (ti i).latest))) (held_some same (tl i) (whole live r) hl)
      ∙ ap (λ x. cond x (tl i) (grant (tl i) (renamed_policy f (ti i).latest))) (is_parts_equal same (tl i).latest (ti i).latest s2)) in
      let w = equal_renamed same live incoming f back sl si mv i fi r q e c al in
      let y : Agrees same (tl i) (Some (renamed_policy f (whole incoming q))) =
      agrees_same same law (tl i) (whole live r) (renamed_policy f (whole incoming q)) hl (policy_sym same law (whole live r) (renamed_policy f (whole incoming q)) w) in
      rw (z, e, incoming_whole same live incoming f back sl si mv i q e) y

  moved : (i : ℕ) → bound incoming i ≡ true
      → Agrees same (merged_account same f (tl (f i)) (held (tl i)) (held (ti i))) (changed (whole (merged f live incoming)) (changed (renamed_row f) (row_at incoming i)))
  moved i h = elim (mv.apart i h) [
    | inl u ↦ new (f i) i refl u.0 u.1 (row_at incoming i) refl
    | inr u ↦
        subst (λ k. Agrees same (merged_account same f (tl k) (held (tl i)) (held (ti i))) (changed (whole (merged f live incoming)) (changed (renamed_row f) (row_at incoming i))))
        (sym u.0) (both u.0 (alike same live incoming sl si i u.1))
  ]
    where
      both : f i ≡ i → Alike same live incoming i
          → Agrees same (merged_account same f (tl i) (held (tl i)) (held (ti i))) (changed (whole (merged f live incoming)) (changed (renamed_row f) (row_at incoming i)))
      both fi (two_templates s t p q u v c) = rw (quiet i i v, v) (at_none tl live shl i q)
      both fi (two_links r y p q u v c) = equal_policies i fi r y q v c (two_links r y p q u v c)
      both fi (two_statics s t r y p q u v c d) = equal_policies i fi r y q v d (two_statics s t r y p q u v c d)

  from_agrees : (k i : ℕ) → From live incoming f k i → Agrees same (granted_from same f tl ti k (back k)) (in_force (merged f live incoming) k)
  from_agrees k i g =
      let b : back k ≡ Some i = subst (λ j. back j ≡ Some i) g.goes (mv.return i g.is_bound) in
      let m : Agrees same (merged_account same f (tl k) (held (tl i)) (held (ti i))) (changed (whole (merged f live incoming)) (changed (renamed_row f) (row_at incoming i))) =
      subst (λ j. Agrees same (merged_account same f (tl j) (held (tl i)) (held (ti i))) (changed (whole (merged f live incoming)) (changed (renamed_row f) (row_at incoming i)))) g.goes (moved i g.is_bound) in
      rw (b, g.rows) m

  shows_after : (k : ℕ) → Agrees same (granted_from same f tl ti k (back k)) (in_force (merged f live incoming) k)
  shows_after k = elim (names same live incoming f back sl si mv k) [
    | inl h ↦ rw (kept_tally k h) (kept_agrees k h)
    | inr h ↦ from_agrees k h.0 h.1
  ]

module _ (same : ℕ → ℕ → Bool) (Fit : Template → Type 0) (live incoming : Maps) (tl ti : Tally) (pairs : List Renaming) (ch : Chosen same live incoming pairs)
    (hl : Holds same Fit live tl) (hi : Holds same Fit incoming ti) where
  mv : Moves same live incoming (final pairs) (origin pairs)
  mv = moves same live incoming pairs hl.sound hi.sound ch

  fits_after : Idless Fit → AllFit Fit (merged (final pairs) live incoming)
  fits_after idless k t e = elim (names same live incoming (final pairs) (origin pairs) hl.sound hi.sound mv k) [
    | inl h ↦ hl.fits k t (sym h.templates ∙ e)
    | inr h ↦
        let x = changed_some (renamed_template (final pairs)) (template_at incoming h.0) t (sym h.1.templates ∙ e) in
        subst Fit x.2 (idless (final pairs) x.0 (hi.fits h.0 x.0 x.1))
  ]

  -- a merge keeps the set and its tally together
  pub holds_after : Comparing same → Idless Fit → HoldsAfter same Fit live incoming tl ti pairs
  holds_after law idless = record {
    sound = sound_after same live incoming (final pairs) (origin pairs) hl.sound hi.sound mv;
    shows = shows_after same law live incoming (final pairs) (origin pairs) hl.sound hi.sound mv tl ti hl.shows hi.shows;
    fits = fits_after idless;
  }

  there : (i : ℕ) (p : Parts) → held (ti i) ≡ Some p → bound incoming i ≡ true
  there i p e = go (row_at incoming i) refl
    where
      go : (o : Option PolicyRow) → row_at incoming i ≡ o → bound incoming i ≡ true
      go None d = no_some p (sym (held_none same (ti i) (subst (Agrees same (ti i)) (ap (changed (whole incoming)) d) (hi.shows i))) ∙ e)
      go (Some r) d = row_bound incoming i r d

  -- what the merge grants
  pub grants_after : GrantsAfter same (final pairs) tl ti (merge_tally same pairs tl ti)
  grants_after = record { granted = give; others = rest }
    where
      give : (i : ℕ) (p : Parts) → held (ti i) ≡ Some p → holds_equal same p (held (tl i)) ≡ false
          → merge_tally same pairs tl ti (final pairs i) ≡ grant (tl (final pairs i)) (renamed_policy (final pairs) p)
      give i p e n =
          ap (granted_from same (final pairs) tl ti (final pairs i)) (mv.return i (there i p e))
          ∙ (ap (merged_account same (final pairs) (tl (final pairs i)) (held (tl i))) e
          ∙ ap (λ c. cond c (tl (final pairs i)) (grant (tl (final pairs i)) (renamed_policy (final pairs) p))) n)

      rest : (k : ℕ) → ((i : ℕ) (p : Parts) → final pairs i ≡ k → held (ti i) ≡ Some p → holds_equal same p (held (tl i)) ≡ true)
          → merge_tally same pairs tl ti k ≡ tl k
      rest k n = go (origin pairs k) refl
        where
          one : (i : ℕ) (o : Option Parts) → final pairs i ≡ k → held (ti i) ≡ o → merged_account same (final pairs) (tl k) (held (tl i)) o ≡ tl k
          one i None g e = refl
          one i (Some p) g e = ap (λ c. cond c (tl k) (grant (tl k) (renamed_policy (final pairs) p))) (n i p g e)

          go : (o : Option ℕ) → origin pairs k ≡ o → granted_from same (final pairs) tl ti k o ≡ tl k
          go None e = refl
          go (Some i) e = one i (held (ti i)) (mv.there k i e) refl

-- comparing clauses of a book by their contents is symmetric and transitive
pub clauses_comparing : {C : Type 0} (equal : C → C → Bool) (cs : List (Clause C)) → DecidesEquality equal → Comparing (same_clause equal cs)
clauses_comparing {C} equal cs d = record {
  symmetric = λ m n. both (at cs m) (at cs n);
  transitive = λ l m n. all (at cs l) (at cs m) (at cs n);
}
  where
    both : (a b : Option (Clause C)) → same_content equal a b ≡ true → same_content equal b a ≡ true
    both None b h = no_true h
    both (Some a) None h = no_true h
    both (Some a) (Some b) h = d.whenever b.content a.content (sym (d.only a.content b.content h))

    all : (a b c : Option (Clause C)) → same_content equal a b ≡ true → same_content equal b c ≡ true → same_content equal a c ≡ true
    all None b c h g = no_true h
    all (Some a) None c h g = no_true h
    all (Some a) (Some b) None h g = no_true g
    all (Some a) (Some b) (Some c) h g = d.whenever a.content c.content (d.only a.content b.content h ∙ d.only b.content c.content g)
