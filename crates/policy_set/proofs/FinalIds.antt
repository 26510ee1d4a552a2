-- Final ids: where incoming ids go, and where final ids come from.
use Rattle.std.proofs.Common.{◌≡◌, ℕ, ◌+◌, ◌≤◌, Bool, true, false, cond, not, ◌&&◌, ◌||◌, eqb, ◌⊎◌, List, [], ◌∷◌, is_some as option_is_some, Some, None, Option, sym, refl, ap, ◌∙◌, subst, inl, inr, arith}
use Rattle.std.proofs.lemmas.Bool.{not-true, and_parts}
use Rattle.policy.specs.declared.template.Template.{Template}
use Rattle.policy_set.specs.declared.rows.PolicyRow.{PolicyRow}
use Rattle.policy_set.specs.declared.rows.Renaming.{Renaming}
use Rattle.policy_set.specs.Tables.{one_if, lookup, times, Once}
use Rattle.policy_set.specs.Maps.{Maps, template_at, row_at, bound, Thing, named}
use Rattle.policy_set.specs.Maps.Thing.{nothing, template, policy}
use Rattle.policy_set.specs.Sound.{Sound}
use Rattle.policy_set.specs.Merge.{things_equal, old_id, new_id, new_or, final, old_or, origin}
use Rattle.policy_set.specs.MergeLaw.{clash, old_ids, Chosen, FinalIds}
use Rattle.policy_set.proofs.Lookups.{no_some, some_same, lookup_key, none_times, times_none, is_some, is_none}
use Rattle.policy_set.proofs.PutAll.{once_finds}
use Rattle.policy_set.proofs.Sounds.{no_true}
use Rattle.policy_set.proofs.Gathered.{itself, gathered_times}

-- what the rest needs of the pairs: f gives final ids, and back the incoming id of a final one
pub record Moves (same : ℕ → ℕ → Bool) (live incoming : Maps) (f : ℕ → ℕ) (back : ℕ → Option ℕ) : Type 0 where
  pub there : (k i : ℕ) → back k ≡ Some i → f i ≡ k
  pub return : (i : ℕ) → bound incoming i ≡ true → back (f i) ≡ Some i
  pub apart : (i : ℕ) → bound incoming i ≡ true
      → ((bound live (f i) ≡ false) × (things_equal same (named live i) (named incoming i) ≡ false))
      ⊎ ((f i ≡ i) × (things_equal same (named live i) (named incoming i) ≡ true))

times_old : (k : ℕ) (pairs : List Renaming) → times old_id k pairs ≡ times itself k (old_ids pairs)
times_old k [] = refl
times_old k (p ∷ ps) = ap (λ n. one_if (eqb p.old k) + n) (times_old k ps)

found_times : {X : Type 0} (key : X → ℕ) (k : ℕ) (xs : List X) (c : Bool) → times key k xs ≡ one_if c → option_is_some (lookup key k xs) ≡ c
found_times {X} key k xs true e = go (lookup key k xs) refl
  where
    go : (o : Option X) → lookup key k xs ≡ o → option_is_some o ≡ true
    go None q = absurd (omega (arith, times_none key k xs q))
    go (Some x) q = refl
found_times key k xs false e = ap option_is_some (none_times key k xs e)

nothing_equal : (same : ℕ → ℕ → Bool) (x : Thing) → things_equal same nothing x ≡ false
nothing_equal same nothing = refl
nothing_equal same (template t) = refl
nothing_equal same (policy p) = refl

pub unbound : (m : Maps) (k : ℕ) → bound m k ≡ false → (template_at m k ≡ None) × (row_at m k ≡ None)
unbound m k e = go (template_at m k) (row_at m k) e
  where
    go : (o : Option Template) (p : Option PolicyRow) → (option_is_some o || option_is_some p) ≡ false → (o ≡ None) × (p ≡ None)
    go None None h = (refl, refl)
    go None (Some r) h = no_true (sym h)
    go (Some t) p h = no_true (sym h)

unbound-unequal : (same : ℕ → ℕ → Bool) (m : Maps) (k : ℕ) (x : Thing) → bound m k ≡ false → things_equal same (named m k) x ≡ false
unbound-unequal same m k x e = let u = unbound m k e in rw (u.0, u.1) (nothing_equal same x)

one_le : (c : Bool) → one_if c ≤ 1
one_le true = omega arith
one_le false = omega arith

module _ (same : ℕ → ℕ → Bool) (live incoming : Maps) (pairs : List Renaming) (sl : Sound live) (si : Sound incoming) (ch : Chosen same live incoming pairs) where
  olds_times : (k : ℕ) → times old_id k pairs ≡ one_if (clash same live incoming k)
  olds_times k = times_old k pairs ∙ (ap (times itself k) ch.olds ∙ gathered_times same live incoming sl si k)

  pub olds_once : Once old_id pairs
  olds_once k = rw (olds_times k) (one_le _)

  -- an id is renamed exactly where it names unequal things
  pub renamed_clash : (k : ℕ) → option_is_some (lookup old_id k pairs) ≡ clash same live incoming k
  renamed_clash k = found_times old_id k pairs _ (olds_times k)

  origin_there : (k i : ℕ) → origin pairs k ≡ Some i → final pairs i ≡ k
  origin_there k i e = go (lookup new_id k pairs) (lookup old_id k pairs) refl refl e
    where
      go : (n o : Option Renaming) → lookup new_id k pairs ≡ n → lookup old_id k pairs ≡ o
          → old_or (cond (option_is_some o) None (Some k)) n ≡ Some i → final pairs i ≡ k
      go None None p q h = subst (λ j. final pairs j ≡ k) (some_same k i h) (ap (new_or k) q)
      go None (Some y) p q h = no_some i h
      go (Some x) o p q h =
          subst (λ j. final pairs j ≡ k) (some_same x.old i h)
          (ap (new_or x.old) (once_finds new_id old_id k pairs x olds_once p) ∙ lookup_key new_id k pairs x p)

  origin_return : (i : ℕ) → bound incoming i ≡ true → origin pairs (final pairs i) ≡ Some i
  origin_return i h = go (lookup old_id i pairs) refl
    where
      kept : (n : Option Renaming) → lookup new_id i pairs ≡ n → lookup old_id i pairs ≡ None
          → old_or (cond (option_is_some (lookup old_id i pairs)) None (Some i)) n ≡ Some i
      kept None p q = rw q
      kept (Some x) p q = no_true (sym (ch.free i x p).1 ∙ h)

      go : (o : Option Renaming) → lookup old_id i pairs ≡ o → origin pairs (new_or i o) ≡ Some i
      go None e = kept (lookup new_id i pairs) refl e
      go (Some x) e =
          ap (old_or (cond (option_is_some (lookup old_id x.new pairs)) None (Some x.new))) (once_finds old_id new_id i pairs x ch.distinct e)
          ∙ ap Some (lookup_key old_id i pairs x e)

  -- a renamed id goes to one that neither set binds
  final_new : (i : ℕ) (p : Renaming) → lookup old_id i pairs ≡ Some p → (bound live (final pairs i) ≡ false) × (bound incoming (final pairs i) ≡ false)
  final_new i p e =
      subst (λ k. (bound live k ≡ false) × (bound incoming k ≡ false)) (sym (ap (new_or i) e)) (ch.free p.new p (once_finds old_id new_id i pairs p ch.distinct e))

  final_apart : (i : ℕ) → bound incoming i ≡ true
      → ((bound live (final pairs i) ≡ false) × (things_equal same (named live i) (named incoming i) ≡ false))
      ⊎ ((final pairs i ≡ i) × (things_equal same (named live i) (named incoming i) ≡ true))
  final_apart i h = go (lookup old_id i pairs) refl
    where
      kept : (l e : Bool) → bound live i ≡ l → things_equal same (named live i) (named incoming i) ≡ e → (l && (bound incoming i && not e)) ≡ false
          → ((bound live i ≡ false) × (things_equal same (named live i) (named incoming i) ≡ false)) ⊎ ((i ≡ i) × (things_equal same (named live i) (named incoming i) ≡ true))
      kept false e p q c = inl (p, unbound-unequal same live i (named incoming i) p)
      kept true true p q c = inr (refl, q)
      kept true false p q c = let u : (true && true) ≡ false = rw h at c in no_true (sym u)

      go : (o : Option Renaming) → lookup old_id i pairs ≡ o
          → ((bound live (final pairs i) ≡ false) × (things_equal same (named live i) (named incoming i) ≡ false))
          ⊎ ((final pairs i ≡ i) × (things_equal same (named live i) (named incoming i) ≡ true))
      go None e =
          subst (λ k. ((bound live k ≡ false) × (things_equal same (named live i) (named incoming i) ≡ false)) ⊎ ((k ≡ i) × (things_equal same (named live i) (named incoming i) ≡ true)))
          (sym (ap (new_or i) e))
          (kept (bound live i) (things_equal same (named live i) (named incoming i)) refl refl (sym (renamed_clash i) ∙ ap option_is_some e))
      go (Some x) e =
          let q = things_equal same (named live i) (named incoming i) in
          let c = (and_parts (bound incoming i) (not q) (and_parts (bound live i) (bound incoming i && not q) (sym (renamed_clash i) ∙ ap option_is_some e)).1).1 in
          inl ((final_new i x e).0, not-true q c)

  pub moves : Moves same live incoming (final pairs) (origin pairs)
  moves = record { there = origin_there; return = origin_return; apart = final_apart }

  pub final_ids : FinalIds same live incoming (final pairs)
  final_ids = record {
    distinct = λ i j p q e. some_same i j (sym (origin_return i p) ∙ (ap (origin pairs) e ∙ origin_return j q));
    new = λ i c. let p = is_some (lookup old_id i pairs) (renamed_clash i ∙ c) in final_new i p.0 p.1;
    stays = λ i c. ap (new_or i) (is_none (lookup old_id i pairs) (renamed_clash i ∙ c));
  }
