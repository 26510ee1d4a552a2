-- The new ids that are chosen: distinct, taken by neither set, and never out of reach.
use Rattle.std.proofs.Common.{◌≡◌, unwrap_or, ℕ, zero, suc, ◌+◌, ◌-◌, ◌^◌, ◌<◌, ◌≤◌, Bool, true, false, cond, not, eqb, ◌⊎◌, List, [], ◌∷◌, length, drop, is_some, Some, None, Option, sym, refl, ap, ◌∙◌, subst, inl, inr, arith}
use Rattle.std.proofs.lemmas.Bool.{eqb-true, or_parts}
use Rattle.std.proofs.lemmas.Fmt.{decimal_injective}
use Rattle.names.specs.Names.{number_of}
use Rattle.names.proofs.Names.{number_reads}
use Rattle.policy_set.specs.declared.rows.Renaming.{Renaming}
use Rattle.policy_set.specs.declared.merge.attempt.Try.{Try}
use Rattle.policy_set.specs.Tables.{one_if, lookup, times, Once}
use Rattle.policy_set.specs.Maps.{Maps, bound}
use Rattle.policy_set.specs.Merge.{gathered, new_id}
use Rattle.policy_set.specs.MergeLaw.{old_ids, Chosen}
use Rattle.policy_set.specs.Choice.{candidate, attempt, first_free, after_these, pair, choose, taken_by}
use Rattle.policy_set.proofs.Lookups.{no_some, some_same, times_none}

-- distinct counters have distinct texts
pub same_candidate : (c d : ℕ) → c < 2 ^ 64 → d < 2 ^ 64 → candidate c ≡ candidate d → c ≡ d
unfolding candidate
same_candidate c d h g e = decimal_injective c d h g (ap (drop 6) e)

-- what the number of a counter's text says
pub number_below : (texts : List (List ℕ)) (c m : ℕ) → number_of (candidate c) texts ≡ Some m → m < length texts
number_below texts c m e = (number_reads (candidate c) texts m e).0

pub number_apart : (texts : List (List ℕ)) (c d m : ℕ) → c < 2 ^ 64 → d < 2 ^ 64 → number_of (candidate c) texts ≡ Some m → number_of (candidate d) texts ≡ Some m → c ≡ d
number_apart texts c d m h g e f = same_candidate c d h g (sym (number_reads (candidate c) texts m e).1 ∙ (number_reads (candidate d) texts m f).1)

-- a search stops at the text of a counter
pub record Got (texts : List (List ℕ)) (taken : ℕ → Bool) (tries fresh c : ℕ) (t : Try) : Type 0 where
  pub at : ℕ
  pub low : c ≤ at
  pub high : at < c + tries
  pub is : attempt texts fresh at ≡ t
  pub free : taken t.name ≡ false

pub got : (texts : List (List ℕ)) (taken : ℕ → Bool) (tries fresh c : ℕ) (t : Try) → first_free texts taken tries fresh c ≡ Some t → Got texts taken tries fresh c t
got texts taken zero fresh c t e = no_some t e
got texts taken (suc tries) fresh c t e = go (got texts taken tries fresh (c + 1) t) (taken (attempt texts fresh c).name) refl e
  where
    go : (first_free texts taken tries fresh (c + 1) ≡ Some t → Got texts taken tries fresh (c + 1) t) → (x : Bool) → taken (attempt texts fresh c).name ≡ x
        → cond x (first_free texts taken tries fresh (c + 1)) (Some (attempt texts fresh c)) ≡ Some t → Got texts taken (suc tries) fresh c t
    go ih true p q =
        let g = ih q in
        record { at = g.at; low = omega (arith, g.low); high = omega (arith, g.high); is = g.is; free = g.free }
    go ih false p q =
        let e = some_same (attempt texts fresh c) t q in
        record { at = c; low = omega arith; high = omega arith; is = e; free = ap (λ (u : Try). taken u.name) (sym e) ∙ p }

-- its text is in the book, or it gets the next number
pub data Kind (texts : List (List ℕ)) (fresh c : ℕ) (t : Try) : Type 0 where
  present : number_of (candidate c) texts ≡ Some t.name → t.counter ≡ c + 1 → t.fresh ≡ fresh → Kind texts fresh c t
  new : number_of (candidate c) texts ≡ None → t.name ≡ length texts + fresh → t.counter ≡ c + 1 → t.fresh ≡ fresh + 1 → Kind texts fresh c t

pub kind : (texts : List (List ℕ)) (fresh c : ℕ) (t : Try) → attempt texts fresh c ≡ t → Kind texts fresh c t
kind texts fresh c t e = subst (Kind texts fresh c) e (go (number_of (candidate c) texts) refl)
  where
    go : (o : Option ℕ) → number_of (candidate c) texts ≡ o
        → Kind texts fresh c (record { name = unwrap_or o (length texts + fresh); counter = c + 1; fresh = fresh + one_if (not (is_some o)) })
    go None p = new p refl refl refl
    go (Some m) p = present p refl (omega arith)

-- a number that can still be chosen from here
Later : List (List ℕ) → ℕ → ℕ → ℕ → ℕ → Type 0
Later texts limit fresh c k = ((d : ℕ) × (c ≤ d) × (d < limit) × (number_of (candidate d) texts ≡ Some k)) ⊎ ((m : ℕ) × (fresh ≤ m) × (k ≡ length texts + m))

module _ (texts : List (List ℕ)) (taken : ℕ → Bool) (limit : ℕ) (small : limit ≤ 2 ^ 64) where
  -- what is chosen is not chosen again
  not_later : (fresh c : ℕ) (t : Try) → c < limit → Kind texts fresh c t → Later texts limit t.fresh t.counter t.name → ⊥
  unfolding Later
  not_later fresh c t h (present p q r) (inl l) =
      let e : c ≡ l.0 = number_apart texts c l.0 t.name (omega arith) (omega (arith, l.2)) p l.3 in
      omega (arith, l.1)
  not_later fresh c t h (new p n q r) (inl l) = omega (arith, number_below texts l.0 t.name l.3)
  not_later fresh c t h (present p q r) (inr l) = omega (arith, number_below texts c t.name p, l.2)
  not_later fresh c t h (new p n q r) (inr l) = omega (arith, l.1, l.2)

  later_more : (fresh d c : ℕ) (t : Try) → d ≤ c → Kind texts fresh c t → (k : ℕ) → Later texts limit t.fresh t.counter k → Later texts limit fresh d k
  unfolding Later
  later_more fresh d c t h (present p q r) k (inl l) = inl (l.0, omega (arith, l.1), l.2, l.3)
  later_more fresh d c t h (new p n q r) k (inl l) = inl (l.0, omega (arith, l.1), l.2, l.3)
  later_more fresh d c t h (present p q r) k (inr l) = inr (l.0, omega (arith, l.1), l.2)
  later_more fresh d c t h (new p n q r) k (inr l) = inr (l.0, omega (arith, l.1), l.2)

  later_now : (fresh d c : ℕ) (t : Try) → d ≤ c → c < limit → Kind texts fresh c t → Later texts limit fresh d t.name
  unfolding Later
  later_now fresh d c t h l (present p q r) = inl (c, h, l, p)
  later_now fresh d c t h l (new p n q r) = inr (fresh, omega arith, n)

  record Good (fresh c : ℕ) (is : List ℕ) (ps : List Renaming) : Type 0 where
    olds : old_ids ps ≡ is
    once : Once new_id ps
    each : (k : ℕ) (p : Renaming) → lookup new_id k ps ≡ Some p → (taken k ≡ false) × Later texts limit fresh c k

  -- one choice before the others
  good_more : (fresh c i : ℕ) (is : List ℕ) (t : Try) (qs : List Renaming) → Got texts taken (limit - c) fresh c t → Good t.fresh t.counter is qs
      → Good fresh c (i ∷ is) (pair i t.name ∷ qs)
  good_more fresh c i is t qs g h = record {
    olds = ap (λ (l : List ℕ). i ∷ l) h.olds;
    once = λ k. one k (eqb t.name k) refl;
    each = λ k p. look k p (eqb t.name k) refl;
  }
    where
      here : Kind texts fresh g.at t
      here = kind texts fresh g.at t g.is

      absent : lookup new_id t.name qs ≡ None
      absent = none (lookup new_id t.name qs) refl
        where
          none : (o : Option Renaming) → lookup new_id t.name qs ≡ o → o ≡ None
          none None d = refl
          none (Some p) d = absurd (not_later fresh g.at t (omega (arith, g.high)) here (h.each t.name p d).1)

      one : (k : ℕ) (x : Bool) → eqb t.name k ≡ x → one_if x + times new_id k qs ≤ 1
      one k true d =
          let z : times new_id k qs ≡ 0 = times_none new_id k qs (subst (λ j. lookup new_id j qs ≡ None) (eqb-true t.name k d) absent) in
          omega arith
      one k false d = omega (arith, h.once k)

      look : (k : ℕ) (p : Renaming) (x : Bool) → eqb t.name k ≡ x → cond x (Some (pair i t.name)) (lookup new_id k qs) ≡ Some p
          → (taken k ≡ false) × Later texts limit fresh c k
      look k p true d q = subst (λ j. (taken j ≡ false) × Later texts limit fresh c j) (eqb-true t.name k d) (g.free, later_now fresh c g.at t g.low (omega (arith, g.high)) here)
      look k p false d q = let r = h.each k p q in (r.0, later_more fresh c g.at t g.low here k r.1)

  good : (fresh c : ℕ) (is : List ℕ) (ps : List Renaming) → choose texts taken limit fresh c is ≡ Some ps → Good fresh c is ps
  good fresh c [] ps e = subst (Good fresh c []) (some_same [] ps e) record { olds = refl; once = λ k. omega arith; each = λ k p h. no_some p h }
  good fresh c (i ∷ is) ps e = go (λ f d qs q. good f d is qs q) (first_free texts taken (limit - c) fresh c) refl e
    where
      next : (t : Try) → Got texts taken (limit - c) fresh c t → ((qs : List Renaming) → choose texts taken limit t.fresh t.counter is ≡ Some qs → Good t.fresh t.counter is qs)
          → (o : Option (List Renaming)) → choose texts taken limit t.fresh t.counter is ≡ o → after_these (pair i t.name ∷ []) o ≡ Some ps → Good fresh c (i ∷ is) ps
      next t g ih None d q = no_some ps q
      next t g ih (Some qs) d q = subst (Good fresh c (i ∷ is)) (some_same (pair i t.name ∷ qs) ps q) (good_more fresh c i is t qs g (ih qs d))

      go : ((f d : ℕ) (qs : List Renaming) → choose texts taken limit f d is ≡ Some qs → Good f d is qs) → (o : Option Try) → first_free texts taken (limit - c) fresh c ≡ o
          → elim o [ None ↦ None | Some t ↦ after_these (pair i t.name ∷ []) (choose texts taken limit t.fresh t.counter is) ] ≡ Some ps → Good fresh c (i ∷ is) ps
      go ih None p q = no_some ps q
      go ih (Some t) p q = next t (got texts taken (limit - c) fresh c t p) (ih t.fresh t.counter) (choose texts taken limit t.fresh t.counter is) refl q

-- what is chosen is distinct, and bound in neither set
pub chosen : (texts : List (List ℕ)) (limit : ℕ) → limit ≤ 2 ^ 64 → (same : ℕ → ℕ → Bool) (live incoming : Maps) (pairs : List Renaming)
    → choose texts (taken_by live incoming) limit 0 0 (gathered same live incoming) ≡ Some pairs → Chosen same live incoming pairs
chosen texts limit small same live incoming pairs e =
    let g = good texts (taken_by live incoming) limit small 0 0 (gathered same live incoming) pairs e in
    record { olds = g.olds; distinct = g.once; free = λ k p h. or_parts (bound live k) (bound incoming k) (g.each k p h).0 }
