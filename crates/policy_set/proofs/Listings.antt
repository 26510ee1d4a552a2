-- The law of a listing by places among the rows that pass a test.
use Rattle.std.proofs.Common.{◌≡◌, ℕ, zero, suc, ◌<◌, ◌≤◌, Bool, true, false, cond, eqb, List, [], ◌∷◌, Some, None, filter, Option, sym, refl, ap, ◌∙◌, arith, eq-eqb, eqb-true}
use Rattle.std.specs.List.{slice_get}
use Rattle.policy_set.specs.Tables.{lookup, one_if, times, Once}
use Rattle.policy_set.specs.declared.rows.PolicyRow.{PolicyRow}
use Rattle.policy_set.specs.Rows.{policy_id}
use Rattle.policy_set.specs.Maps.{changed}
use Rattle.policy_set.specs.Listing.{Lists, any_row, both_ids, first_id}
use Rattle.policy_set.proofs.Lookups.{no_some}
use Rattle.policy_set.proofs.Changes.{times-kept}

counted : (a b : ℕ) → a ≡ b → one_if (eqb a b) ≡ 1
counted a b e = ap one_if (eq-eqb a b e)

-- A row at a place is counted.
at-times : {X : Type 0} (key : X → ℕ) (rows : List X) (p k : ℕ) (x : X) → slice_get rows p ≡ Some x → key x ≡ k → 1 ≤ times key k rows
at-times key [] p k x e h = no_some _ e
at-times key (y ∷ rows) zero k x e h =
    let q : y ≡ x = cc in
    let c = counted (key y) k (ap key q ∙ h) in
    omega arith
at-times key (y ∷ rows) (suc p) k x e h = let r = at-times key rows p k x e h in omega arith

-- Two places of one key are counted twice.
twice : {X : Type 0} (key : X → ℕ) (rows : List X) (p q k : ℕ) (x y : X) → p < q → slice_get rows p ≡ Some x → slice_get rows q ≡ Some y
    → key x ≡ k → key y ≡ k → 2 ≤ times key k rows
twice key [] p q k x y l e f h g = no_some _ e
twice key (z ∷ rows) p zero k x y l e f h g = elim (let w : ⊥ = omega arith in w) [ ]
twice key (z ∷ rows) zero (suc q) k x y l e f h g =
    let s : z ≡ x = cc in
    let c = counted (key z) k (ap key s ∙ h) in
    let r = at-times key rows q k y f g in
    omega arith
twice key (z ∷ rows) (suc p) (suc q) k x y l e f h g =
    let r = twice key rows p q k x y (omega arith) e f h g in omega arith

-- A row at a place is the one that its key finds, where no two rows have one key.
found : {X : Type 0} (key : X → ℕ) (rows : List X) (p k : ℕ) (x : X) → times key k rows ≤ 1 → slice_get rows p ≡ Some x → key x ≡ k
    → lookup key k rows ≡ Some x
found key [] p k x o e h = no_some _ e
found key (y ∷ rows) zero k x o e h =
    let q : y ≡ x = cc in
    ap (λ (b : Bool). cond b (Some y) (lookup key k rows)) (eq-eqb (key y) k (ap key q ∙ h)) ∙ ap Some q
found key (y ∷ rows) (suc p) k x o e h = by (eqb (key y) k) refl (λ l. found key rows p k x l e h) where
  by : (b : Bool) → eqb (key y) k ≡ b → (times key k rows ≤ 1 → lookup key k rows ≡ Some x)
      → cond b (Some y) (lookup key k rows) ≡ Some x
  by true q f =
      let c = ap one_if q in
      let r = at-times key rows p k x e h in
      elim (let w : ⊥ = omega arith in w) [ ]
  by false q f = f (let c = ap one_if q in omega arith)

-- What is kept passes the test, and stands in the rows.
kept_of : {X : Type 0} (test : X → Bool) (rows : List X) (p : ℕ) (x : X) → slice_get (filter test rows) p ≡ Some x
    → (test x ≡ true) × ((q : ℕ) × (slice_get rows q ≡ Some x))
kept_of test [] p x e = no_some _ e
kept_of test (y ∷ rows) p x e = by (test y) refl p e (λ p. kept_of test rows p x) where
  by : (b : Bool) → test y ≡ b → (p : ℕ) → slice_get (cond b (y ∷ filter test rows) (filter test rows)) p ≡ Some x
      → ((p : ℕ) → slice_get (filter test rows) p ≡ Some x → (test x ≡ true) × ((q : ℕ) × (slice_get rows q ≡ Some x)))
      → (test x ≡ true) × ((q : ℕ) × (slice_get (y ∷ rows) q ≡ Some x))
  by true t zero e f = let q : y ≡ x = cc in (ap test (sym q) ∙ t, (0, ap Some q))
  by true t (suc p) e f = let r = f p e in (r.0, (suc r.1.0, r.1.1))
  by false t p e f = let r = f p e in (r.0, (suc r.1.0, r.1.1))

-- A row that is found by its key and passes the test is kept.
kept_at : {X : Type 0} (key : X → ℕ) (test : X → Bool) (rows : List X) (k : ℕ) (x : X) → lookup key k rows ≡ Some x → test x ≡ true
    → (p : ℕ) × (slice_get (filter test rows) p ≡ Some x) × (key x ≡ k)
kept_at key test [] k x e t = no_some _ e
kept_at key test (y ∷ rows) k x e t = by (eqb (key y) k) refl e (λ e. kept_at key test rows k x e t) where
  over : (b : Bool) (p : ℕ) → slice_get (filter test rows) p ≡ Some x
      → (q : ℕ) × (slice_get (cond b (y ∷ filter test rows) (filter test rows)) q ≡ Some x)
  over true p e = (suc p, e)
  over false p e = (p, e)

  by : (b : Bool) → eqb (key y) k ≡ b → cond b (Some y) (lookup key k rows) ≡ Some x
      → (lookup key k rows ≡ Some x → (p : ℕ) × (slice_get (filter test rows) p ≡ Some x) × (key x ≡ k))
      → (p : ℕ) × (slice_get (filter test (y ∷ rows)) p ≡ Some x) × (key x ≡ k)
  by true q e f =
      let s : y ≡ x = cc in (
        0,
        ap (λ (b : Bool). slice_get (cond b (y ∷ filter test rows) (filter test rows)) 0) (ap test s ∙ t) ∙ ap Some s,
        ap key (sym s) ∙ eqb-true (key y) k q,
      )
  by false q e f =
      let r = f e in
      let o = over (test y) r.0 r.1 in
      (o.0, o.1, r.2)

of_changed : {X : Type 0} (key : X → ℕ) (o : Option X) (k : ℕ) → changed key o ≡ Some k → (x : X) × (o ≡ Some x) × (key x ≡ k)
of_changed key None k e = no_some _ e
of_changed key (Some x) k e = (x, refl, let q : key x ≡ k = cc in q)

-- The law of a listing that is told place by place.
pub lists : {X : Type 0} (key : X → ℕ) (test : X → Bool) (rows : List X) (at : ℕ → Option ℕ) → Once key rows
    → ((place : ℕ) → at place ≡ changed key (slice_get (filter test rows) place)) → Lists key test rows at
lists key test rows at o says = record {
  every = λ k x e t. let r = kept_at key test rows k x e t in (r.0, says r.0 ∙ ap (changed key) r.1 ∙ ap Some r.2);
  only = λ place k e.
      let w = of_changed key (slice_get (filter test rows) place) k (sym (says place) ∙ e) in
      let r = kept_of test rows place w.0 w.1 in
      (w.0, found key rows r.1.0 k w.0 (o k) r.1.1 w.2, r.0);
  once = λ p q k e f.
      let v = of_changed key (slice_get (filter test rows) p) k (sym (says p) ∙ e) in
      let w = of_changed key (slice_get (filter test rows) q) k (sym (says q) ∙ f) in
      let l = times-kept key k test rows in
      let m = o k in
      tri p q
      (λ h. let t = twice key (filter test rows) p q k v.0 w.0 h v.1 w.1 v.2 w.2 in elim (let z : ⊥ = omega arith in z) [ ])
      (λ h. let t = twice key (filter test rows) q p k w.0 v.0 h w.1 v.1 w.2 v.2 in elim (let z : ⊥ = omega arith in z) [ ]);
}
  where
    tri : (p q : ℕ) → (p < q → p ≡ q) → (q < p → p ≡ q) → p ≡ q
    tri p q f g = search (arith, f, g)

-- Every row passes.
pub kept_all : {X : Type 0} (rows : List X) → filter any_row rows ≡ rows
kept_all [] = refl
kept_all (x ∷ rows) = ap (λ (ys : List _). x ∷ ys) (kept_all rows)

-- The place of a row in the whole list.
pub at_all : {X Y : Type 0} (f : X → Y) (rows : List X) (place : ℕ) → changed f (slice_get rows place) ≡ changed f (slice_get (filter any_row rows) place)
at_all f rows place = ap (λ (ys : List _). changed f (slice_get ys place)) (sym (kept_all rows))

-- The id of the pair of ids that a row has.
pub first_of_both : (o : Option PolicyRow) → changed first_id (changed both_ids o) ≡ changed policy_id o
first_of_both None = refl
first_of_both (Some r) = refl
