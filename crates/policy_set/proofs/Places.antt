-- What a search for a key finds, and what removing and putting at the place found leaves.
use Rattle.std.proofs.Common.{◌≡◌, ℕ, suc, ◌+◌, ◌-◌, ◌<◌, ◌≤◌, Bool, true, false, cond, eqb, List, [], ◌∷◌, ◌++◌, length, get_or, take, drop, is_some as option_is_some, Some, None, Option, sym, refl, ap, ◌∙◌, subst, ⊎_elim, arith}
use native.Mathlib.Nat.{sub-zero}
use Rattle.std.proofs.lemmas.Bool.{eq-eqb, eqb-true, eqb-false, cond-true, cond-false, cases_Bool, false≢true}
use Rattle.std.proofs.lemmas.List.{drop_more}
use Rattle.std.specs.List.{position_from, position}
use Rattle.std.proofs.lemmas.Iterator.Adapters.{position_from-zero}
use Rattle.policy_set.specs.Tables.{one_if, without, erase, lookup, row_last, moved_last, Once}
use Rattle.policy_set.proofs.Lookups.{no_some, is_some, lookup_key, once_tail, once_head, once_erase, lookup-erase_same, lookup-erase_other}

-- the row has the key
abbrev pub has : {X : Type 0} → (X → ℕ) → ℕ → X → Bool
has key k x = eqb (key x) k

-- what a place found says
record Hit {X : Type 0} (key : X → ℕ) (k n : ℕ) (xs : List X) (i : ℕ) : Type 0 where
  pub low : n ≤ i
  pub high : i - n < length xs
  pub erased : erase key k xs ≡ without (i - n) xs
  pub row : (d : X) → lookup key k xs ≡ Some (get_or xs (i - n) d)

hit_from : {X : Type 0} (key : X → ℕ) (k n : ℕ) (xs : List X) (i : ℕ) → position_from (has key k) n xs ≡ Some i → Hit key k n xs i
hit_from key k n [] i e = no_some i e
hit_from key k n (x ∷ xs) i e = ⊎_elim
    (λ t. let a = cond-true (eqb (key x) k) (Some n) (position_from (has key k) (n + 1) xs) t in
    let q : n ≡ i = cc in
    let z : i - n ≡ 0 = omega arith in
    record {
      low = omega arith;
      high = omega arith;
      erased = cond-true (eqb (key x) k) xs (x ∷ erase key k xs) t ∙ sym (ap (λ m. without m (x ∷ xs)) z);
      row = λ d. cond-true (eqb (key x) k) (Some x) (lookup key k xs) t ∙ sym (ap (λ m. Some (get_or (x ∷ xs) m d)) z);
    })
    (λ t. let h = hit_from key k (n + 1) xs i (sym (cond-false (eqb (key x) k) (Some n) (position_from (has key k) (n + 1) xs) t) ∙ e) in
    let m = i - (n + 1) in
    let l : n + 1 ≤ i = h.low in
    let z : i - n ≡ suc m = omega arith in
    let w : suc m + 1 ≡ suc (m + 1) = omega arith in
    record {
      low = omega arith;
      high = omega (arith, h.high);
      erased = cond-false (eqb (key x) k) xs (x ∷ erase key k xs) t
          ∙ (ap (λ ys. x ∷ ys) h.erased
          ∙ (sym (ap (λ j. x ∷ (take m xs ++ drop j (x ∷ xs))) w) ∙ sym (ap (λ j. without j (x ∷ xs)) z)));
      row = λ d. cond-false (eqb (key x) k) (Some x) (lookup key k xs) t ∙ (h.row d ∙ sym (ap (λ j. Some (get_or (x ∷ xs) j d)) z));
    })
    (cases_Bool (eqb (key x) k))

pub record Found {X : Type 0} (key : X → ℕ) (k : ℕ) (xs : List X) (i : ℕ) : Type 0 where
  pub within : i < length xs
  pub erased : erase key k xs ≡ without i xs
  pub row : (d : X) → lookup key k xs ≡ Some (get_or xs i d)

pub found_at : {X : Type 0} (key : X → ℕ) (k : ℕ) (xs : List X) (i : ℕ) → position (has key k) xs ≡ Some i → Found key k xs i
found_at key k xs i e =
    let h = hit_from key k 0 xs i (sym (position_from-zero (has key k) xs) ∙ e) in
    record {
      within = omega (arith, h.high);
      erased = h.erased ∙ ap (λ m. without m xs) (sub-zero i);
      row = λ d. h.row d ∙ ap (λ m. Some (get_or xs m d)) (sub-zero i);
    }

-- what a search that finds nothing says
pub record Missed {X : Type 0} (key : X → ℕ) (k : ℕ) (xs : List X) : Type 0 where
  pub erased : erase key k xs ≡ xs
  pub none : lookup key k xs ≡ None

missed_from : {X : Type 0} (key : X → ℕ) (k n : ℕ) (xs : List X) → position_from (has key k) n xs ≡ None → Missed key k xs
missed_from key k n [] e = record { erased = refl; none = refl }
missed_from key k n (x ∷ xs) e = ⊎_elim
    (λ t. no_some n (sym e ∙ cond-true (eqb (key x) k) (Some n) (position_from (has key k) (n + 1) xs) t))
    (λ t. let h = missed_from key k (n + 1) xs (sym (cond-false (eqb (key x) k) (Some n) (position_from (has key k) (n + 1) xs) t) ∙ e) in
    record {
      erased = cond-false (eqb (key x) k) xs (x ∷ erase key k xs) t ∙ ap (λ ys. x ∷ ys) h.erased;
      none = cond-false (eqb (key x) k) (Some x) (lookup key k xs) t ∙ h.none;
    })
    (cases_Bool (eqb (key x) k))

pub missed_at : {X : Type 0} (key : X → ℕ) (k : ℕ) (xs : List X) → position (has key k) xs ≡ None → Missed key k xs
missed_at key k xs e = missed_from key k 0 xs (sym (position_from-zero (has key k) xs) ∙ e)

-- what is left after a removal: one row fewer where the key was there
pub erased_length : {X : Type 0} (key : X → ℕ) (k : ℕ) (xs : List X) → length (erase key k xs) + one_if (option_is_some (lookup key k xs)) ≡ length xs
erased_length key k [] = refl
erased_length key k (x ∷ xs) = go (erased_length key k xs) (eqb (key x) k)
  where
    go : length (erase key k xs) + one_if (option_is_some (lookup key k xs)) ≡ length xs → (c : Bool)
        → length (cond c xs (x ∷ erase key k xs)) + one_if (option_is_some (cond c (Some x) (lookup key k xs))) ≡ suc (length xs)
    go ih true = omega arith
    go ih false = omega (arith, ih)

fewer : {X : Type 0} (key : X → ℕ) (k : ℕ) (xs : List X) (o : Option X) → lookup key k xs ≡ o → length (erase key k xs) + one_if (option_is_some o) ≡ length xs
fewer {X} key k xs o e = ap (λ (p : Option X). length (erase key k xs) + one_if (option_is_some p)) (sym e) ∙ erased_length key k xs

-- there is room for a row that is put
pub put_fits : {X : Type 0} (key : X → ℕ) (k : ℕ) (xs ys : List X) (places : ℕ) → ys ≡ erase key k xs → length xs ≤ places
    → (lookup key k xs ≡ None → length xs < places) → length ys < places
put_fits key k xs ys places a l room = go (lookup key k xs) refl
  where
    go : (o : Option _) → lookup key k xs ≡ o → length ys < places
    go None e = omega (arith, room e, fewer key k xs None e, ap length a)
    go (Some x) e = omega (arith, l, fewer key k xs (Some x) e, ap length a)

-- the row that was found is moved last
pub moved_found : {X : Type 0} (key : X → ℕ) (k : ℕ) (xs : List X) (i : ℕ) → Found key k xs i → without i xs ++ take 1 (drop i xs) ≡ moved_last key k xs
moved_found {X} key k xs i f = go (lookup key k xs) refl
  where
    go : (o : Option X) → lookup key k xs ≡ o → without i xs ++ take 1 (drop i xs) ≡ row_last key o xs
    go None e = no_some (get_or xs i (absent e)) (sym e ∙ f.row (absent e))
      where
        absent : lookup key k xs ≡ None → X
        absent q = first_of xs f.within
          where
            first_of : (ys : List X) → i < length ys → X
            first_of [] h = absurd (omega arith)
            first_of (y ∷ ys) h = y
    go (Some x) e =
        let d : drop i xs ≡ get_or xs i x ∷ drop (i + 1) xs = drop_more xs i x f.within in
        let v : get_or xs i x ≡ x = let q = f.row x in cc in
        ap (λ (ys : List X). without i xs ++ take 1 ys) d
        ∙ (ap (λ y. without i xs ++ y ∷ []) v
        ∙ ap (λ (ys : List X). ys ++ x ∷ []) (sym f.erased ∙ ap (λ j. erase key j xs) (sym (lookup_key key k xs x e))))

-- tables with the same keys are equally long
pub length_by_keys : {X Y : Type 0} (f : X → ℕ) (g : Y → ℕ) (xs : List X) (ys : List Y) → Once f xs → Once g ys
    → ((k : ℕ) → option_is_some (lookup f k xs) ≡ option_is_some (lookup g k ys)) → length xs ≡ length ys
length_by_keys f g [] [] a b same = refl
length_by_keys f g [] (y ∷ ys) a b same =
    let e : option_is_some (lookup g (g y) (y ∷ ys)) ≡ true = ap option_is_some (cond-true _ (Some y) (lookup g (g y) ys) (eq-eqb (g y) (g y) refl)) in
    absurd (false≢true (same (g y) ∙ e))
length_by_keys {X} {Y} f g (x ∷ xs) ys a b same =
    let found = is_some (lookup g (f x) ys) (sym (same (f x)) ∙ ap option_is_some (cond-true _ (Some x) (lookup f (f x) xs) (eq-eqb (f x) (f x) refl))) in
    omega (arith, length_by_keys f g xs (erase g (f x) ys) (once_tail f x xs a) (once_erase g (f x) ys b) rest, fewer g (f x) ys (Some found.0) found.1)
  where
    rest : (k : ℕ) → option_is_some (lookup f k xs) ≡ option_is_some (lookup g k (erase g (f x) ys))
    rest k = go (eqb (f x) k) refl
      where
        go : (c : Bool) → eqb (f x) k ≡ c → option_is_some (lookup f k xs) ≡ option_is_some (lookup g k (erase g (f x) ys))
        go true e =
            ap option_is_some (once_head f x xs k a e)
            ∙ sym (ap option_is_some (subst (λ j. lookup g j (erase g (f x) ys) ≡ None) (eqb-true _ _ e) (lookup-erase_same g (f x) ys b)))
        go false e =
            ap option_is_some (sym (cond-false _ (Some x) (lookup f k xs) e))
            ∙ (same k ∙ ap option_is_some (sym (lookup-erase_other g (f x) k ys (eqb-false _ _ e))))
