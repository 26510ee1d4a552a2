-- Lookups in tables.
use Rattle.std.proofs.Common.{◌≡◌, ℕ, ◌+◌, ◌≤◌, Bool, true, false, cond, eqb, List, [], ◌∷◌, ◌++◌, take, drop, is_some as option_is_some, Some, None, Option, sym, refl, ap, ◌∙◌, subst, arith}
use Rattle.std.proofs.lemmas.Bool.{eqb-true, eqb-false, ne_eqb}
use Rattle.std.proofs.lemmas.List.{take-append-drop, drop-drop}
use Rattle.policy_set.specs.Tables.{one_if, without, lookup, erase, put_last, put_all, row_last, moved_last, times, Once}

pub no_some : {X : Type 0} {R : Type 0} (x : X) → ◌≡◌ {A = Option X} None (Some x) → R
no_some x e = let z : ◌≡◌ {A = ℕ} 0 1 = cc in absurd (omega arith)

pub some_same : {X : Type 0} (x y : X) → ◌≡◌ {A = Option X} (Some x) (Some y) → x ≡ y
some_same x y e = cc

-- the row found has the key
pub lookup_key : {X : Type 0} (key : X → ℕ) (k : ℕ) (xs : List X) (x : X) → lookup key k xs ≡ Some x → key x ≡ k
lookup_key key k [] x e = no_some x e
lookup_key key k (y ∷ xs) x e = go (lookup_key key k xs x) (eqb (key y) k) refl e
  where
    go : (lookup key k xs ≡ Some x → key x ≡ k) → (b : Bool) → eqb (key y) k ≡ b → cond b (Some y) (lookup key k xs) ≡ Some x → key x ≡ k
    go ih true p q = ap key (sym (some_same y x q)) ∙ eqb-true _ _ p
    go ih false p q = ih q

pub times_none : {X : Type 0} (key : X → ℕ) (k : ℕ) (xs : List X) → lookup key k xs ≡ None → times key k xs ≡ 0
times_none key k [] e = refl
times_none key k (y ∷ xs) e = go (times_none key k xs) (eqb (key y) k) e
  where
    go : (lookup key k xs ≡ None → times key k xs ≡ 0) → (b : Bool) → cond b (Some y) (lookup key k xs) ≡ None → one_if b + times key k xs ≡ 0
    go ih true h = no_some y (sym h)
    go ih false h = omega (arith, ih h)

pub none_times : {X : Type 0} (key : X → ℕ) (k : ℕ) (xs : List X) → times key k xs ≡ 0 → lookup key k xs ≡ None
none_times key k [] e = refl
none_times key k (y ∷ xs) e = go (none_times key k xs) (eqb (key y) k) e
  where
    go : (times key k xs ≡ 0 → lookup key k xs ≡ None) → (b : Bool) → one_if b + times key k xs ≡ 0 → cond b (Some y) (lookup key k xs) ≡ None
    go ih true h = absurd (omega arith)
    go ih false h = ih (omega arith)

-- the tail of a table
pub once_tail : {X : Type 0} (key : X → ℕ) (x : X) (xs : List X) → Once key (x ∷ xs) → Once key xs
once_tail key x xs h k = omega (arith, h k)

pub once_head : {X : Type 0} (key : X → ℕ) (x : X) (xs : List X) (k : ℕ) → Once key (x ∷ xs) → eqb (key x) k ≡ true → lookup key k xs ≡ None
once_head key x xs k h e =
    let q : one_if (eqb (key x) k) + times key k xs ≤ 1 = h k in
    let u : one_if true + times key k xs ≤ 1 = rw e at q in
    none_times key k xs (omega (arith, u))

pub times-append : {X : Type 0} (key : X → ℕ) (k : ℕ) (xs ys : List X) → times key k (xs ++ ys) ≡ times key k xs + times key k ys
times-append key k [] ys = omega arith
times-append key k (x ∷ xs) ys = omega (arith, times-append key k xs ys)

pub times_push : {X : Type 0} (key : X → ℕ) (k : ℕ) (xs : List X) (x : X) → times key k (xs ++ x ∷ []) ≡ times key k xs + one_if (eqb (key x) k)
times_push key k [] x = omega arith
times_push key k (y ∷ xs) x = omega (arith, times_push key k xs x)

pub times-erase : {X : Type 0} (key : X → ℕ) (k j : ℕ) (xs : List X) → times key k (erase key j xs) ≤ times key k xs
times-erase key k j [] = omega arith
times-erase key k j (y ∷ xs) = go (times-erase key k j xs) (eqb (key y) j)
  where
    go : times key k (erase key j xs) ≤ times key k xs → (b : Bool) → times key k (cond b xs (y ∷ erase key j xs)) ≤ one_if (eqb (key y) k) + times key k xs
    go ih true = omega arith
    go ih false = omega arith

-- appending
abbrev pub or_else : {X : Type 0} → Option X → Option X → Option X
or_else None o = o
or_else (Some x) o = Some x

pub or_none : {X : Type 0} (o : Option X) → or_else o None ≡ o
or_none None = refl
or_none (Some x) = refl

pub lookup_push : {X : Type 0} (key : X → ℕ) (k : ℕ) (xs : List X) (x : X) → lookup key k (xs ++ x ∷ []) ≡ or_else (lookup key k xs) (cond (eqb (key x) k) (Some x) None)
lookup_push key k [] x = refl
lookup_push key k (y ∷ xs) x = go (lookup_push key k xs x) (eqb (key y) k)
  where
    go : lookup key k (xs ++ x ∷ []) ≡ or_else (lookup key k xs) (cond (eqb (key x) k) (Some x) None) → (b : Bool) → cond b (Some y) (lookup key k (xs ++ x ∷ [])) ≡ or_else (cond b (Some y) (lookup key k xs)) (cond (eqb (key x) k) (Some x) None)
    go ih true = refl
    go ih false = ih

pub once_push : {X : Type 0} (key : X → ℕ) (xs : List X) (x : X) → Once key xs → lookup key (key x) xs ≡ None → Once key (xs ++ x ∷ [])
once_push key xs x h n k = rw times_push (go (eqb (key x) k) refl)
  where
    go : (b : Bool) → eqb (key x) k ≡ b → times key k xs + one_if b ≤ 1
    go true e =
        let z : times key k xs ≡ 0 = subst (λ j. times key j xs ≡ 0) (eqb-true _ _ e) (times_none key (key x) xs n) in
        omega arith
    go false e = omega (arith, h k)

-- removing
pub once_erase : {X : Type 0} (key : X → ℕ) (j : ℕ) (xs : List X) → Once key xs → Once key (erase key j xs)
once_erase key j xs h k = omega (arith, h k, times-erase key k j xs)

pub lookup-erase_same : {X : Type 0} (key : X → ℕ) (k : ℕ) (xs : List X) → Once key xs → lookup key k (erase key k xs) ≡ None
lookup-erase_same key k [] h = refl
lookup-erase_same key k (y ∷ xs) h = go (lookup-erase_same key k xs (once_tail key y xs h)) (eqb (key y) k) refl
  where
    go : lookup key k (erase key k xs) ≡ None → (b : Bool) → eqb (key y) k ≡ b → lookup key k (cond b xs (y ∷ erase key k xs)) ≡ None
    go ih true e = once_head key y xs k h e
    go ih false e = rw e ih

pub lookup-erase_other : {X : Type 0} (key : X → ℕ) (k j : ℕ) (xs : List X) → (k ≡ j → ⊥) → lookup key j (erase key k xs) ≡ lookup key j xs
lookup-erase_other key k j [] ne = refl
lookup-erase_other {X} key k j (y ∷ xs) ne = go (lookup-erase_other key k j xs ne) (eqb (key y) k) refl
  where
    go : lookup key j (erase key k xs) ≡ lookup key j xs → (b : Bool) → eqb (key y) k ≡ b → lookup key j (cond b xs (y ∷ erase key k xs)) ≡ cond (eqb (key y) j) (Some y) (lookup key j xs)
    go ih true e = let p = eqb-true _ _ e in let f : eqb (key y) j ≡ false = ne_eqb _ _ (λ q. ne (sym p ∙ q)) in rw f
    go ih false e = ap (λ (o : Option X). cond (eqb (key y) j) (Some y) o) ih

-- putting last
pub lookup-put : {X : Type 0} (key : X → ℕ) (k : ℕ) (xs : List X) (x : X) → Once key xs → lookup key k (put_last key x xs) ≡ cond (eqb (key x) k) (Some x) (lookup key k xs)
lookup-put {X} key k xs x h = lookup_push key k (erase key (key x) xs) x ∙ go (eqb (key x) k) refl
  where
    go : (b : Bool) → eqb (key x) k ≡ b → or_else (lookup key k (erase key (key x) xs)) (cond b (Some x) None) ≡ cond b (Some x) (lookup key k xs)
    go true e =
        let p : key x ≡ k = eqb-true _ _ e in
        let n : lookup key k (erase key (key x) xs) ≡ None = subst (λ j. lookup key k (erase key j xs) ≡ None) (sym p) (lookup-erase_same key k xs h) in
        rw n
    go false e = or_none _ ∙ lookup-erase_other key (key x) k xs (eqb-false _ _ e)

pub once_put : {X : Type 0} (key : X → ℕ) (xs : List X) (x : X) → Once key xs → Once key (put_last key x xs)
once_put key xs x h = once_push key (erase key (key x) xs) x (once_erase key (key x) xs h) (lookup-erase_same key (key x) xs h)

pub once_all : {X : Type 0} (key : X → ℕ) (change : X → X) (live xs : List X) → Once key live → Once key (put_all key change live xs)
once_all key change live [] h = h
once_all key change live (x ∷ xs) h = once_all key change (put_last key (change x) live) xs (once_put key live (change x) h)

-- the same of a list known by an equation
pub once_pushed : {X : Type 0} (key : X → ℕ) (xs ys : List X) (x : X) → ys ≡ xs ++ x ∷ [] → Once key xs → lookup key (key x) xs ≡ None → Once key ys
once_pushed key xs ys x e h n = subst (λ zs. Once key zs) (sym e) (once_push key xs x h n)

pub once_erased : {X : Type 0} (key : X → ℕ) (k : ℕ) (xs ys : List X) → ys ≡ erase key k xs → Once key xs → Once key ys
once_erased key k xs ys e h = subst (λ zs. Once key zs) (sym e) (once_erase key k xs h)

pub once_moved : {X : Type 0} (key : X → ℕ) (i : ℕ) (xs ys : List X) → ys ≡ without i xs ++ take 1 (drop i xs) → Once key xs → Once key ys
once_moved {X} key i xs ys e h k =
    let row = take 1 (drop i xs) in
    let behind : drop i xs ≡ row ++ drop (i + 1) xs = sym (take-append-drop 1 (drop i xs)) ∙ ap (λ (zs : List X). row ++ zs) (drop-drop 1 i xs) in
    omega (
      arith,
      h k,
      ap (times key k) e,
      times-append key k (without i xs) row,
      times-append key k (take i xs) (drop (i + 1) xs),
      ap (times key k) (sym (take-append-drop i xs)),
      times-append key k (take i xs) (drop i xs),
      ap (times key k) behind,
      times-append key k row (drop (i + 1) xs),
    )

-- what each key finds after one change
pub lookup_pushed : {X : Type 0} (key : X → ℕ) (xs : List X) (x : X) (k : ℕ) → lookup key (key x) xs ≡ None
    → lookup key k (xs ++ x ∷ []) ≡ cond (eqb (key x) k) (Some x) (lookup key k xs)
lookup_pushed {X} key xs x k n = lookup_push key k xs x ∙ go (eqb (key x) k) refl
  where
    go : (b : Bool) → eqb (key x) k ≡ b → or_else (lookup key k xs) (cond b (Some x) None) ≡ cond b (Some x) (lookup key k xs)
    go true e =
        let z : lookup key k xs ≡ None = subst (λ j. lookup key j xs ≡ None) (eqb-true _ _ e) n in
        rw z
    go false e = or_none _

pub lookup_erased : {X : Type 0} (key : X → ℕ) (a : ℕ) (xs : List X) (k : ℕ) → Once key xs
    → lookup key k (erase key a xs) ≡ cond (eqb a k) None (lookup key k xs)
lookup_erased {X} key a xs k h = go (eqb a k) refl
  where
    go : (b : Bool) → eqb a k ≡ b → lookup key k (erase key a xs) ≡ cond b None (lookup key k xs)
    go true e = subst (λ j. lookup key j (erase key a xs) ≡ None) (eqb-true _ _ e) (lookup-erase_same key a xs h)
    go false e = lookup-erase_other key a k xs (eqb-false _ _ e)

pub lookup_moved : {X : Type 0} (key : X → ℕ) (a : ℕ) (xs : List X) (k : ℕ) → Once key xs → lookup key k (moved_last key a xs) ≡ lookup key k xs
lookup_moved {X} key a xs k h = go (lookup key a xs) refl
  where
    go : (o : Option X) → lookup key a xs ≡ o → lookup key k (row_last key o xs) ≡ lookup key k xs
    go None e = refl
    go (Some x) e = lookup-put key k xs x h ∙ same (eqb (key x) k) refl
      where
        same : (b : Bool) → eqb (key x) k ≡ b → cond b (Some x) (lookup key k xs) ≡ lookup key k xs
        same true q = sym e ∙ ap (λ j. lookup key j xs) (sym (lookup_key key a xs x e) ∙ eqb-true _ _ q)
        same false q = refl

pub lookup-kept : {X : Type 0} (key : X → ℕ) (a : ℕ) (xs : List X) (k : ℕ) → lookup key k xs ≡ cond (eqb a k) (lookup key a xs) (lookup key k xs)
lookup-kept {X} key a xs k = go (eqb a k) refl
  where
    go : (b : Bool) → eqb a k ≡ b → lookup key k xs ≡ cond b (lookup key a xs) (lookup key k xs)
    go true e = ap (λ j. lookup key j xs) (sym (eqb-true _ _ e))
    go false e = refl

-- what is there, by its test
pub is_none : {X : Type 0} (o : Option X) → option_is_some o ≡ false → o ≡ None
is_none None e = refl
is_none (Some x) e = let z : ◌≡◌ {A = ℕ} 0 1 = cc in absurd (omega arith)

pub is_some : {X : Type 0} (o : Option X) → option_is_some o ≡ true → (x : X) × (o ≡ Some x)
is_some None e = let z : ◌≡◌ {A = ℕ} 0 1 = cc in absurd (omega arith)
is_some (Some x) e = (x, refl)
