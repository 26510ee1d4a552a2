-- What a table holds after all incoming rows were put in.
use Rattle.std.proofs.Common.{◌≡◌, ℕ, Bool, true, false, cond, eqb, List, [], ◌∷◌, is_some, Some, None, Option, sym, refl, ap, ◌∙◌}
use Rattle.std.proofs.lemmas.Bool.{eqb-true, eqb-false, eq-eqb}
use Rattle.policy_set.specs.Tables.{lookup, put_last, put_all, Once}
use Rattle.policy_set.specs.Maps.{changed}
use Rattle.policy_set.proofs.Lookups.{no_some, some_same, or_else, lookup-put, once_put, once_tail, once_head}

-- a row found by one key is found by another that no two rows share
pub once_finds : {X : Type 0} (key other : X → ℕ) (k : ℕ) (xs : List X) (x : X) → Once other xs → lookup key k xs ≡ Some x → lookup other (other x) xs ≡ Some x
once_finds key other k [] x h e = no_some x e
once_finds key other k (y ∷ xs) x h e = go (once_finds key other k xs x (once_tail other y xs h)) (eqb (key y) k) (eqb (other y) (other x)) refl e
  where
    go : (lookup key k xs ≡ Some x → lookup other (other x) xs ≡ Some x) → (b c : Bool) → eqb (other y) (other x) ≡ c
        → cond b (Some y) (lookup key k xs) ≡ Some x → cond c (Some y) (lookup other (other x) xs) ≡ Some x
    go ih true true p q = q
    go ih true false p q = absurd (eqb-false _ _ p (ap other (some_same y x q)))
    go ih false true p q = no_some x (sym (once_head other y xs (other x) h p) ∙ ih q)
    go ih false false p q = ih q

-- the first row of a table is found, and a row of the rest is there too
pub head_there : {X : Type 0} (key : X → ℕ) (x : X) (xs : List X) → is_some (lookup key (key x) (x ∷ xs)) ≡ true
head_there key x xs = rw (eq-eqb (key x) (key x) refl)

pub rest_there : {X : Type 0} (key : X → ℕ) (i : ℕ) (x : X) (xs : List X) → is_some (lookup key i xs) ≡ true → is_some (lookup key i (x ∷ xs)) ≡ true
rest_there key i x xs e = go (eqb (key x) i)
  where
    go : (b : Bool) → is_some (cond b (Some x) (lookup key i xs)) ≡ true
    go true = refl
    go false = e

-- what is found under k after all went in, where k can come from o
abbrev pub found : {X : Type 0} → (X → ℕ) → (X → X) → ℕ → List X → List X → Option ℕ → Option X
found key change k live xs None = lookup key k live
found key change k live xs (Some i) = or_else (changed change (lookup key i xs)) (lookup key k live)

-- f takes keys to new keys, and back takes each new key to the one that it came from
pub lookup_all : {X : Type 0} (key : X → ℕ) (change : X → X) (f : ℕ → ℕ) (back : ℕ → Option ℕ) (k : ℕ) (live xs : List X)
    → ((x : X) → key (change x) ≡ f (key x))
    → ((j i : ℕ) → back j ≡ Some i → f i ≡ j)
    → ((i : ℕ) → is_some (lookup key i xs) ≡ true → back (f i) ≡ Some i)
    → Once key live → Once key xs
    → lookup key k (put_all key change live xs) ≡ found key change k live xs (back k)
lookup_all key change f back k live [] keeps there return h g = go (back k)
  where
    go : (o : Option ℕ) → lookup key k live ≡ found key change k live [] o
    go None = refl
    go (Some i) = refl
lookup_all {X} key change f back k live (x ∷ xs) keeps there return h g =
    lookup_all key change f back k (put_last key (change x) live) xs keeps there
    (λ i e. return i (rest_there key i x xs e)) (once_put key live (change x) h) (once_tail key x xs g)
    ∙ go (back k) refl
  where
    mine : back (f (key x)) ≡ Some (key x)
    mine = return (key x) (head_there key x xs)

    one : (i : ℕ) (b c : Bool) → back k ≡ Some i → eqb (key x) i ≡ b → eqb (key (change x)) k ≡ c
        → or_else (changed change (lookup key i xs)) (cond c (Some (change x)) (lookup key k live))
        ≡ or_else (changed change (cond b (Some x) (lookup key i xs))) (lookup key k live)
    one i true true e p q = let n : lookup key i xs ≡ None = once_head key x xs i g p in rw n
    one i true false e p q = absurd (eqb-false _ _ q (keeps x ∙ (ap f (eqb-true _ _ p) ∙ there k i e)))
    one i false true e p q =
        let w : f (key x) ≡ k = sym (keeps x) ∙ eqb-true _ _ q in
        absurd (eqb-false _ _ p (some_same (key x) i (sym mine ∙ (ap back w ∙ e))))
    one i false false e p q = refl

    none : (c : Bool) → back k ≡ None → eqb (key (change x)) k ≡ c → cond c (Some (change x)) (lookup key k live) ≡ lookup key k live
    none true e q = no_some (key x) (sym e ∙ (ap back (sym (sym (keeps x) ∙ eqb-true _ _ q)) ∙ mine))
    none false e q = refl

    go : (o : Option ℕ) → back k ≡ o → found key change k (put_last key (change x) live) xs o ≡ found key change k live (x ∷ xs) o
    go None e = lookup-put key k live (change x) h ∙ none (eqb (key (change x)) k) e refl
    go (Some i) e = rw (lookup-put key k live (change x) h) (one i (eqb (key x) i) (eqb (key (change x)) k) e refl refl)
