-- A search that goes on behind rows that were passed.
use Rattle.std.proofs.Common.{◌≡◌, ℕ, suc, ◌+◌, Bool, true, false, cond, ◌||◌, List, [], ◌∷◌, ◌++◌, length, Some, sym, refl, ap, ◌∙◌, subst, arith}
use Rattle.std.proofs.lemmas.Bool.{false≢true}
use Rattle.std.specs.List.{position_from, position, list_any}
use Rattle.std.specs.Option.{option_map}
use Rattle.std.proofs.lemmas.Iterator.Adapters.{position_from-zero}

module _ {X : Type 0} (test : X → Bool) where
  -- rows without the key are passed
  pub passed_by : (n : ℕ) (xs ys : List X) → list_any test xs ≡ false → position_from test n (xs ++ ys) ≡ position_from test (n + length xs) ys
  passed_by n [] ys h = ap (λ m. position_from test m ys) (omega arith)
  passed_by n (x ∷ xs) ys h = go (passed_by (n + 1) xs ys) (test x) h
    where
      go : (list_any test xs ≡ false → position_from test (n + 1) (xs ++ ys) ≡ position_from test (n + 1 + length xs) ys) → (b : Bool)
          → (b || list_any test xs) ≡ false → cond b (Some n) (position_from test (n + 1) (xs ++ ys)) ≡ position_from test (n + suc (length xs)) ys
      go ih true e = absurd (false≢true (sym e))
      go ih false e = ih e ∙ ap (λ m. position_from test m ys) (omega arith)

module _ {X : Type 0} (test : X → Bool) (n : ℕ) where
  -- places from n on are those from 0 on, n further
  shifted : (m : ℕ) (xs : List X) → position_from test (n + m) xs ≡ option_map (λ i. n + i) (position_from test m xs)
  shifted m [] = refl
  shifted m (x ∷ xs) =
      let e : n + (m + 1) ≡ n + m + 1 = omega arith in
      go (test x) (subst (λ k. position_from test k xs ≡ option_map (λ i. n + i) (position_from test (m + 1) xs)) e (shifted (m + 1) xs))
    where
      go : (b : Bool) → position_from test (n + m + 1) xs ≡ option_map (λ i. n + i) (position_from test (m + 1) xs)
          → cond b (Some (n + m)) (position_from test (n + m + 1) xs) ≡ option_map (λ i. n + i) (cond b (Some m) (position_from test (m + 1) xs))
      go true h = refl
      go false h = h

  -- where n rows were passed, the place among the rest is n less
  pub behind : (rows rest : List X) → position_from test n rest ≡ position_from test 0 rows
      → position test rows ≡ option_map (λ i. n + i) (position test rest)
  behind rows rest h =
      let e : n + 0 ≡ n = omega arith in
      position_from-zero test rows
      ∙ (sym h
      ∙ (subst (λ k. position_from test k rest ≡ option_map (λ i. n + i) (position_from test 0 rest)) e (shifted 0 rest)
      ∙ ap (option_map (λ i. n + i)) (sym (position_from-zero test rest))))
