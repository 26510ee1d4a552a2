-- One turn of a walk over the rows that pass a test.
use Rattle.std.proofs.Common.{◌≡◌, ℕ, suc, ◌+◌, ◌-◌, ◌<◌, Bool, true, false, List, ◌∷◌, length, get_or, drop, Some, filter, sym, ap, ◌∙◌, arith}
use Rattle.std.specs.List.{slice_get}
use Rattle.std.proofs.lemmas.List.{at_drop_more}
use Rattle.std.proofs.lemmas.Bool.{cond-true, cond-false}

module _ {X : Type 0} (p : X → Bool) (xs : List X) (i : ℕ) (d : X) (h : i < length xs) where
  here : p (get_or xs i d) ≡ true → filter p (drop i xs) ≡ get_or xs i d ∷ filter p (drop (i + 1) xs)
  here t = at_drop_more (filter p) xs i d h ∙ cond-true _ _ _ t

  -- a row that does not pass leaves what stands at each place
  pub passing_no : (n : ℕ) → p (get_or xs i d) ≡ false → slice_get (filter p (drop (i + 1) xs)) n ≡ slice_get (filter p (drop i xs)) n
  passing_no n t = sym (ap (λ (ys : List X). slice_get ys n) (at_drop_more (filter p) xs i d h ∙ cond-false _ _ _ t))

  -- a row that passes stands at the first place
  pub passing_here : (n : ℕ) → p (get_or xs i d) ≡ true → n ≡ 0 → slice_get (filter p (drop i xs)) n ≡ Some (get_or xs i d)
  passing_here n t z =
      ap (λ (ys : List X). slice_get ys n) (here t) ∙ ap (slice_get (get_or xs i d ∷ filter p (drop (i + 1) xs))) z

  -- and moves the other places by one
  pub passing_next : (n : ℕ) → p (get_or xs i d) ≡ true → (n ≡ 0 → ⊥) → slice_get (filter p (drop (i + 1) xs)) (n - 1) ≡ slice_get (filter p (drop i xs)) n
  passing_next n t z =
      let s : suc (n - 1) ≡ n = omega (arith, z) in
      sym (ap (λ (ys : List X). slice_get ys n) (here t) ∙ sym (ap (slice_get (get_or xs i d ∷ filter p (drop (i + 1) xs))) s))
