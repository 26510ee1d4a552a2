-- The last two elements of a list.
use Rattle.std.proofs.Common.{◌≡◌, ◌-◌, ◌≤◌, List, [], ◌∷◌, ◌++◌, length, get_or, sym, refl, ap, ◌∙◌, append_assoc, arith, length-append}
use Rattle.std.proofs.lemmas.List.{get_or_at, get_or_push}

module _ {X : Type 0} where
  pub last_but_one : (ns f : List X) (a b d : X) → ns ≡ f ++ (a ∷ b ∷ []) → get_or ns (length ns - 2) d ≡ a
  last_but_one ns f a b d e =
      ap (λ (l : List X). get_or l (length l - 2) d) e
      ∙ get_or_at f a (b ∷ []) d (length (f ++ (a ∷ b ∷ [])) - 2) (simp length-append (omega arith))

  pub last : (ns f : List X) (a b d : X) → ns ≡ f ++ (a ∷ b ∷ []) → get_or ns (length ns - 1) d ≡ b
  last ns f a b d e =
      let g : ns ≡ (f ++ (a ∷ [])) ++ (b ∷ []) = e ∙ sym (append_assoc f (a ∷ []) (b ∷ [])) in
      ap (λ (l : List X). get_or l (length l - 1) d) g
      ∙ get_or_push (f ++ (a ∷ [])) b d (length ((f ++ (a ∷ [])) ++ (b ∷ [])) - 1) (simp length-append (omega arith))

  pub two_there : (ns f : List X) (a b : X) → ns ≡ f ++ (a ∷ b ∷ []) → 2 ≤ length ns
  two_there ns f a b e = omega (arith, ap length e, length-append f (a ∷ b ∷ []))

  -- A list that is not empty ends in an element.
  pub snoc : (x : X) (xs : List X) → (f : List X) × (y : X) × (x ∷ xs ≡ f ++ (y ∷ []))
  snoc x [] = ([], x, refl)
  snoc x (y ∷ ys) = let s = snoc y ys in (x ∷ s.0, s.1, ap (λ (l : List X). x ∷ l) s.2)
