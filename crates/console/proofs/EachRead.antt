-- Words that are read one after another into a list.
use Rattle.std.proofs.Common.{◌≡◌, ℕ, List, [], ◌∷◌, ◌++◌, sym, refl, ap, ◌∙◌}
use Rattle.std.proofs.lemmas.List.{append_assoc}
use Rattle.console.specs.Reader.{Reading, given, wrong, refused, next, made, each}

-- The items that were read, and the words that are left, are all that is to be read.
abbrev pub Under : {X : Type 0} → (List (List ℕ) → List ℕ → Reading X) → Reading (List X) → List X → List (List ℕ) → List (List ℕ) → Type 0
Under read whole items texts words = whole ≡ made (λ xs. items ++ xs) (each read texts words)

-- One word more was read.
pub one_read : {X : Type 0} (read : List (List ℕ) → List ℕ → Reading X) (whole : Reading (List X)) (items : List X) (texts words : List (List ℕ)) (word : List ℕ) (x : X)
    (after : List (List ℕ)) → Under read whole items texts (word ∷ words) → read texts word ≡ given x after → Under read whole (items ++ x ∷ []) after words
one_read read whole items texts words word x after u e =
    u
    ∙ (ap (λ r. made (λ xs. items ++ xs) (next r (λ y us. made (λ xs. y ∷ xs) (each read us words)))) e
    ∙ onto items x (each read after words))
  where
    onto : {X : Type 0} (items : List X) (x : X) (r : Reading (List X)) → made (λ xs. items ++ xs) (made (λ xs. x ∷ xs) r) ≡ made (λ xs. (items ++ x ∷ []) ++ xs) r
    onto items x (given xs us) = ap (λ ys. given ys us) (sym (append_assoc items (x ∷ []) xs))
    onto items x (wrong us) = refl
    onto items x (refused e us) = refl
