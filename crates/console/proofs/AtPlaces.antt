-- Gathering a listing place by place.
use Rattle.std.proofs.Common.{◌≡◌, ℕ, suc, ◌+◌, List, [], ◌∷◌, ◌++◌, Some, None, Option, sym, ap, ◌∙◌}
use Rattle.std.proofs.lemmas.List.{append-nil, append_assoc}
use Rattle.console.specs.Places.{and_more, at_places}

-- one place more
pub one_place : {X : Type 0} (f : ℕ → Option X) (whole items : List X) (place m n : ℕ) (x : X) → whole ≡ items ++ at_places f place m → m ≡ suc n → Some x ≡ f place
    → whole ≡ (items ++ x ∷ []) ++ at_places f (place + 1) n
one_place f whole items place m n x w e s =
    w
    ∙ (ap (λ k. items ++ at_places f place k) e
    ∙ (ap (λ o. items ++ and_more o (at_places f (place + 1) n)) (sym s)
    ∙ sym (append_assoc items (x ∷ []) (at_places f (place + 1) n))))

-- the first place where nothing is
pub last_place : {X : Type 0} (f : ℕ → Option X) (whole items : List X) (place m n : ℕ) → whole ≡ items ++ at_places f place m → m ≡ suc n → None ≡ f place → items ≡ whole
last_place f whole items place m n w e s =
    sym (w ∙ (ap (λ k. items ++ at_places f place k) e ∙ (ap (λ o. items ++ and_more o (at_places f (place + 1) n)) (sym s) ∙ append-nil items)))

-- no place is left
pub no_place : {X : Type 0} (f : ℕ → Option X) (whole items : List X) (place m : ℕ) → whole ≡ items ++ at_places f place m → m ≡ 0 → items ≡ whole
no_place f whole items place m w e = sym (w ∙ (ap (λ k. items ++ at_places f place k) e ∙ append-nil items))
