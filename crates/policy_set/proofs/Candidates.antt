-- The texts that are tried as new names.
use Rattle.std.proofs.Common.{◌≡◌, ℕ, ◌+◌, ◌/◌, ◌%◌, ◌^◌, ◌<◌, ◌≤◌, List, [], ◌∷◌, ◌++◌, decimal, sym, ap, ◌∙◌, append_assoc, arith}
use Rattle.std.proofs.lemmas.Fmt.{decimal_digit, decimal_step}

-- a text after all digits but the last, and the last one
pub digit_more : (n d : ℕ) (old front : List ℕ) → 10 ≤ n → n < 2 ^ 32 → d ≡ 48 + n % 10 → front ≡ old ++ decimal (n / 10) → front ++ d ∷ [] ≡ old ++ decimal n
digit_more n d old front h f e g =
    ap (λ (xs : List ℕ). xs ++ d ∷ []) g
    ∙ (append_assoc old (decimal (n / 10)) (d ∷ [])
    ∙ (ap (λ k. old ++ (decimal (n / 10) ++ k ∷ [])) e ∙ sym (ap (λ (xs : List ℕ). old ++ xs) (decimal_step n h (omega (arith, f))))))

pub digit_first : (n d : ℕ) (old front : List ℕ) → n < 10 → d ≡ 48 + n % 10 → front ≡ old → front ++ d ∷ [] ≡ old ++ decimal n
digit_first n d old front h e g =
    let z : d ≡ 48 + n = omega (arith, e, h) in
    ap (λ (xs : List ℕ). xs ++ d ∷ []) g
    ∙ (ap (λ k. old ++ k ∷ []) z ∙ sym (ap (λ (xs : List ℕ). old ++ xs) (decimal_digit n h)))
