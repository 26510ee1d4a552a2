-- The two bits of a slot set.
use Rattle.std.proofs.Common.{◌≡◌, ℕ, zero, suc, ◌<◌, Bool, true, false, not, ◌&&◌, ◌||◌, eqb, refl, arith}
use lib.Bits.{bit_and, bit_or, bit_xor}
use Rattle.refusals.specs.Slots.{set_of}

-- What holds of 0, 1, 2 and 3 holds of every two bits.
pub by_four : (P : ℕ → Type 0) → P 0 → P 1 → P 2 → P 3 → (n : ℕ) → n < 4 → P n
by_four P a b c d zero h = a
by_four P a b c d (suc zero) h = b
by_four P a b c d (suc (suc zero)) h = c
by_four P a b c d (suc (suc (suc zero))) h = d
by_four P a b c d (suc (suc (suc (suc n)))) h = elim (let z : ⊥ = omega arith in z) [ ]

-- Whether a bit is set.
abbrev pub bit : ℕ → ℕ → Bool
bit k n = not (eqb (bit_and n k) 0)

abbrev Union : ℕ → ℕ → Type 0
Union m n = bit_or m n ≡ (set_of (bit 1 m || bit 1 n) (bit 2 m || bit 2 n)).bits

pub union_bits : (m n : ℕ) → m < 4 → n < 4 → Union m n
union_bits m n p q =
    by_four (λ m. Union m n)
    (by_four (Union 0) refl refl refl refl n q) (by_four (Union 1) refl refl refl refl n q)
    (by_four (Union 2) refl refl refl refl n q) (by_four (Union 3) refl refl refl refl n q) m p

abbrev Minus : ℕ → ℕ → Type 0
Minus m n = bit_and m (bit_xor n 3) ≡ (set_of (bit 1 m && not (bit 1 n)) (bit 2 m && not (bit 2 n))).bits

pub minus_bits : (m n : ℕ) → m < 4 → n < 4 → Minus m n
minus_bits m n p q =
    by_four (λ m. Minus m n)
    (by_four (Minus 0) refl refl refl refl n q) (by_four (Minus 1) refl refl refl refl n q)
    (by_four (Minus 2) refl refl refl refl n q) (by_four (Minus 3) refl refl refl refl n q) m p

pub set_bits : (p r : Bool) → (bit 1 (set_of p r).bits ≡ p) × (bit 2 (set_of p r).bits ≡ r)
set_bits false false = (refl, refl)
set_bits true false = (refl, refl)
set_bits false true = (refl, refl)
set_bits true true = (refl, refl)

-- Two bits are the set of their slots.
pub bits_back : (n : ℕ) → n < 4 → n ≡ (set_of (bit 1 n) (bit 2 n)).bits
bits_back n h = by_four (λ n. n ≡ (set_of (bit 1 n) (bit 2 n)).bits) refl refl refl refl n h
