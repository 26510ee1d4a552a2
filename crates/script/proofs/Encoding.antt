-- What is written reads back.
use Rattle.std.proofs.Common.{◌≡◌, ℕ, suc, ◌+◌, ◌*◌, ◌/◌, ◌%◌, ◌<◌, Bool, true, false, cond, List, [], ◌∷◌, ◌++◌, length, get_or, Some, None, Option, refl, ap, ◌∙◌, arith}
use native.Mathlib.Nat.{div-add-mod}
use Rattle.std.specs.List.{flat_map}
use Rattle.std.proofs.lemmas.Bool.Decides.{nat_tests}
use Rattle.script.specs.declared.encode.Colon.{Colon}
use Rattle.script.specs.declared.encode.Colon.TheVariants.{Coded, Plain}
use Rattle.script.specs.Percent.{hex_value, hex_byte, put, spelled, decoded, plain, hex_digit, written, encoded}
use Rattle.script.proofs.Spelling.{spelled_other, decoded_spelled}

-- A digit that is written is ASCII.
pub hex_digit_small : (v : ℕ) → v < 16 → hex_digit v < 128
hex_digit_small v h = grind (arith, nat_tests)

-- A digit that is written has its value.
hex_value_digit : (v : ℕ) → v < 16 → hex_value (hex_digit v) ≡ Some v
hex_value_digit v h = grind (arith, nat_tests)

-- No `%` stands for itself.
plain_other : (colon : Colon) (b : ℕ) → plain colon b ≡ true → b ≡ 37 → ⊥
plain_other Coded b e f = grind (arith, nat_tests)
plain_other Plain b e f = grind (arith, nat_tests)

-- A byte that is written is the first that is read.
spelled-written : (colon : Colon) (b : ℕ) (word : List ℕ) → b < 256 → spelled (written colon b ++ word) ≡ put (Some b) (spelled word)
spelled-written colon b word h = by (plain colon b) refl where
  by : (t : Bool) → plain colon b ≡ t
      → spelled (cond t (b ∷ []) (37 ∷ hex_digit (b / 16) ∷ hex_digit (b % 16) ∷ []) ++ word) ≡ put (Some b) (spelled word)
  by true e = spelled_other b word (plain_other colon b e)
  by false e =
      let high : b / 16 < 16 = omega arith in
      let low : b % 16 < 16 = omega arith in
      let whole : 16 * (b / 16) + b % 16 ≡ b = div-add-mod b 16 in
      ap (λ (v : Option ℕ). put (hex_byte v (hex_value (hex_digit (b % 16)))) (spelled word)) (hex_value_digit (b / 16) high)
      ∙ ap (λ (v : Option ℕ). put (hex_byte (Some (b / 16)) v) (spelled word)) (hex_value_digit (b % 16) low)
      ∙ ap (λ (n : ℕ). put (Some n) (spelled word)) whole

-- A text that is written is what is read.
spelled-joined : (colon : Colon) (text : List ℕ) → ((i : ℕ) → get_or text i 0 < 256) → spelled (flat_map (written colon) text) ≡ Some text
spelled-joined colon [] h = refl
spelled-joined colon (b ∷ text) h =
    spelled-written colon b (flat_map (written colon) text) (h 0)
    ∙ ap (put (Some b)) (spelled-joined colon text (λ i. h (suc i)))

no_nothing : (word text : List ℕ) → spelled word ≡ Some text → word ≡ 37 ∷ [] → ⊥
no_nothing word text e f =
    let n : spelled word ≡ None = ap spelled f in
    let z : ◌≡◌ {A = ℕ} 0 1 = cc in
    omega arith

longer : (colon : Colon) (b : ℕ) (word : List ℕ) → 0 < length (written colon b ++ word)
longer colon b word = by (plain colon b) where
  by : (t : Bool) → 0 < length (cond t (b ∷ []) (37 ∷ hex_digit (b / 16) ∷ hex_digit (b % 16) ∷ []) ++ word)
  by true = omega arith
  by false = omega arith

-- The word of a text has the text as its meaning.
pub decoded-encoded : (colon : Colon) (text : List ℕ) → ((i : ℕ) → get_or text i 0 < 256) → decoded (encoded colon text) ≡ Some text
decoded-encoded colon [] h = refl
decoded-encoded colon (b ∷ text) h =
    let e = spelled-joined colon (b ∷ text) h in
    decoded_spelled (flat_map (written colon) (b ∷ text)) (longer colon b (flat_map (written colon) text)) (no_nothing _ (b ∷ text) e) ∙ e

-- A text that is not empty is written byte by byte.
pub encoded-joined : (colon : Colon) (text : List ℕ) → 0 < length text → encoded colon text ≡ flat_map (written colon) text
encoded-joined colon [] h = absurd (omega arith)
encoded-joined colon (b ∷ text) h = refl
