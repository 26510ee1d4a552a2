use Rattle.std.proofs.Common.{◌≡◌, ℕ, ◌/◌, ◌%◌, ◌<◌, Bool, false, cond, List, [], ◌∷◌, ◌++◌, is_ok, IfOk, Ok, Err, string_bytes, Result, sym, ap, ◌∙◌, append_assoc, arith}
use Rattle.script.specs.declared.encode.Colon.{Colon}
use Rattle.script.specs.Percent.{plain, hex_digit, written}
use Rattle.script.proofs.Encoding.{hex_digit_small}
use Rattle.script.proofs.encode.push_byte.Goals as goal

-- A character below 128 is one byte.
one : (c d : ℕ) (bytes : List ℕ) → c ≡ d → d < 128 → (c < 128 → bytes ≡ c ∷ []) → bytes ≡ d ∷ []
one c d bytes e h f = f (omega arith) ∙ ap (λ (x : ℕ). x ∷ []) e

-- `%` and two digits, one behind the other, are the byte as it is written.
coded : {T E : Type 0} (r : Result T E) (colon : Colon) (b : ℕ) (start s t u o p q : List ℕ) → plain colon b ≡ false → s ≡ start ++ o → o ≡ 37 ∷ []
    → t ≡ s ++ p → p ≡ hex_digit (b / 16) ∷ [] → u ≡ cond (is_ok r) (t ++ q) t → q ≡ hex_digit (b % 16) ∷ [] → IfOk r (λ _. u ≡ start ++ written colon b)
coded (Err e) colon b start s t u o p q n f a g h k l = tt
coded (Ok x) colon b start s t u o p q n f a g h k l =
    let w : written colon b ≡ 37 ∷ hex_digit (b / 16) ∷ hex_digit (b % 16) ∷ [] =
    ap (λ (t : Bool). cond t (b ∷ []) (37 ∷ hex_digit (b / 16) ∷ hex_digit (b % 16) ∷ [])) n in
    let v : (start ++ (37 ∷ [])) ++ (hex_digit (b / 16) ∷ []) ++ (hex_digit (b % 16) ∷ []) ≡ start ++ (37 ∷ hex_digit (b / 16) ∷ hex_digit (b % 16) ∷ []) =
    simp append_assoc in
    cc

pub returns : goal.returns
returns c =
    let high : c.args.byte / 16 < 16 = omega (arith, c.ranges.byte.fits) in
    let low : c.args.byte % 16 < 16 = omega arith in
    coded c.push-4.result c.args.colon c.args.byte (string_bytes c.args.word.now) (string_bytes c.push-2.new.self)
    (string_bytes c.push-3.new.self) (string_bytes c.push-4.new.self) _ _ _ (sym c.is_plain.ensures ∙ c.if-is_plain.false)
    c.in_ok-push.ensures.bytes
    (c.push-2.ensures.ascii (omega arith))
    c.in_ok-push-2.ensures.bytes
    (one _ _ _ (c.from-2.ensures ∙ c.hex_digit.ensures) (hex_digit_small _ high) c.push-3.ensures.ascii)
    c.push-4.ensures.bytes
    (one _ _ _ (c.from-3.ensures ∙ c.hex_digit-2.ensures) (hex_digit_small _ low) c.push-4.ensures.ascii)
