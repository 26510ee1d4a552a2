-- Texts of any bytes as words, percent-encoded.
use Rattle.std.specs.Prelude.{ℕ, ◌+◌, ◌-◌, ◌*◌, ◌/◌, ◌%◌, Bool, true, false, cond, ◌&&◌, ◌||◌, List, [], ◌∷◌, Some, None, Option, ◌==◌, nat_le, nat_lt}
use Rattle.std.specs.List.{flat_map}
use Rattle.script.specs.declared.encode.Colon.{Colon}
use Rattle.script.specs.declared.encode.Colon.TheVariants.{Coded, Plain}

-- A byte from the one to the other.
abbrev pub within : ℕ → ℕ → ℕ → Bool
within low high b = nat_le low b && nat_le b high

-- The value of a hexadecimal digit: 0 to 9, A to F, a to f.
abbrev pub hex_value : ℕ → Option ℕ
hex_value b =
    cond (within 48 57 b) (Some (b - 48)) (cond (within 65 70 b) (Some (b - 55)) (cond (within 97 102 b) (Some (b - 87)) None))

-- The byte that two digits give.
abbrev pub hex_byte : Option ℕ → Option ℕ → Option ℕ
hex_byte None low = None
hex_byte (Some high) None = None
hex_byte (Some high) (Some low) = Some (16 * high + low)

-- A byte in front of a text, where both are there.
abbrev pub put : Option ℕ → Option (List ℕ) → Option (List ℕ)
put None text = None
put (Some b) None = None
put (Some b) (Some text) = Some (b ∷ text)

-- The bytes that a word spells: `%` and two digits are one byte, and any other byte but `%` stands for itself.
abbrev pub spelled : List ℕ → Option (List ℕ)
spelled [] = Some []
spelled (b ∷ []) = cond (b == 37) None (Some (b ∷ []))
spelled (b ∷ (h ∷ [])) = cond (b == 37) None (put (Some b) (spelled (h ∷ [])))
spelled (b ∷ (h ∷ (l ∷ word))) =
    cond (b == 37) (put (hex_byte (hex_value h) (hex_value l)) (spelled word)) (put (Some b) (spelled (h ∷ (l ∷ word))))

-- The text of a word: `%` alone is the empty text, and the empty word is none.
abbrev pub decoded : List ℕ → Option (List ℕ)
decoded [] = None
decoded (b ∷ []) = cond (b == 37) (Some []) (Some (b ∷ []))
decoded (b ∷ (c ∷ word)) = spelled (b ∷ (c ∷ word))

-- Whether colons stand for themselves.
abbrev pub plain_colon : Colon → Bool
plain_colon Coded = false
plain_colon Plain = true

-- The bytes that stand for themselves: ASCII letters, digits, `_`, `.`, and colons where they are plain.
abbrev pub plain : Colon → ℕ → Bool
plain colon b =
    (within 97 122 b || (within 65 90 b || within 48 57 b)) || ((b == 95 || b == 46) || (b == 58 && plain_colon colon))

-- The hexadecimal digit of a value below 16, a capital one above 9.
abbrev pub hex_digit : ℕ → ℕ
hex_digit v = cond (nat_lt v 10) (48 + v) (55 + v)

-- A byte as it is written.
abbrev pub written : Colon → ℕ → List ℕ
written colon b = cond (plain colon b) (b ∷ []) (37 ∷ hex_digit (b / 16) ∷ hex_digit (b % 16) ∷ [])

-- A text as it is written: byte by byte, and `%` where it is empty.
abbrev pub encoded : Colon → List ℕ → List ℕ
encoded colon [] = 37 ∷ []
encoded colon (b ∷ text) = flat_map (written colon) (b ∷ text)
