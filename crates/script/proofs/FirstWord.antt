-- The first word of a line: what follows the separators at the front, up to the next separator.
use Rattle.std.proofs.Common.{◌≡◌, ℕ, suc, ◌+◌, ◌<◌, ◌≤◌, Bool, true, false, cond, not, ltb, List, [], ◌∷◌, length, take, drop, Some, None, sym, refl, ap, ◌∙◌, arith}
use Rattle.std.specs.List.{position_or_len}
use Rattle.std.specs.Option.{unwrap_or}
use Rattle.std.proofs.lemmas.Bool.Decides.{nat_tests}
use Rattle.std.proofs.lemmas.List.Recursion.{is_position_or_len}
use mathlib.Core.Bool.{beq}
use Rattle.script.specs.Words.{separates, longer, pieces, filled, words}
use Rattle.script.specs.Front.{front}

pub front-within : (s : Bool) (line : List ℕ) → front s line ≤ length line
front-within s [] = omega arith
front-within s (b ∷ bs) = by (beq (separates b) s) (front-within s bs) where
  by : (t : Bool) → front s bs ≤ length bs → cond t (suc (front s bs)) 0 ≤ suc (length bs)
  by true h = omega arith
  by false h = omega arith

-- The run ends at the first byte of the other kind.
pub front_place : (s : Bool) (line : List ℕ) → front s line ≡ position_or_len (λ b. not (beq (separates b) s)) line
front_place s line = is_position_or_len (front s) (λ b. not (beq (separates b) s)) refl (λ b bs. by (beq (separates b) s) (front s bs)) line where
  by : (t : Bool) (n : ℕ) → cond t (suc n) 0 ≡ cond (not t) 0 (1 + n)
  by true n = omega arith
  by false n = refl

-- The place of the first that passes, or the length where none does.
pub or_length : (place run length : ℕ) → run ≡ place → run ≤ length → unwrap_or (cond (ltb place length) (Some place) None) length ≡ run
or_length place run length e h = grind (arith, nat_tests)

-- The pieces of a line, by whether its first byte separates.
abbrev pieces_by : Bool → ℕ → List ℕ → List (List ℕ)
pieces_by t b bs = cond t ([] ∷ pieces bs) (longer b (pieces bs))

-- The run at its front, likewise.
abbrev front_by : Bool → Bool → List ℕ → ℕ
front_by s t bs = cond (beq t s) (suc (front s bs)) 0

-- Separators at the front make no word.
pub words_skip : (line : List ℕ) → words line ≡ words (drop (front true line) line)
words_skip [] = refl
words_skip (b ∷ bs) = by (separates b) refl (words_skip bs) where
  by : (t : Bool) → separates b ≡ t → words bs ≡ words (drop (front true bs) bs)
      → filled (pieces_by t b bs) ≡ words (drop (front_by true t bs) (b ∷ bs))
  by true e h = h
  by false e h = sym (ap (λ (t : Bool). filled (pieces_by t b bs)) e)

-- After them no separator stands first.
pub front_skip : (line : List ℕ) → front true (drop (front true line) line) ≡ 0
front_skip [] = refl
front_skip (b ∷ bs) = by (separates b) refl (front_skip bs) where
  by : (t : Bool) → separates b ≡ t → front true (drop (front true bs) bs) ≡ 0 → front true (drop (front_by true t bs) (b ∷ bs)) ≡ 0
  by true e h = h
  by false e h = ap (λ (t : Bool). front_by true t bs) e

-- What stands behind the separator that ends a piece, in pieces.
abbrev after : List ℕ → List (List ℕ)
after [] = []
after (s ∷ bs) = pieces bs

first_piece : (line : List ℕ) → pieces line ≡ take (front false line) line ∷ after (drop (front false line) line)
first_piece [] = refl
first_piece (b ∷ bs) = by (separates b) (first_piece bs) where
  by : (t : Bool) → pieces bs ≡ take (front false bs) bs ∷ after (drop (front false bs) bs)
      → pieces_by t b bs ≡ take (front_by false t bs) (b ∷ bs) ∷ after (drop (front_by false t bs) (b ∷ bs))
  by true h = refl
  by false h = ap (longer b) h

after_words : (line : List ℕ) → filled (after (drop (front false line) line)) ≡ words (drop (front false line) line)
after_words [] = refl
after_words (b ∷ bs) = by (separates b) refl (after_words bs) where
  by : (t : Bool) → separates b ≡ t → filled (after (drop (front false bs) bs)) ≡ words (drop (front false bs) bs)
      → filled (after (drop (front_by false t bs) (b ∷ bs))) ≡ words (drop (front_by false t bs) (b ∷ bs))
  by true e h = sym (ap (λ (t : Bool). filled (pieces_by t b bs)) e)
  by false e h = h

filled_first : (p : List ℕ) (ps : List (List ℕ)) → 0 < length p → filled (p ∷ ps) ≡ p ∷ filled ps
filled_first [] ps h = absurd (omega arith)
filled_first (b ∷ bs) ps h = refl

-- The bytes up to the next separator are a word, if there are any.
pub first_word : (line : List ℕ) → 0 < length (take (front false line) line)
    → words line ≡ take (front false line) line ∷ words (drop (front false line) line)
first_word line h =
    ap filled (first_piece line)
    ∙ filled_first (take (front false line) line) (after (drop (front false line) line)) h
    ∙ ap (λ (ws : List (List ℕ)). take (front false line) line ∷ ws) (after_words line)

-- If there are none, the line is empty or begins with a separator.
pub no_word : (line : List ℕ) → front true line ≡ 0 → length (take (front false line) line) ≡ 0 → line ≡ []
no_word [] e h = refl
no_word (b ∷ bs) e h = by (separates b) e h where
  by : (t : Bool) → front_by true t bs ≡ 0 → length (take (front_by false t bs) (b ∷ bs)) ≡ 0 → b ∷ bs ≡ []
  by true e h = absurd (omega arith)
  by false e h = absurd (omega arith)
