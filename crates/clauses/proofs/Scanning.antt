-- One turn of the scan of a sealed text.
use Rattle.std.proofs.Common.{◌≡◌, ℕ, ◌-◌, ◌<◌, List, [], ◌∷◌, length, get_or, take, drop, sym, ap, ◌∙◌, arith}
use lib.Bits.{bit_or, or_zero_r}
use Rattle.std.proofs.lemmas.List.{take_rest}
use Rattle.refusals.specs.declared.slots.SlotId.TheVariants.{Principal, Resource}
use Rattle.clauses.specs.declared.sealed.scanner.Scanner.{Scanner}
use Rattle.clauses.specs.Slots.{slot_set}
use Rattle.clauses.specs.Sealed.{stepped, seen, slots_seen, scanned, text_slots}
use Rattle.clauses.proofs.SlotSets.{set_or_or}

-- The slots that a scan from some state on sees.
abbrev pub slots_left : Scanner → List ℕ → ℕ
slots_left state rest = slot_set (scanned Principal state rest) (scanned Resource state rest)

turn : (n : ℕ) → n < 4 → (state : Scanner) (rest : List ℕ) → 0 < length rest
    → bit_or (bit_or n (slots_seen state rest)) (slots_left (stepped state (get_or rest 0 0)) (drop 1 rest)) ≡ bit_or n (slots_left state rest)
turn n h state [] l = absurd (omega arith)
turn n h state (b ∷ bs) l =
    set_or_or n h (seen Principal state (b ∷ bs)) (seen Resource state (b ∷ bs)) (scanned Principal (stepped state b) bs) (scanned Resource (stepped state b) bs)

-- What was seen so far and what is left give the slots of the text, turn by turn.
pub again : (n more sum : ℕ) (state next : Scanner) (rest text : List ℕ) → n < 4 → 0 < length rest
    → bit_or n (slots_left state rest) ≡ text_slots text → more ≡ slots_seen state rest → sum ≡ bit_or n more
    → next ≡ stepped state (get_or rest 0 0) → bit_or sum (slots_left next (take (length rest - 1) (drop 1 rest))) ≡ text_slots text
again n more sum state next rest text h l inv m u s =
    ap (λ (x : ℕ). bit_or x (slots_left next (take (length rest - 1) (drop 1 rest)))) u
    ∙ ap (λ (x : ℕ). bit_or (bit_or n x) (slots_left next (take (length rest - 1) (drop 1 rest)))) m
    ∙ ap (λ (x : Scanner). bit_or (bit_or n (slots_seen state rest)) (slots_left x (take (length rest - 1) (drop 1 rest)))) s
    ∙ ap (λ (x : List ℕ). bit_or (bit_or n (slots_seen state rest)) (slots_left (stepped state (get_or rest 0 0)) x)) (take_rest rest 1)
    ∙ turn n h state rest l ∙ inv

-- Nothing is left at the end.
pub over : (n : ℕ) (state : Scanner) (rest text : List ℕ) → length rest < 1 → bit_or n (slots_left state rest) ≡ text_slots text
    → n ≡ text_slots text
over n state [] text h inv = sym (or_zero_r n) ∙ inv
over n state (b ∷ bs) text h inv = absurd (omega arith)
