-- Sealed texts: their strings, their slots and their constants.
use Rattle.std.specs.Prelude.{◌≡◌, ℕ, Bool, true, false, cond, not, ◌&&◌, ◌||◌, List, [], ◌∷◌, ◌++◌, Some, None, codes, Option, ◌==◌, ◌≢◌}
use Rattle.std.specs.Str.{bytes_eq}
use Rattle.names.specs.TypeName.{word}
use Rattle.refusals.specs.declared.slots.SlotId.{SlotId}
use Rattle.refusals.specs.declared.slots.SlotId.TheVariants.{Principal, Resource}
use Rattle.clauses.specs.declared.sealed.scanner.Scanner.{Scanner}
use Rattle.clauses.specs.declared.sealed.scanner.Scanner.TheVariants.{Plain, String, Escaped}
use Rattle.clauses.specs.Book.{Clause}
use Rattle.clauses.specs.Slots.{slot_set}

-- What stands inside a string: a double quote (34) only behind a backslash (92), which takes the next byte with it.
pub data Inside : List ℕ → Type 0 where
  none : Inside []
  plain : {b : ℕ} {bs : List ℕ} → (b ≢ 34) → (b ≢ 92) → Inside bs → Inside (b ∷ bs)
  escaped : {b : ℕ} {bs : List ℕ} → Inside bs → Inside (92 ∷ (b ∷ bs))

-- Bytes that leave no string open: bytes that are no double quote, and strings from double quote to double quote.
pub data Closed : List ℕ → Type 0 where
  none : Closed []
  plain : {b : ℕ} {bs : List ℕ} → (b ≢ 34) → Closed bs → Closed (b ∷ bs)
  string : {inside bs : List ℕ} → Inside inside → Closed bs → Closed (34 ∷ (inside ++ (34 ∷ bs)))

-- How a slot is spelled.
abbrev pub spelling : SlotId → List ℕ
spelling Principal = codes "?principal"
spelling Resource = codes "?resource"

-- The text does not start with a letter, a digit or an underscore.
abbrev pub no_word : List ℕ → Bool
no_word [] = true
no_word (b ∷ bs) = not (word b)

-- The text has the slot: a front that leaves no string open, the slot's spelling, and a rest that starts with no letter, digit or underscore.
pub record Spells (slot : SlotId) (text : List ℕ) : Type 0 where
  pub front : List ℕ
  pub rest : List ℕ
  pub split : text ≡ front ++ (spelling slot ++ rest)
  pub outside : Closed front
  pub over : no_word rest ≡ true

-- What one byte does to the scanner.
abbrev pub stepped : Scanner → ℕ → Scanner
stepped Plain b = cond (b == 34) String Plain
stepped String b = cond (b == 34) Plain (cond (b == 92) Escaped String)
stepped Escaped b = String

-- The text starts with the spelling, and the word ends with it.
abbrev pub starts : List ℕ → List ℕ → Bool
starts [] text = no_word text
starts (s ∷ ss) [] = false
starts (s ∷ ss) (b ∷ bs) = b == s && starts ss bs

-- The same, outside strings only.
abbrev pub seen : SlotId → Scanner → List ℕ → Bool
seen slot Plain text = starts (spelling slot) text
seen slot String text = false
seen slot Escaped text = false

-- The slots that a scanner in some state sees at the start of a text.
abbrev pub slots_seen : Scanner → List ℕ → ℕ
slots_seen state text = slot_set (seen Principal state text) (seen Resource state text)

-- Whether a scan of the text from some state on sees the slot.
abbrev pub scanned : SlotId → Scanner → List ℕ → Bool
scanned slot state [] = false
scanned slot state (b ∷ bs) = seen slot state (b ∷ bs) || scanned slot (stepped state b) bs

-- The slot that stands at the start of a text.
abbrev pub slot_at_start : List ℕ → Option SlotId
slot_at_start text = cond (starts (spelling Principal) text) (Some Principal) (cond (starts (spelling Resource) text) (Some Resource) None)

-- The slots of a text.
abbrev pub text_slots : List ℕ → ℕ
text_slots text = slot_set (scanned Principal Plain text) (scanned Resource Plain text)

-- The constant of bytes exactly `true` or `false`.
abbrev pub text_constant : List ℕ → Option Bool
text_constant text = cond (bytes_eq (codes "true") text) (Some true) (cond (bytes_eq (codes "false") text) (Some false) None)

-- A text as a clause.
abbrev pub text_clause : List ℕ → Clause (List ℕ)
text_clause text = record { content = text; slots = text_slots text; constant = text_constant text }
