-- What naming a text answers and leaves, over the list of texts that a book holds.
use Rattle.std.specs.Prelude.{◌≡◌, ℕ, suc, ◌+◌, ◌<◌, ◌≤◌, Bool, true, false, cond, ◌&&◌, List, [], ◌∷◌, ◌++◌, length, Some, None, Ok, Err, Decides, Option, Result, nat_le, nat_lt, slice_index_or}
use Rattle.std.specs.Str.{bytes_eq}
use Rattle.refusals.specs.declared.refusal.Refusal.{Refusal}
use Rattle.refusals.specs.declared.refusal.Refusal.TheVariants.{UnknownName, TooLong, BookFull}

-- How much a book may hold: so many texts, of so many bytes together.
pub record Limits : Type 0 where
  pub places : ℕ
  pub room : ℕ

-- One place further on.
abbrev pub later : Option ℕ → Option ℕ
later None = None
later (Some n) = Some (suc n)

-- The number of a text: its first place in the list.
abbrev pub number_of : List ℕ → List (List ℕ) → Option ℕ
number_of text [] = None
number_of text (t ∷ ts) = cond (bytes_eq t text) (Some 0) (later (number_of text ts))

-- No text stands twice.
abbrev pub distinct : List (List ℕ) → Bool
distinct [] = true
distinct (t ∷ ts) = elim (number_of t ts) [ None ↦ distinct ts | Some n ↦ false ]

-- The items of all lists together: of texts, their bytes.
abbrev pub bytes_in : {X : Type 0} → List (List X) → ℕ
bytes_in [] = 0
bytes_in (t ∷ ts) = length t + bytes_in ts

-- Whether so many lists more, of so many items together, keep within the limits.
abbrev pub room_for : {X : Type 0} → Limits → List (List X) → ℕ → ℕ → Bool
room_for limits texts count bytes = nat_le (length texts + count) limits.places && nat_le (bytes_in texts + bytes) limits.room

-- Whether one list more keeps within the limits.
abbrev pub fits : {X : Type 0} → Limits → List (List X) → List X → Bool
fits limits texts text = room_for limits texts 1 (length text)

-- A list more gets the next number, or refusal 4.
abbrev pub enter_answer : {X : Type 0} → Limits → List (List X) → List X → Result ℕ Refusal
enter_answer limits texts text = cond (fits limits texts text) (Ok (length texts)) (Err BookFull)

-- What is held after an answer to entering: the new list last where it got a number.
abbrev pub with_entered : {X : Type 0} → Result ℕ Refusal → List X → X → List X
with_entered (Ok n) held new = held ++ (new ∷ [])
with_entered (Err refusal) held new = held

-- A number that was found, else what entering answers.
abbrev pub found_or : Option ℕ → Result ℕ Refusal → Result ℕ Refusal
found_or None entering = entering
found_or (Some n) entering = Ok n

-- What `name` answers: refusal 3 above 64 bytes; a present text's number; else the next number, or refusal 4.
abbrev pub name_answer : Limits → List (List ℕ) → List ℕ → Result ℕ Refusal
name_answer limits texts text =
    cond (nat_lt 64 (length text)) (Err (TooLong (length text))) (found_or (number_of text texts) (enter_answer limits texts text))

-- The texts and the new one, where the answer is the next number.
abbrev pub with_new : List (List ℕ) → List ℕ → Result ℕ Refusal → List (List ℕ)
with_new texts text (Err refusal) = texts
with_new texts text (Ok n) = cond (nat_lt n (length texts)) texts (texts ++ (text ∷ []))

-- The texts after `name`: a text enters only where it gets the next number.
abbrev pub name_after : Limits → List (List ℕ) → List ℕ → List (List ℕ)
name_after limits texts text = with_new texts text (name_answer limits texts text)

-- What reading a number answers: its text, or refusal 1 for a number not below the count.
abbrev pub text_answer : List (List ℕ) → ℕ → Result (List ℕ) Refusal
text_answer texts n = cond (nat_lt n (length texts)) (Ok (slice_index_or texts n [])) (Err (UnknownName n))

-- A question about the text of a number: the answer is yes exactly where P holds of the text; refusal 1 as in reading.
pub record AnswersWhether (texts : List (List ℕ)) (n : ℕ) (P : List ℕ → Type 0) (answer : Result Bool Refusal) : Type 0 where
  pub known : n < length texts → (yes : Bool) × (answer ≡ Ok yes) × Decides yes (P (slice_index_or texts n []))
  pub unknown : length texts ≤ n → answer ≡ Err (UnknownName n)

-- Numbers and texts correspond one to one: no two numbers have one text.
abbrev pub OneToOne : List (List ℕ) → Type 0
OneToOne texts = (m n : ℕ) → m < length texts → n < length texts → slice_index_or texts m [] ≡ slice_index_or texts n [] → m ≡ n

-- The laws of naming a text: `before` and `after` are the texts of the book, `answer` is what `name` answered.
pub record Naming (before after : List (List ℕ)) (text : List ℕ) (answer : Result ℕ Refusal) : Type 0 where
  -- reading the number that a text was given gives the text
  pub reads_back : (n : ℕ) → answer ≡ Ok n → (n < length after) × (slice_index_or after n [] ≡ text)
  -- every number that there was has the text that it had
  pub stays : (n : ℕ) → n < length before → (n < length after) × (slice_index_or after n [] ≡ slice_index_or before n [])
  -- and still no two numbers have one text
  pub one_to_one : OneToOne after
