-- The index of a name book: the numbers of texts by their hashes.
use Rattle.std.specs.Prelude.{◌≡◌, ℕ, suc, ◌+◌, ◌*◌, ◌%◌, ◌<◌, ◌≤◌, List, [], ◌∷◌, length, None, Some, Option, slice_index_or}

-- A hash below 65,536 with more bytes behind it.
abbrev pub hashed : ℕ → List ℕ → ℕ
hashed value [] = value
hashed value (b ∷ text) = hashed ((31 * value + b) % 65536) text

-- The hash of a text.
abbrev pub hash : List ℕ → ℕ
hash text = hashed 0 text % 1024

-- The hash of the text of a number.
abbrev pub hash_at : List (List ℕ) → ℕ → ℕ
hash_at texts n = hash (slice_index_or texts n [])

-- One more than a number, and nought where there is none.
abbrev pub past : Option ℕ → ℕ
past None = 0
past (Some n) = suc n

-- The last number below a bound whose text has a hash, or none.
abbrev pub IsLatest : List (List ℕ) → ℕ → ℕ → Option ℕ → Type 0
IsLatest texts bound h found =
    (past found ≤ bound)
    × ((n : ℕ) → found ≡ Some n → hash_at texts n ≡ h)
    × ((k : ℕ) → k < bound → hash_at texts k ≡ h → k < past found)

-- For each hash the last number, and for each number the last one below it with the same hash.
pub record Indexes (texts : List (List ℕ)) (last before : List (Option ℕ)) : Type 0 where
  pub last_of : (h : ℕ) → h < 1024 → IsLatest texts (length texts) h (slice_index_or last h None)
  pub before_of : (n : ℕ) → n < length texts → IsLatest texts n (hash_at texts n) (slice_index_or before n None)
