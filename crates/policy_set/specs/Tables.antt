-- Tables as lists of rows that have a number as their key.
use Rattle.std.specs.Prelude.{ℕ, ◌+◌, ◌≤◌, Bool, cond, List, [], ◌∷◌, ◌++◌, length, take, drop, is_some, Some, None, Option, ◌==◌, nat_lt}

-- The first row with the key.
abbrev pub lookup : {X : Type 0} → (X → ℕ) → ℕ → List X → Option X
lookup key k [] = None
lookup key k (x ∷ xs) = cond (key x == k) (Some x) (lookup key k xs)

-- The list without the element at i.
abbrev pub without : {X : Type 0} → ℕ → List X → List X
without i xs = take i xs ++ drop (i + 1) xs

-- The list without its first row with the key; the others keep their order.
abbrev pub erase : {X : Type 0} → (X → ℕ) → ℕ → List X → List X
erase key k [] = []
erase key k (x ∷ xs) = cond (key x == k) xs (x ∷ erase key k xs)

-- Insertion puts a new or present key last, with its new row.
abbrev pub put_last : {X : Type 0} → (X → ℕ) → X → List X → List X
put_last key x xs = erase key (key x) xs ++ x ∷ []

-- Every row of the second list, changed, is put in.
abbrev pub put_all : {X : Type 0} → (X → ℕ) → (X → X) → List X → List X → List X
put_all key change live [] = live
put_all key change live (x ∷ xs) = put_all key change (put_last key (change x) live) xs

-- The row goes last again, if it is there.
abbrev pub row_last : {X : Type 0} → (X → ℕ) → Option X → List X → List X
row_last key None xs = xs
row_last key (Some x) xs = put_last key x xs

-- The row with the key is moved last.
abbrev pub moved_last : {X : Type 0} → (X → ℕ) → ℕ → List X → List X
moved_last key k xs = row_last key (lookup key k xs) xs

-- A row whose key is there keeps its record and its place; a new one goes last.
abbrev pub or_inserted : {X : Type 0} → (X → ℕ) → X → List X → List X
or_inserted key x xs = cond (is_some (lookup key (key x) xs)) xs (xs ++ x ∷ [])

-- There is room for one row more.
abbrev pub has_room : {X : Type 0} → ℕ → List X → Bool
has_room limit xs = nat_lt (length xs) limit

-- 1 for yes, 0 for no.
abbrev pub one_if : Bool → ℕ
one_if b = cond b 1 0

-- How many rows have the key.
abbrev pub times : {X : Type 0} → (X → ℕ) → ℕ → List X → ℕ
times key k [] = 0
times key k (x ∷ xs) = one_if (key x == k) + times key k xs

-- No two rows have one key.
abbrev pub Once : {X : Type 0} → (X → ℕ) → List X → Type 0
Once key xs = (k : ℕ) → times key k xs ≤ 1
