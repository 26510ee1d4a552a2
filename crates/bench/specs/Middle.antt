-- The middle of times.
use Rattle.std.specs.Prelude.{◌≡◌, ℕ, ◌/◌, List, length, slice_index}
use Rattle.std.specs.List.Sorted.{IsPermutation, IsNonDecreasing}

-- The time that stands in the middle once the times are in order.
pub record IsMedian (times : List ℕ) (median : ℕ) : Type 0 where
  pub ordered : List ℕ
  pub same : IsPermutation times ordered
  pub rising : IsNonDecreasing ordered
  pub middle : slice_index ordered (length ordered / 2) ≡ median
