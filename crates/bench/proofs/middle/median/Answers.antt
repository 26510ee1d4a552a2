-- The times in order are those that the sort leaves.
use Rattle.std.proofs.Common.{refl}
use Rattle.std.proofs.lemmas.List.Sorted.{IsNonDecreasingBy-from_sort}
use Rattle.bench.proofs.middle.median.Goals as goal

pub returns : goal.returns
returns c =
    let rising = IsNonDecreasingBy-from_sort (λ t. t) _ c.sort_unstable.ensures.sorted in
    record {
      median = record { ordered = _; same = c.sort_unstable.ensures.permutation; rising = rising; middle = refl };
      order = rising;
    }
