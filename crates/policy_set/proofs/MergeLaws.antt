-- The law of a merge under new ids that are distinct and free.
use Rattle.std.proofs.Common.{ℕ, Bool, List}
use Rattle.policy_set.specs.declared.rows.Renaming.{Renaming}
use Rattle.policy_set.specs.Maps.{Maps}
use Rattle.policy_set.specs.Sound.{Sound}
use Rattle.policy_set.specs.Merge.{final, origin, merged}
use Rattle.policy_set.specs.MergeLaw.{Chosen, Merges}
use Rattle.policy_set.proofs.Gathered.{gathers}
use Rattle.policy_set.proofs.FinalIds.{moves, final_ids}
use Rattle.policy_set.proofs.NamedAfter.{names_after, rows_after}
use Rattle.policy_set.proofs.MergedSound.{sound_after}
use Rattle.policy_set.proofs.ReverseSets.{reverse_after}
use Rattle.policy_set.proofs.RowCounts.{rows_counted}

pub merges : (same : ℕ → ℕ → Bool) (live incoming : Maps) (pairs : List Renaming) → Sound live → Sound incoming → Chosen same live incoming pairs
    → Merges same live incoming (merged (final pairs) live incoming) pairs
merges same live incoming pairs sl si ch =
    let mv = moves same live incoming pairs sl si ch in
    record {
      gathers = gathers same live incoming sl si;
      chosen = ch;
      ids = final_ids same live incoming pairs sl si ch;
      names = names_after same live incoming (final pairs) (origin pairs) sl si mv;
      rows = rows_after same live incoming (final pairs) (origin pairs) sl si mv;
      reverse = reverse_after same live incoming (final pairs) (origin pairs) sl si mv;
      counts = rows_counted same live incoming pairs sl si ch;
      sound = sound_after same live incoming (final pairs) (origin pairs) sl si mv;
    }
