use Rattle.std.proofs.Common.{◌≡◌, drop}
use Rattle.policy_set.specs.Tables.{put_all}
use Rattle.policy_set.specs.Held.{rows_in}
use Rattle.policy_set.specs.Merge.{final}
use Rattle.policy_set.proofs.tables.Table.put_all.Given as goal

-- The rows that are left, put into what is there, give what all of them put into the table give.
abbrev pub invariant-loop-row : goal.invariant-loop-row
invariant-loop-row g l =
    put_all g.R.Keyed.naming (g.R.Renamed.renamed (final l.pairs)) (rows_in l.self) (drop l.row-index l.row-items)
    ≡ put_all g.R.Keyed.naming (g.R.Renamed.renamed (final l.pairs)) (rows_in l.initial.self) (rows_in l.incoming)
