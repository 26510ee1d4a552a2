use Rattle.std.proofs.Common.{rules, ◌≡◌, filter, map, length, ◌∙◌}
use Rattle.std.proofs.iter.runs.Made.{chains}
use Rattle.policy_set.specs.Merge.{is_more}
use Rattle.policy_set.proofs.RowCounts.{more_passed}
use Rattle.policy_set.proofs.merge.gather.count_more.Goals as goal

pub returns-clause-value : goal.returns-clause-value
returns-clause-value g c =
    let key = g.R.Keyed.naming in
    let counted : c.count.result ≡ length (filter (is_more key c.args.ids.now c.args.live.now) (map key c.args.incoming.now)) = search (rules, chains) in
    counted ∙ more_passed key c.args.ids.now c.args.live.now c.args.incoming.now
