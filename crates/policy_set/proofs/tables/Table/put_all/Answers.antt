use Rattle.std.proofs.Common.{◌∙◌, sym, ap, arith, rules}
use Rattle.std.proofs.lemmas.List.{drop_all}
use Rattle.policy_set.specs.Tables.{put_all}
use Rattle.policy_set.specs.Held.{rows_in}
use Rattle.policy_set.specs.Merge.{final}
use Rattle.policy_set.proofs.Turns.{put_turn, put_room}
use Rattle.policy_set.proofs.tables.Table.put_all.Goals as goal

pub loop-row-init : goal.loop-row-init
loop-row-init g c =
    ap (put_all g.R.Keyed.naming (g.R.Renamed.renamed (final c.args.pairs.now)) (rows_in c.args.self.now)) c.rows-row-items.ensures

pub put-requires : goal.put-requires
put-requires g c =
    let room = put_room g.R.Keyed.naming (g.R.Renamed.renamed (final c.args.pairs.now)) (rows_in c.loop-row.self) c.rows-row-items.result.now _
    g.row.PLACES c.loop-row.row-index c.row-item.result c.under.result c.loop-row-test.true c.row-item.is c.under.ensures
    c.loop-row.invariant c.requires in
    search (rules, room)

pub loop-row-preserved : goal.loop-row-preserved
loop-row-preserved g c =
    put_turn g.R.Keyed.naming (g.R.Renamed.renamed (final c.args.pairs.now)) (rows_in c.loop-row.self) (rows_in c.put.new.self) c.rows-row-items.result.now
    c.loop-row.row-index c.row-item.result c.under.result c.loop-row-test.true c.row-item.is c.under.ensures c.put.ensures
    ∙ c.loop-row.invariant

pub returns : goal.returns
returns g c =
    let all = put_all g.R.Keyed.naming (g.R.Renamed.renamed (final c.args.pairs.now)) (rows_in c.loop-row.self) in
    sym (ap all (drop_all c.loop-row.row-index c.rows-row-items.result.now (omega (arith, c.loop-row-test.false, c.loop-row.auto.row-index-end))))
    ∙ c.loop-row.invariant
