use Rattle.std.proofs.Common.{List, [], ◌∷◌, ◌++◌, sym, ap, ◌∙◌, arith, rules}
use Rattle.std.proofs.lemmas.List.{length-take-le}
use Rattle.policy_set.specs.Tables.{erase, lookup}
use Rattle.policy_set.specs.Held.{rows_in}
use Rattle.policy_set.proofs.Lookups.{lookup-erase_same}
use Rattle.policy_set.proofs.Places.{put_fits}
use Rattle.policy_set.proofs.tables.Table.put.Goals as goal

pub push-requires : goal.push-requires
push-requires g c =
    let naming = g.R.Keyed.naming in
    let table = c.args.self.now in
    let rows = rows_in table in
    let room = put_fits naming c.key.result rows (rows_in c.remove.new.self) g.row.PLACES c.remove.ensures
    (omega (arith, length-take-le table.used table.rows (omega arith)))
    (λ e. c.requires (ap (λ k. lookup naming k rows) (sym c.key.ensures) ∙ e)) in
    let new = ap (λ (ws : List _). lookup naming (naming c.args.row) ws) (c.remove.ensures ∙ ap (λ k. erase naming k rows) c.key.ensures)
    ∙ lookup-erase_same naming (naming c.args.row) rows table.once in
    search (rules, room, new)

pub returns : goal.returns
returns g c =
    let naming = g.R.Keyed.naming in
    c.push.ensures
    ∙ ap (λ (ws : List _). ws ++ c.args.row ∷ []) (c.remove.ensures ∙ ap (λ k. erase naming k (rows_in c.args.self.now)) c.key.ensures)
