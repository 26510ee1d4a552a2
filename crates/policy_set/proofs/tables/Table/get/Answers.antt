use Rattle.std.proofs.Common.{List, get_or, Some, sym, ap, ◌∙◌, rules}
use Rattle.policy_set.specs.Held.{rows_in}
use Rattle.policy_set.proofs.Places.{found_at, missed_at}
use Rattle.policy_set.proofs.tables.Table.get.Goals as goal

pub returns-in_err-i : goal.returns-in_err-i
returns-in_err-i g c =
    let n = (missed_at g.R.Keyed.naming c.args.key (rows_in c.args.self.now) (sym c.in_err-i.ensures)).none in
    search (rules, n)

pub returns : goal.returns
returns g c =
    let i = c.in_ok-i.i in
    let row = c.index-rows-i.result in
    ap Some (c.index-rows-i.is ∙ ap (λ (rows : List _). get_or rows i row) c.rows.ensures)
    ∙ sym ((found_at g.R.Keyed.naming c.args.key (rows_in c.args.self.now) i (sym c.in_ok-i.ensures)).row row)
