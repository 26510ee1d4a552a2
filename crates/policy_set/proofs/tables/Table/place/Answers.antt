use Rattle.std.proofs.Common.{take, ◌∙◌}
use Rattle.policy_set.specs.Held.{rows_in}
use Rattle.policy_set.proofs.Keys.{found_by_keys}
use Rattle.policy_set.proofs.tables.Table.place.Goals as goal

pub returns : goal.returns
returns g c =
    let table = c.args.self.now in
    c.find.ensures ∙ found_by_keys g.R.Keyed.naming c.args.key (take table.used table.keys) (rows_in table) table.beside
