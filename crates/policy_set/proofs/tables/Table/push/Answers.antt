use Rattle.std.proofs.Common.{◌<◌, length, arith}
use Rattle.std.proofs.lemmas.List.{length-take-le, take_more_set}
use Rattle.policy_set.specs.Held.{rows_in}
use Rattle.policy_set.proofs.Lookups.{once_pushed}
use Rattle.policy_set.proofs.Keys.{longer_beside}
use Rattle.policy_set.proofs.tables.Table.push.Goals as goal

pub invariant_of-self : goal.invariant_of-self
invariant_of-self g c =
    let table = c.args.self.now in
    let room : table.used < length table.rows = omega (arith, c.requires.room, length-take-le table.used table.rows (omega arith)) in
    let room_keys : table.used < length table.keys = omega (arith, c.requires.room, length-take-le table.used table.rows (omega arith)) in record {
      room = omega arith;
      once = once_pushed g.R.Keyed.naming (rows_in table) _ c.args.row (take_more_set table.rows table.used c.args.row room) table.once c.requires.new;
      beside = longer_beside g.R.Keyed.naming table.used c.key.result table.keys table.rows c.args.row room_keys room c.key.ensures table.beside;
    }
