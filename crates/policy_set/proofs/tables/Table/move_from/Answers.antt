use Rattle.std.proofs.Common.{◌≡◌, ℕ, ◌≤◌, List, length, drop, ◌++◌, map, take, sym, ap, ◌∙◌, arith}
use Rattle.std.proofs.lemmas.List.{length-take-le, take_at}
use Rattle.policy_set.specs.Tables.{without}
use Rattle.policy_set.specs.Held.{rows_in}
use Rattle.policy_set.proofs.Lookups.{once_moved}
use Rattle.policy_set.proofs.Keys.{moved_beside}
use Rattle.policy_set.proofs.tables.Table.move_from.Goals.{After-move_last-2}
use Rattle.policy_set.proofs.tables.Table.move_from.Goals as goal

-- the used places, once what stood in them was changed and is as long as before
used_places : {X : Type 0} (changed all : List X) (used : ℕ) → used ≤ length all → length changed ≡ length (take used all)
    → take used (changed ++ drop used all) ≡ changed
used_places changed all used u l = take_at changed (drop used all) used (omega (arith, l, length-take-le used all u))

-- the rows: that of the place stands last
rows_moved : (g : _) (c : After-move_last-2 g) → take c.args.self.now.used (c.move_last-2.new.rows ++ drop c.args.self.now.used c.args.self.now.rows)
    ≡ without c.args.place (rows_in c.args.self.now) ++ take 1 (drop c.args.place (rows_in c.args.self.now))
rows_moved g c =
    used_places c.move_last-2.new.rows c.args.self.now.rows c.args.self.now.used (omega arith) c.move_last-2.auto.rows ∙ c.move_last-2.ensures

pub invariant_of-self : goal.invariant_of-self
invariant_of-self g c =
    let table = c.args.self.now in
    let rows = rows_in table in
    let keys = take table.used table.keys in
    let place = c.args.place in
    let front = rows_moved g (goal.at.invariant_of-self g c).After-move_last-2 in
    let front_keys : take table.used (c.move_last.new.rows ++ drop table.used table.keys) ≡ without place keys ++ take 1 (drop place keys) =
    used_places c.move_last.new.rows table.keys table.used (omega arith) c.move_last.auto.rows ∙ c.move_last.ensures in record {
      room = table.room;
      once = once_moved g.R.Keyed.naming place rows _ front table.once;
      beside = front_keys ∙ (moved_beside g.R.Keyed.naming place keys rows table.beside ∙ ap (map g.R.Keyed.naming) (sym front));
    }

pub returns-clause-after : goal.returns-clause-after
returns-clause-after g c = rows_moved g (goal.at.returns-clause-after g c).After-move_last-2
