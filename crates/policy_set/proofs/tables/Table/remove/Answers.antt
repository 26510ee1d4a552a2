use Rattle.std.proofs.Common.{◌≡◌, ◌-◌, length, take, sym, ◌∙◌, arith, rules}
use Rattle.std.proofs.lemmas.List.{length-take-le}
use Rattle.policy_set.specs.Tables.{erase}
use Rattle.policy_set.specs.Held.{rows_in}
use Rattle.policy_set.proofs.Places.{Found, found_at, missed_at}
use Rattle.policy_set.proofs.Shifts.{removed_last}
use Rattle.policy_set.proofs.Lookups.{once_erased}
use Rattle.policy_set.proofs.Keys.{shorter_beside}
use Rattle.policy_set.proofs.tables.Table.remove.Goals.{In-Some, After-move_from}
use Rattle.policy_set.proofs.tables.Table.remove.Goals as goal

-- the place found
found : (g : _) (c : In-Some g) → Found g.R.Keyed.naming c.args.key (rows_in c.args.self.now) c.in-Some.i
found g c = found_at g.R.Keyed.naming c.args.key (rows_in c.args.self.now) c.in-Some.i (sym c.in-Some.ensures)

pub move_from-requires : goal.move_from-requires
move_from-requires g c =
    let w = (found g (goal.at.move_from-requires g c).In-Some).within in
    search (rules, w)

-- the rows that are left
left : (g : _) (c : After-move_from g)
    → take (c.move_from.new.self.used - 1) c.move_from.new.self.rows ≡ erase g.R.Keyed.naming c.args.key (rows_in c.args.self.now)
left g c =
    let table = c.args.self.now in
    let rows = rows_in table in
    let moved = c.move_from.new.self in
    let long : moved.used ≡ length rows = omega (arith, c.move_from.ensures.used, length-take-le table.used table.rows (omega arith)) in
    let f = found g (goal.at.After-move_from g c).In-Some in
    removed_last rows moved.rows moved.used c.in-Some.i f.within long c.move_from.ensures.after ∙ sym f.erased

pub invariant_of-self : goal.invariant_of-self
invariant_of-self g c =
    let moved = c.move_from.new.self in record {
      room = omega arith;
      once = once_erased g.R.Keyed.naming c.args.key (rows_in c.args.self.now) _ (left g (goal.at.invariant_of-self g c).After-move_from) c.args.self.now.once;
      beside = shorter_beside g.R.Keyed.naming moved.used (moved.used - 1) moved.keys moved.rows (omega arith) moved.beside;
    }

pub returns-in-Some : goal.returns-in-Some
returns-in-Some g c = left g (goal.at.returns-in-Some g c).After-move_from

pub returns-in_default : goal.returns-in_default
returns-in_default g c = sym (missed_at g.R.Keyed.naming c.args.key (rows_in c.args.self.now) (sym c.in_default.ensures)).erased
