use Rattle.std.proofs.Common.{sym, ap, ◌∙◌, rules}
use Rattle.policy_set.specs.Tables.{row_last}
use Rattle.policy_set.specs.Held.{rows_in}
use Rattle.policy_set.proofs.Places.{Found, found_at, missed_at, moved_found}
use Rattle.policy_set.proofs.tables.Table.move_last.Goals.{In-Some}
use Rattle.policy_set.proofs.tables.Table.move_last.Goals as goal

-- the place found
found : (g : _) (c : In-Some g) → Found g.R.Keyed.naming c.args.key (rows_in c.args.self.now) c.in-Some.i
found g c = found_at g.R.Keyed.naming c.args.key (rows_in c.args.self.now) c.in-Some.i (sym c.in-Some.ensures)

pub move_from-requires : goal.move_from-requires
move_from-requires g c =
    let w = (found g (goal.at.move_from-requires g c).In-Some).within in
    search (rules, w)

pub returns-in-Some : goal.returns-in-Some
returns-in-Some g c =
    c.move_from.ensures.after
    ∙ moved_found g.R.Keyed.naming c.args.key (rows_in c.args.self.now) c.in-Some.i (found g (goal.at.returns-in-Some g c).In-Some)

pub returns-in_default : goal.returns-in_default
returns-in_default g c =
    let rows = rows_in c.args.self.now in
    sym (ap (λ o. row_last g.R.Keyed.naming o rows) (missed_at g.R.Keyed.naming c.args.key rows (sym c.in_default.ensures)).none)
