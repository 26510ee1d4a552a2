use Rattle.std.proofs.Common.{Some, sym, ap, ◌∙◌, rules}
use Rattle.policy_set.proofs.Places.{found_at, missed_at}
use Rattle.policy_set.proofs.keyed.get.Goals as goal

pub returns-in_err-i : goal.returns-in_err-i
returns-in_err-i g c =
    let n = (missed_at g.R.Keyed.naming c.args.key c.args.rows.now (sym c.in_err-i.ensures)).none in
    search (rules, n)

pub returns : goal.returns
returns g c = ap Some c.index-rows-i.is ∙ sym ((found_at _ _ _ _ (sym c.in_ok-i.ensures)).row c.index-rows-i.result)
