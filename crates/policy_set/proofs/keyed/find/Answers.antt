use Rattle.std.proofs.Common.{◌+◌, sym, ap, ◌∙◌, rules}
use Rattle.std.specs.Option.{option_map}
use Rattle.policy_set.proofs.Places.{has}
use Rattle.policy_set.proofs.Blocks.{behind}
use Rattle.policy_set.proofs.keyed.find.Goals as goal

pub returns-in_err-i : goal.returns-in_err-i
returns-in_err-i g c =
    let p = behind (has g.R.Keyed.naming c.args.key) c.loop-block.passed c.args.rows.now c.loop-block.rest.now c.loop-block.invariant.1 in
    let none = p ∙ ap (option_map (λ i. c.loop-block.passed + i)) (sym c.in_err-i.ensures) in
    search (rules, none)

pub returns : goal.returns
returns g c =
    let p = behind (has g.R.Keyed.naming c.args.key) c.loop-block.passed c.args.rows.now c.loop-block.rest.now c.loop-block.invariant.1 in
    sym (p ∙ ap (option_map (λ i. c.loop-block.passed + i)) (sym c.in_ok-i.ensures))
