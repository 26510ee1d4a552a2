use Rattle.std.proofs.Common.{rules, ◌≡◌, length, ◌∙◌}
use Rattle.std.specs.List.{sum_by}
use Rattle.std.proofs.iter.runs.Made.{chains}
use Rattle.policy_set.specs.Choice.{candidate}
use Rattle.policy_set.proofs.NewTexts.{bytes_summed}
use Rattle.policy_set.proofs.merge.enter.text_bytes.Goals as goal

pub returns : goal.returns
returns c =
    let summed : c.sum.result ≡ sum_by (λ n. length (candidate n)) c.args.news.now = search (rules, chains) in
    summed ∙ bytes_summed c.args.news.now
