use Rattle.std.proofs.Common.{rules, tests, ◌∙◌}
use Rattle.std.proofs.lemmas.Iterator.{YieldsList-from_slice}
use Rattle.std.proofs.lemmas.Iterator.Search.{any_from_yields_List}
use Rattle.policy_set.specs.Held.{rows_in}
use Rattle.policy_set.specs.Answers.{is_under}
use Rattle.policy_set.proofs.Passes.{any_kept}
use Rattle.policy_set.proofs.set.PolicySet.has_members.Goals as goal

pub returns : goal.returns
returns c =
    any_from_yields_List (is_under c.args.template) _ _ c.any.result c.any.ensures.ran
    (YieldsList-from_slice (rows_in c.args.self.now.members) cc) (λ x b q k. search (rules, tests))
    ∙ any_kept (is_under c.args.template) (rows_in c.args.self.now.members)
