use Rattle.std.proofs.Common.{rules, tests}
use Rattle.std.proofs.lemmas.Iterator.{YieldsList-from_slice}
use Rattle.std.proofs.lemmas.Iterator.Consumers.{YieldsList-from_filter, nth_from_yields_List}
use Rattle.policy_set.specs.Held.{rows_in}
use Rattle.policy_set.specs.Listing.{both_ids, is_static}
use Rattle.policy_set.proofs.Listed as listed
use Rattle.policy_set.proofs.Passes.{mapped}
use Rattle.policy_set.proofs.set.PolicySet.static_policies.Goals as goal

pub returns : goal.returns
returns c = record {
  answer =
      mapped (λ y. y.now) both_ids c.nth.result c.map.result _ _ c.map.ensures.cases (λ x y p. search (rules, tests))
      (nth_from_yields_List c.nth.result _ c.args.place c.nth.ensures.ran
      (YieldsList-from_filter _ is_static (YieldsList-from_slice (rows_in c.args.self.now.policies) cc) c.filter.ensures.closure (λ x b q k. search (rules, tests))));
  lists = listed.static_policies c.args.self.now;
}
