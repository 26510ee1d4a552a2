use Rattle.policy_set.proofs.Listed as listed
use Rattle.policy_set.proofs.set.PolicySet.policies.Goals as goal

pub returns-clause-lists : goal.returns-clause-lists
returns-clause-lists c = listed.policies c.args.self.now
