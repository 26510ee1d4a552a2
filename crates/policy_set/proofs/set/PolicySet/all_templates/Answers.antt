use Rattle.policy_set.proofs.Listed as listed
use Rattle.policy_set.proofs.set.PolicySet.all_templates.Goals as goal

pub returns-clause-lists : goal.returns-clause-lists
returns-clause-lists c = listed.all_templates c.args.self.now
