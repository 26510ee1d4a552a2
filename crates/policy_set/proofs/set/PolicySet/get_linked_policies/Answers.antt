use Rattle.policy_set.proofs.Listed as listed
use Rattle.policy_set.proofs.set.PolicySet.get_linked_policies.Goals as goal

pub returns-in_err-check_name-clause-lists : goal.returns-in_err-check_name-clause-lists
returns-in_err-check_name-clause-lists c = listed.linked_policies c.args.self.now c.args.id

pub returns-then-not-has_template-clause-lists : goal.returns-then-not-has_template-clause-lists
returns-then-not-has_template-clause-lists c = listed.linked_policies c.args.self.now c.args.id

pub returns-clause-lists : goal.returns-clause-lists
returns-clause-lists c = listed.linked_policies c.args.self.now c.args.id
