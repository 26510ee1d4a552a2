use Rattle.policy_set.proofs.Sets.{sound}
use Rattle.policy_set.proofs.set.PolicySet.get.Goals as goal

pub returns-in_err-check_name-clause-sound : goal.returns-in_err-check_name-clause-sound
returns-in_err-check_name-clause-sound c = sound c.args.self.now

pub returns-clause-sound : goal.returns-clause-sound
returns-clause-sound c = sound c.args.self.now
