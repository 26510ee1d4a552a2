use Rattle.policy.proofs.Exact.{accepts_exact}
use Rattle.policy.proofs.template.Template.check_binding.Goals as goal

pub returns-clause-exact : goal.returns-clause-exact
returns-clause-exact g c = accepts_exact c.args.self.now.slots c.args.values
