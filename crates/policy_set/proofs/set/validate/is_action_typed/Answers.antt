use Rattle.std.proofs.Common.{◌∙◌}
use Rattle.names.specs.Book.{texts}
use Rattle.policy_set.proofs.Validates.{told_action}
use Rattle.policy_set.proofs.set.validate.is_action_typed.Goals as goal

pub returns : goal.returns
returns c = c.unwrap_or.ensures ∙ told_action (texts c.args.names.now) c.args.e c.is_action.result c.is_action.ensures
