use Rattle.std.proofs.Common.{codes, arith, rules}
use Rattle.console.specs.Templates.{policy_kind}
use Rattle.console.proofs.Spelling.{spelled}
use Rattle.console.proofs.set_calls.PolicyKind.of.Goals as goal

pub returns-in-static : goal.returns-in-static
returns-in-static c = spelled policy_kind c.args.word.now (codes "static") (omega arith) (search rules)
