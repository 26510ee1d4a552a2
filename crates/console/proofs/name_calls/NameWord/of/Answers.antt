use Rattle.std.proofs.Common.{codes, arith, rules}
use Rattle.console.specs.Asked.{name_word}
use Rattle.console.proofs.Spelling.{spelled}
use Rattle.console.proofs.name_calls.NameWord.of.Goals as goal

pub returns-in-action : goal.returns-in-action
returns-in-action c = spelled name_word c.args.head.now (codes "action") (omega arith) (search rules)
