use Rattle.std.proofs.Common.{codes, arith, rules}
use Rattle.console.specs.SetWords.{change_word}
use Rattle.console.proofs.Spelling.{spelled}
use Rattle.console.proofs.set_calls.Change.of.Goals as goal

pub returns-in-template : goal.returns-in-template
returns-in-template c = spelled change_word c.args.head.now (codes "template") (omega arith) (search rules)

pub returns-in-static : goal.returns-in-static
returns-in-static c = spelled change_word c.args.head.now (codes "static") (omega arith) (search rules)

pub returns-in-unlink : goal.returns-in-unlink
returns-in-unlink c = spelled change_word c.args.head.now (codes "unlink") (omega arith) (search rules)

pub returns-in-114 : goal.returns-in-114
returns-in-114 c = spelled change_word c.args.head.now (codes "remove_static") (omega arith) (search rules)

pub returns-in-114-2 : goal.returns-in-114-2
returns-in-114-2 c = spelled change_word c.args.head.now (codes "remove_template") (omega arith) (search rules)
