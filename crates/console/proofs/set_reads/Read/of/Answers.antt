use Rattle.std.proofs.Common.{codes, arith, rules}
use Rattle.console.specs.SetWords.{read_word}
use Rattle.console.proofs.Spelling.{spelled}
use Rattle.console.proofs.set_reads.Read.of.Goals as goal

pub returns-in-policies : goal.returns-in-policies
returns-in-policies c = spelled read_word c.args.head.now (codes "policies") (omega arith) (search rules)

pub returns-in-115 : goal.returns-in-115
returns-in-115 c = spelled read_word c.args.head.now (codes "static_policies") (omega arith) (search rules)

pub returns-in-templates : goal.returns-in-templates
returns-in-templates c = spelled read_word c.args.head.now (codes "templates") (omega arith) (search rules)

pub returns-in-filled : goal.returns-in-filled
returns-in-filled c = spelled read_word c.args.head.now (codes "filled") (omega arith) (search rules)

pub returns-in-validate : goal.returns-in-validate
returns-in-validate c = spelled read_word c.args.head.now (codes "validate") (omega arith) (search rules)
