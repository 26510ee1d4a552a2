use Rattle.std.proofs.Common.{codes, arith, rules}
use Rattle.console.specs.Lines.{clause_word}
use Rattle.console.proofs.Spelling.{spelled}
use Rattle.console.proofs.clause_calls.ClauseWord.of.Goals as goal

pub returns-in-clause : goal.returns-in-clause
returns-in-clause c = spelled clause_word c.args.head.now (codes "clause") (omega arith) (search rules)

pub returns-in-binding : goal.returns-in-binding
returns-in-binding c = spelled clause_word c.args.head.now (codes "binding") (omega arith) (search rules)

pub returns-in-condition : goal.returns-in-condition
returns-in-condition c = spelled clause_word c.args.head.now (codes "condition") (omega arith) (search rules)
