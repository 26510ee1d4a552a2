use Rattle.std.proofs.Common.{codes, arith, rules}
use Rattle.console.specs.Nodes.{plain_node}
use Rattle.console.proofs.Spelling.{spelled}
use Rattle.console.proofs.clause_calls.plain_node.Goals as goal

pub returns-in-principal : goal.returns-in-principal
returns-in-principal c = spelled plain_node c.args.word.now (codes "principal") (omega arith) (search rules)

pub returns-in-action : goal.returns-in-action
returns-in-action c = spelled plain_node c.args.word.now (codes "action") (omega arith) (search rules)

pub returns-in-resource : goal.returns-in-resource
returns-in-resource c = spelled plain_node c.args.word.now (codes "resource") (omega arith) (search rules)

pub returns-in-63-2 : goal.returns-in-63-2
returns-in-63-2 c = spelled plain_node c.args.word.now (codes "?resource") (omega arith) (search rules)

pub returns-in-63 : goal.returns-in-63
returns-in-63 c = spelled plain_node c.args.word.now (codes "?principal") (omega arith) (search rules)
