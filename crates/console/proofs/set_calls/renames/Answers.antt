use Rattle.std.proofs.Common.{codes, arith, rules}
use Rattle.console.specs.SetWords.{renames}
use Rattle.console.proofs.Spelling.{spelled}
use Rattle.console.proofs.set_calls.renames.Goals as goal

pub returns-in-rename : goal.returns-in-rename
returns-in-rename c = spelled renames c.args.word.now (codes "rename") (omega arith) (search rules)

pub returns-in-refuse : goal.returns-in-refuse
returns-in-refuse c = spelled renames c.args.word.now (codes "refuse") (omega arith) (search rules)
