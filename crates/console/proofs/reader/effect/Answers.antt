use Rattle.std.proofs.Common.{codes, arith, rules}
use Rattle.console.specs.Reader.{effect_of}
use Rattle.console.proofs.Spelling.{spelled}
use Rattle.console.proofs.reader.effect.Goals as goal

pub returns-in-permit : goal.returns-in-permit
returns-in-permit c = spelled effect_of c.args.word.now (codes "permit") (omega arith) (search rules)

pub returns-in-forbid : goal.returns-in-forbid
returns-in-forbid c = spelled effect_of c.args.word.now (codes "forbid") (omega arith) (search rules)
