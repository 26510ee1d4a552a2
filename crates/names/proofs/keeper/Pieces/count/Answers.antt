use Rattle.std.proofs.Common.{sym, ◌∙◌, arith}
use Rattle.names.proofs.Keeping.{kept_count}
use Rattle.names.proofs.keeper.Pieces.count.Goals as goal

pub returns : goal.returns
returns g c = record { count = c.len.ensures ∙ sym (kept_count c.args.self.now); few = omega (arith, c.len.ensures, c.args.self.now.few) }
