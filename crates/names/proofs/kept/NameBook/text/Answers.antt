use Rattle.std.proofs.Common.{ap, ◌∙◌}
use Rattle.names.specs.Book.{texts}
use Rattle.names.specs.Lent.{lent}
use Rattle.names.proofs.Names.{text_lent}
use Rattle.names.proofs.kept.NameBook.text.Goals as goal

pub returns : goal.returns
returns c = ap lent c.ok_or.ensures.value ∙ text_lent (texts c.args.self.now) c.args.number c.get.result c.get.ensures
