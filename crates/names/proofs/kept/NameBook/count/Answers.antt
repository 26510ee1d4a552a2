use Rattle.names.specs.Book.{texts}
use Rattle.names.proofs.Names.{distinct_one_to_one}
use Rattle.names.proofs.kept.NameBook.count.Goals as goal

pub returns : goal.returns
returns c = record { count = c.count.ensures.count; one_to_one = distinct_one_to_one (texts c.args.self.now) c.args.self.now.distinct }
