use Rattle.clauses.specs.Contents.{held}
use Rattle.clauses.proofs.Listing.{at_lent}
use Rattle.clauses.proofs.contents.ContentBook.content.Goals as goal

pub returns : goal.returns
returns g c = at_lent _ (λ x. x.now) (held c.args.self.now) c.args.n c.get.result c.get.ensures
