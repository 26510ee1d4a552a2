use Rattle.clauses.specs.Contents.{held}
use Rattle.clauses.proofs.Listing.{listing_entered}
use Rattle.clauses.specs.Sealed.{text_clause}
use Rattle.clauses.specs.SealedBooks.{texts}
use Rattle.clauses.proofs.sealed.book.ContentBook+u8+512.enter.Goals as goal

pub returns-clause-clauses : goal.returns-clause-clauses
returns-clause-clauses c = listing_entered text_clause c.put.result (texts c.args.self.now) (held c.put.new.self) c.args.text.now c.put.ensures.after
