use Rattle.std.proofs.Common.{sym, ◌∙◌}
use Rattle.clauses.specs.Contents.{held}
use Rattle.clauses.proofs.Listing.{length_listing}
use Rattle.clauses.proofs.contents.entries.ContentBookClauseBook.count.Goals as goal

pub returns : goal.returns
returns g c = c.count.ensures.count ∙ sym (length_listing _ (held c.args.self.now))
