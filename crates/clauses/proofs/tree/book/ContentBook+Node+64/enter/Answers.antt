use Rattle.std.proofs.Common.{Err, ap, ◌∙◌}
use Rattle.std.proofs.lemmas.Result.{err_from_is_err_and}
use Rattle.names.specs.Book.{texts}
use Rattle.clauses.specs.Contents.{held}
use Rattle.clauses.proofs.Listing.{listing_entered}
use Rattle.clauses.specs.Nodes.{tree_clause}
use Rattle.clauses.specs.TreeBooks.{trees}
use Rattle.clauses.proofs.Entered.{entered, refused_by, numbered_by}
use Rattle.clauses.proofs.tree.book.ContentBook+Node+64.enter.Goals as goal

pub returns-in_err-check_clause-clause-law : goal.returns-in_err-check_clause-clause-law
returns-in_err-check_clause-clause-law c =
    let ns = c.args.nodes.now in
    let p = err_from_is_err_and c.from_residual.result c.from_residual.ensures.1 in
    entered (texts c.args.names.now) (trees c.args.self.now) ns c.from_residual.result
    (p.1 ∙ ap Err p.2 ∙ refused_by (texts c.args.names.now) (trees c.args.self.now) ns c.in_err-check_clause.field-0.0 c.in_err-check_clause.ensures)

pub returns-clause-clauses : goal.returns-clause-clauses
returns-clause-clauses c = listing_entered tree_clause c.put.result (trees c.args.self.now) (held c.put.new.self) c.args.nodes.now c.put.ensures.after

pub returns-clause-law : goal.returns-clause-law
returns-clause-law c =
    let ns = c.args.nodes.now in
    entered (texts c.args.names.now) (trees c.args.self.now) ns c.put.result
    (numbered_by (texts c.args.names.now) (trees c.args.self.now) ns c.put.result c.in_ok-check_clause.ensures c.put.ensures.answer)
