use Rattle.std.proofs.Common.{List, sym, subst}
use Rattle.names.specs.Index.{Indexes}
use Rattle.names.proofs.Indexes.{nothing_indexed}
use Rattle.names.proofs.kept.NameBook.new.Goals as goal

pub invariant_of-result-clause-indexed : goal.invariant_of-result-clause-indexed
invariant_of-result-clause-indexed c =
    subst (λ (ts : List (List _)). Indexes ts c.in_ok-index.index.last.items c.in_ok-index.index.before.items) (sym c.in_ok-texts.ensures.0)
    (nothing_indexed c.in_ok-index.index.last.items c.in_ok-index.index.before.items c.in_ok-index.ensures.0)
