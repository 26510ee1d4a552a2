use Rattle.std.proofs.Common.{◌≡◌, ◌++◌, drop, string_bytes}
use Rattle.names.specs.Book.{texts}
use Rattle.printing.specs.Scopes.{more_entities}
use Rattle.printing.proofs.scopes.push_more_entities.Given as goal

abbrev pub invariant-loop-e : goal.invariant-loop-e
invariant-loop-e l =
    string_bytes l.line ++ more_entities (texts l.book) (drop l.e-index l.list) ≡ string_bytes l.initial.line ++ more_entities (texts l.book) l.list
