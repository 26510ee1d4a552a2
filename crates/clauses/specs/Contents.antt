-- What a book of contents holds.
use Rattle.std.specs.Prelude.{ℕ, List}
use Rattle.names.specs.Kept.{kept}
use Rattle.clauses.specs.declared.contents.ContentBook.{ContentBook}

-- The contents in the order of their numbers.
abbrev pub held : {X : Type 0} {longest : ℕ} → ContentBook X longest → List (List X)
held book = kept book.contents
