-- What a sealed book means.
use Rattle.std.specs.Prelude.{ℕ, List}
use Rattle.clauses.specs.declared.contents.ContentBook.{ContentBook}
use Rattle.clauses.specs.Book.{Clause, listing}
use Rattle.clauses.specs.Contents.{held}
use Rattle.clauses.specs.Sealed.{text_clause}

-- The texts in the order of their numbers.
abbrev pub texts : ContentBook ℕ 512 → List (List ℕ)
texts book = held book

-- The clauses in the order of their numbers.
abbrev pub sealed_clauses : ContentBook ℕ 512 → List (Clause (List ℕ))
sealed_clauses book = listing text_clause (texts book)
