-- What a name book means: its texts by number, and its limits.
use Rattle.std.specs.Prelude.{ℕ, List}
use Rattle.names.specs.declared.kept.NameBook.{NameBook}
use Rattle.names.specs.Kept.{kept, limits_of}
use Rattle.names.specs.Names.{Limits}

-- The texts of a book, in the order of their numbers.
abbrev pub texts : NameBook → List (List ℕ)
texts book = kept book.texts

-- The limits that a book was made with.
abbrev pub limits : NameBook → Limits
limits book = limits_of book.texts
