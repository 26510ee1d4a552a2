-- What a tree book means.
use Rattle.std.specs.Prelude.{List}
use Rattle.clauses.specs.declared.contents.ContentBook.{ContentBook}
use Rattle.clauses.specs.declared.tree.node.Node.{Node}
use Rattle.clauses.specs.Book.{Clause, listing}
use Rattle.clauses.specs.Contents.{held}
use Rattle.clauses.specs.Nodes.{tree_clause}

-- The lists of nodes in the order of their numbers.
abbrev pub trees : ContentBook Node 64 → List (List Node)
trees book = held book

-- The clauses in the order of their numbers.
abbrev pub tree_clauses : ContentBook Node 64 → List (Clause (List Node))
tree_clauses book = listing tree_clause (trees book)
