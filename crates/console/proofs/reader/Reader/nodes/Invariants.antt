use Rattle.std.proofs.Common.{◌≡◌, vec_items}
use Rattle.names.specs.Book.{texts as texts_of}
use Rattle.names.specs.Book.{limits as limits_of}
use Rattle.console.specs.Nodes.{node_of, nodes}
use Rattle.console.specs.Args.{left}
use Rattle.console.proofs.EachRead.{Under}
use Rattle.console.proofs.reader.Reader.nodes.Given as goal

-- The nodes so far, and the words that are left.
abbrev pub invariant-loop-word : goal.invariant-loop-word
invariant-loop-word l =
    (limits_of l.self.book ≡ limits_of l.fn.self.book)
    × Under (node_of (limits_of l.fn.self.book)) (nodes (limits_of l.fn.self.book) (texts_of l.fn.self.book) (left l.fn.args))
    (vec_items l.list) (texts_of l.self.book) (left l.word-iterator)
