use Rattle.std.proofs.Common.{◌≡◌, drop, map, string_bytes}
use Rattle.names.specs.Book.{texts}
use Rattle.printing.specs.Print.{spaced}
use Rattle.printing.specs.Nodes.{node_word}
use Rattle.printing.specs.Answers.{counted_line}
use Rattle.printing.proofs.nodes.nodes_line.Given as goal

abbrev pub invariant-loop-node : goal.invariant-loop-node
invariant-loop-node l =
    spaced (string_bytes l.line) (map (node_word (texts l.book)) (drop l.node-index l.nodes)) ≡ counted_line (map (node_word (texts l.book)) l.nodes)
