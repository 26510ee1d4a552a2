use Rattle.std.proofs.Common.{◌≡◌, drop, map, string_bytes, codes}
use Rattle.names.specs.Book.{texts}
use Rattle.printing.specs.Print.{spaced}
use Rattle.printing.specs.Records.{pair_word}
use Rattle.printing.specs.Answers.{pairs_line}
use Rattle.printing.proofs.answers.pairs_line.Given as goal

abbrev pub invariant-loop-pair : goal.invariant-loop-pair
invariant-loop-pair l =
    spaced (string_bytes l.line) (map (λ pair. pair_word (texts l.book) pair.old (codes ">") pair.new) (drop l.pair-index l.pairs))
    ≡ pairs_line (texts l.book) l.pairs
