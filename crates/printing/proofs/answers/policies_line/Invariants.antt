use Rattle.std.proofs.Common.{◌≡◌, drop, map, string_bytes, codes}
use Rattle.names.specs.Book.{texts}
use Rattle.printing.specs.Print.{spaced}
use Rattle.printing.specs.Records.{pair_word}
use Rattle.printing.specs.Answers.{policies_line}
use Rattle.printing.proofs.answers.policies_line.Given as goal

abbrev pub invariant-loop-id : goal.invariant-loop-id
invariant-loop-id l =
    spaced (string_bytes l.line) (map (λ both. pair_word (texts l.book) both.0 (codes ",") both.1) (drop l.id-index l.ids)) ≡ policies_line (texts l.book) l.ids
