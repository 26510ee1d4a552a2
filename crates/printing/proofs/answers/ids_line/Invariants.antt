use Rattle.std.proofs.Common.{◌≡◌, drop, map, string_bytes}
use Rattle.names.specs.Book.{texts}
use Rattle.printing.specs.Print.{spaced, id_word}
use Rattle.printing.specs.Answers.{counted_line}
use Rattle.printing.proofs.answers.ids_line.Given as goal

abbrev pub invariant-loop-id : goal.invariant-loop-id
invariant-loop-id l =
    spaced (string_bytes l.line) (map (id_word (texts l.book)) (drop l.id-index l.ids)) ≡ counted_line (map (id_word (texts l.book)) l.ids)
