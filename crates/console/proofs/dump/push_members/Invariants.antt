use Rattle.std.proofs.Common.{◌≡◌, drop, map, string_bytes}
use Rattle.names.specs.Book.{texts}
use Rattle.printing.specs.Print.{spaced, id_word}
use Rattle.console.specs.Dump.{with_reverse}
use Rattle.console.proofs.dump.push_members.Given as goal

-- The members so far, and those that are left.
abbrev pub invariant-loop-member : goal.invariant-loop-member
invariant-loop-member l =
    spaced (string_bytes l.text) (map (id_word (texts l.book)) (drop l.member-index l.members)) ≡ with_reverse (texts l.book) (string_bytes l.fn.text) l.id l.members
