use Rattle.std.proofs.Common.{◌≡◌, length}
use lib.Bits.{bit_or}
use Rattle.clauses.specs.Sealed.{text_slots}
use Rattle.clauses.proofs.Scanning.{slots_left}
use Rattle.clauses.proofs.sealed.text.slots_of_text.Given as goal

abbrev pub invariant-loop-rest : goal.invariant-loop-rest
invariant-loop-rest l = bit_or l.slots.bits (slots_left l.scanner l.rest) ≡ text_slots l.text

abbrev pub decreases-loop-rest : goal.decreases-loop-rest
decreases-loop-rest l = length l.rest
