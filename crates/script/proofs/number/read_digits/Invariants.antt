use Rattle.std.proofs.Common.{◌≡◌, ◌≤◌, drop, Some}
use Rattle.script.specs.Number.{continued, at_most}
use Rattle.script.proofs.number.read_digits.Given as goal

abbrev pub invariant-loop-byte : goal.invariant-loop-byte
invariant-loop-byte l =
    (l.value ≤ l.most)
    × (at_most l.most (continued (Some l.value) (drop l.byte-index l.digits)) ≡ at_most l.most (continued (Some 0) l.digits))
