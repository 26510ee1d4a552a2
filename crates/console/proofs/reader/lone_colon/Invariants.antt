use Rattle.std.proofs.Common.{◌≡◌, length, ◌-◌}
use Rattle.console.specs.Reader.{lone_from}
use Rattle.console.proofs.reader.lone_colon.Given as goal

-- No such place stands before `i`.
abbrev pub invariant-loop-i : goal.invariant-loop-i
invariant-loop-i l = lone_from l.word 0 (length l.word) ≡ lone_from l.word l.i (length l.word - l.i)
