use Rattle.std.proofs.Common.{◌≡◌, length, vec_items}
use Rattle.script.specs.Percent.{spelled}
use Rattle.script.proofs.Spelling.{behind}
use Rattle.script.proofs.decode.spell.Given as goal

abbrev pub invariant-loop-byte : goal.invariant-loop-byte
invariant-loop-byte l = behind (vec_items l.text) (spelled l.rest) ≡ spelled l.word

abbrev pub decreases-loop-byte : goal.decreases-loop-byte
decreases-loop-byte l = length l.rest
