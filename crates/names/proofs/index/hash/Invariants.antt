use Rattle.std.proofs.Common.{◌≡◌, ◌<◌, drop}
use Rattle.names.specs.Index.{hashed}
use Rattle.names.proofs.index.hash.Given as goal

abbrev pub invariant-loop-byte : goal.invariant-loop-byte
invariant-loop-byte l = (l.value < 65536) × (hashed l.value (drop l.byte-index l.text) ≡ hashed 0 l.text)
