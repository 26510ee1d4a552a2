-- Slot sets as two answers.
-- These are lemmas, and no reader has to believe them: they stand in specs/ since SealedLaw and TreeLaw rest on them.
use Rattle.std.specs.Prelude.{◌<◌, Bool, true, false}
use Rattle.std.proofs.Common.{arith}
use Rattle.clauses.specs.Slots.{slot_set}

-- A slot set is two bits.
pub set_small : (p r : Bool) → slot_set p r < 4
set_small true true = omega arith
set_small true false = omega arith
set_small false true = omega arith
set_small false false = omega arith
