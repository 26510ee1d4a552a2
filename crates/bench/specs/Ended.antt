-- What the answers of calls on a set make of a unit of work.
use Rattle.std.specs.Prelude.{Some, Ok, Err, Option, Result}
use Rattle.refusals.specs.declared.refusal.Refusal.{Refusal}
use Rattle.bench.specs.declared.stop.Stop.{Stop}
use Rattle.bench.specs.declared.stop.Stop.TheVariants.{Refused}

-- A refusal stops the work; else it comes to this.
abbrev pub ended : {X Y : Type 0} → Y → Result X Refusal → Result Y Stop
ended y (Ok x) = Ok y
ended y (Err refusal) = Err (Refused refusal)

-- What a call hands back is kept; where it is refused, what was kept before.
abbrev pub kept : {X : Type 0} → Option X → Result X Refusal → Option X
kept before (Ok x) = Some x
kept before (Err refusal) = before
