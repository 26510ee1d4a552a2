-- A text that was lent, as its bytes.
use Rattle.std.specs.Prelude.{ℕ, List, Ok, Err, Result}
use Rattle.std.specs.Borrow.{Bor}
use Rattle.refusals.specs.declared.refusal.Refusal.{Refusal}
use Rattle.refusals.specs.declared.refusal.Refusal.TheVariants.{UnknownName}
use Rattle.refusals.specs.declared.refusal.UnknownName.{UnknownName as Unlisted}

-- What an answer that lends a text says.
abbrev pub lent : Result (Bor (List ℕ)) Unlisted → Result (List ℕ) Refusal
lent (Ok text) = Ok text.now
lent (Err unknown) = Err (UnknownName unknown.number)
