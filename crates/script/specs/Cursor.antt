-- What is left of a line.
use Rattle.std.specs.Prelude.{ℕ, List}
use Rattle.script.specs.declared.words.Words.{Words}
use Rattle.script.specs.Words.{words}

-- The words that are still to come.
abbrev pub to_come : Words → List (List ℕ)
to_come cursor = words cursor.rest.now
