-- Two parts that were lent, as their bytes.
use Rattle.std.specs.Prelude.{ℕ, List, Some, None, Option}
use Rattle.std.specs.Borrow.{Bor}

-- What an answer that lends two parts says.
abbrev pub lent_parts : Option (Bor (List ℕ) × Bor (List ℕ)) → Option (List ℕ × List ℕ)
lent_parts None = None
lent_parts (Some parts) = Some (parts.0.now, parts.1.now)
