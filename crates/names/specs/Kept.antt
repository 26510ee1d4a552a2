-- What the store `Pieces` of names and of clauses holds, and how much it may hold.
use Rattle.std.specs.Prelude.{List, vec_items}
use Rattle.names.specs.declared.keeper.Pieces.{Pieces}
use Rattle.names.specs.Pieces.{pieces}
use Rattle.names.specs.Names.{Limits}

-- The pieces in the order of their numbers.
abbrev pub kept : {X : Type 0} → Pieces X → List (List X)
kept p = pieces 0 (vec_items p.ends) (vec_items p.items)

-- The limits that a store was made with.
abbrev pub limits_of : {X : Type 0} → Pieces X → Limits
limits_of p = record { places = p.places; room = p.room }
