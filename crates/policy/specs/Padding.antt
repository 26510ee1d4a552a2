-- The places of an action list past its count.
use Rattle.std.specs.Prelude.{Bool, true, false, cond, List, [], ◌∷◌, ◌==◌}
use Rattle.names.specs.declared.entity.EntityUID.{EntityUID}

-- Every place holds the entity 0, 0.
abbrev pub blank : List EntityUID → Bool
blank [] = true
blank (e ∷ es) = cond (e.ty == 0) (cond (e.eid == 0) (blank es) false) false
