-- Entities compared.
use Rattle.std.specs.Prelude.{Bool, ◌&&◌, ◌==◌}
use Rattle.names.specs.declared.entity.EntityUID.{EntityUID}

-- What `==` answers on entities.
abbrev pub entity_equal : EntityUID → EntityUID → Bool
entity_equal a b = a.ty == b.ty && a.eid == b.eid
