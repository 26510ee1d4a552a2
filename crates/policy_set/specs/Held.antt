-- The rows that the tables hold.
use Rattle.std.specs.Prelude.{List, take}
use Rattle.policy.specs.declared.template.Template.{Template}
use Rattle.policy_set.specs.declared.rows.PolicyRow.{PolicyRow}
use Rattle.policy_set.specs.declared.rows.Member.{Member}
use Rattle.policy_set.specs.Maps.{Maps}
use Rattle.policy_set.specs.declared.tables.Table.{Table}

-- The rows of a table, in order.
abbrev pub rows_in : {R N K : _} → Table R N K → List R
rows_in t = take t.used t.rows

-- The maps that three tables hold.
abbrev pub maps_in : {N N2 N3 K K2 K3 : _} → Table Template N K → Table PolicyRow N2 K2 → Table Member N3 K3 → Maps
maps_in ts ps ms = record { templates = rows_in ts; policies = rows_in ps; members = rows_in ms }
