-- How conditions are printed.
use Rattle.std.specs.Prelude.{ℕ, List, ◌++◌, true, false, codes, decimal}
use Rattle.policy.specs.declared.node.ConditionNode.{ConditionNode}
use Rattle.policy.specs.declared.node.ConditionNode.TheVariants as node
use Rattle.refusals.specs.declared.slots.SlotId.TheVariants as slot
use Rattle.script.specs.declared.encode.Colon.TheVariants.{Plain}
use Rattle.printing.specs.Print.{name_text}
use Rattle.printing.specs.Scopes.{entity_word}

-- A node of a condition.
abbrev pub node_word : List (List ℕ) → ConditionNode → List ℕ
node_word texts (node.Bool true) = codes "true"
node_word texts (node.Bool false) = codes "false"
node_word texts node.Principal = codes "principal"
node_word texts node.Action = codes "action"
node_word texts node.Resource = codes "resource"
node_word texts (node.Slot slot.Principal) = codes "?principal"
node_word texts (node.Slot slot.Resource) = codes "?resource"
node_word texts (node.Entity e) = codes "entity:" ++ entity_word texts e
node_word texts (node.«Set» n) = codes "set:" ++ decimal n
node_word texts (node.Is ty) = codes "is:" ++ name_text texts Plain ty
node_word texts node.Eq = codes "eq"
node_word texts node.In = codes "in"
node_word texts node.And = codes "and"
node_word texts (node.Clause n) = codes "clause:" ++ decimal n
