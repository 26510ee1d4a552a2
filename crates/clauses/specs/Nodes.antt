-- The nodes of a clause's tree.
use Rattle.std.specs.Prelude.{◌≡◌, ℕ, ◌==◌, Bool, true, false, ◌||◌, List, [], ◌∷◌, Some, None, Option}
use Rattle.std.specs.Bool.{beq}
use Rattle.std.specs.Cmp.Lexicographic.{pointwise}
use Rattle.std.specs.List.{slice_get}
use Rattle.refusals.specs.Refusals.{slot_bit}
use Rattle.refusals.specs.declared.slots.SlotId.{SlotId}
use Rattle.refusals.specs.declared.slots.SlotId.TheVariants.{Principal, Resource}
use Rattle.names.specs.Entities.{entity_equal}
use Rattle.clauses.specs.declared.tree.node.Var.{Var}
use Rattle.clauses.specs.declared.tree.node.Var.TheVariants as var
use Rattle.clauses.specs.declared.tree.node.Node.{Node}
use Rattle.clauses.specs.declared.tree.node.Node.TheVariants as node
use Rattle.clauses.specs.Book.{Clause}
use Rattle.clauses.specs.Slots.{slot_set}

-- How many operands a node takes.
abbrev pub takes : Node → ℕ
takes (node.Lit b) = 0
takes (node.Var v) = 0
takes (node.Slot s) = 0
takes (node.Entity e) = 0
takes node.Not = 1
takes node.And = 2
takes node.Or = 2
takes node.Eq = 2
takes node.In = 2
takes (node.Is t) = 1

-- The names that a node holds: of an entity the type before the id.
abbrev pub node_names : Node → List ℕ
node_names (node.Lit b) = []
node_names (node.Var v) = []
node_names (node.Slot s) = []
node_names (node.Entity e) = e.ty ∷ e.eid ∷ []
node_names node.Not = []
node_names node.And = []
node_names node.Or = []
node_names node.Eq = []
node_names node.In = []
node_names (node.Is t) = t ∷ []

-- The names among them that name types.
abbrev pub node_types : Node → List ℕ
node_types (node.Lit b) = []
node_types (node.Var v) = []
node_types (node.Slot s) = []
node_types (node.Entity e) = e.ty ∷ []
node_types node.Not = []
node_types node.And = []
node_types node.Or = []
node_types node.Eq = []
node_types node.In = []
node_types (node.Is t) = t ∷ []

-- The constant of a lone node.
abbrev pub node_constant : Node → Option Bool
node_constant (node.Lit b) = Some b
node_constant (node.Var v) = None
node_constant (node.Slot s) = None
node_constant (node.Entity e) = None
node_constant node.Not = None
node_constant node.And = None
node_constant node.Or = None
node_constant node.Eq = None
node_constant node.In = None
node_constant (node.Is t) = None

-- What `==` answers on variables.
abbrev pub var_equal : Var → Var → Bool
var_equal var.Principal var.Principal = true
var_equal var.Action var.Action = true
var_equal var.Resource var.Resource = true
var_equal a b = false

-- What `==` answers on nodes, variant by variant.
abbrev pub node_equal : Node → Node → Bool
node_equal (node.Lit a) (node.Lit b) = beq a b
node_equal (node.Var a) (node.Var b) = var_equal a b
node_equal (node.Slot a) (node.Slot b) = slot_bit a == slot_bit b
node_equal (node.Entity a) (node.Entity b) = entity_equal a b
node_equal node.Not node.Not = true
node_equal node.And node.And = true
node_equal node.Or node.Or = true
node_equal node.Eq node.Eq = true
node_equal node.In node.In = true
node_equal (node.Is a) (node.Is b) = a == b
node_equal a b = false

-- Whether two nodes are equal.
abbrev pub same_node : Node → Node → Bool
same_node = node_equal

-- Whether two lists of nodes are equal.
abbrev pub same_nodes : List Node → List Node → Bool
same_nodes = pointwise same_node

-- The slots of a node.
abbrev pub node_slots : Node → ℕ
node_slots n = slot_set (same_node (node.Slot Principal) n) (same_node (node.Slot Resource) n)

-- Whether a slot is among the nodes.
abbrev pub mentions : SlotId → List Node → Bool
mentions slot [] = false
mentions slot (n ∷ ns) = same_node (node.Slot slot) n || mentions slot ns

-- The slots of a list of nodes.
abbrev pub tree_slots : List Node → ℕ
tree_slots nodes = slot_set (mentions Principal nodes) (mentions Resource nodes)

-- The constant of a list of nodes: that of a lone node.
abbrev pub tree_constant : List Node → Option Bool
tree_constant [] = None
tree_constant (n ∷ []) = node_constant n
tree_constant (n ∷ (m ∷ ns)) = None

-- A list of nodes as a clause.
abbrev pub tree_clause : List Node → Clause (List Node)
tree_clause nodes = record { content = nodes; slots = tree_slots nodes; constant = tree_constant nodes }

-- A slot stands at some place of the nodes.
pub record Mentions (slot : SlotId) (nodes : List Node) : Type 0 where
  pub place : ℕ
  pub stands : slice_get nodes place ≡ Some (node.Slot slot)
