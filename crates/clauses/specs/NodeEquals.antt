-- `==` on nodes answers whether they are equal.
-- These are lemmas, and no reader has to believe them: they stand in specs/ since the impl of `Content` for `Node` names them.
use Rattle.std.specs.Prelude.{◌≡◌, ◌==◌, Bool, true, List, refl}
use Rattle.std.proofs.Common.{ap, subst}
use Rattle.std.proofs.lemmas.Bool.{eqb-true, eq-eqb}
use Rattle.std.specs.Cmp.{booleans_Decides}
use Rattle.refusals.specs.Refusals.{slot_bit}
use Rattle.refusals.specs.declared.slots.SlotId.{SlotId}
use Rattle.refusals.specs.declared.slots.SlotId.TheVariants as slot
use Rattle.names.proofs.Entities.{entity_only, entity_itself}
use Rattle.clauses.specs.declared.tree.node.Node.{Node}
use Rattle.clauses.specs.declared.tree.node.Node.TheVariants as node
use Rattle.clauses.specs.declared.tree.node.Var.{Var}
use Rattle.clauses.specs.declared.tree.node.Var.TheVariants as var
use Rattle.clauses.specs.Book.{DecidesEquality}
use Rattle.std.specs.Cmp.Lexicographic.{pointwise}
use Rattle.clauses.specs.contracts.tree.node.NodePartialEq.TheImpl as derived
use Rattle.clauses.specs.Nodes.{var_equal, node_equal, same_node, same_nodes}

-- Variables of which `==` says yes are equal.
same_var : (x y : Var) → var_equal x y ≡ true → x ≡ y
same_var var.Principal var.Principal h = refl
same_var var.Action var.Action h = refl
same_var var.Resource var.Resource h = refl
same_var x y h = cc

-- Of a variable and itself `==` says yes.
var_itself : (x : Var) → var_equal x x ≡ true
var_itself var.Principal = refl
var_itself var.Action = refl
var_itself var.Resource = refl

-- Slots of one bit are equal.
same_slot : (x y : SlotId) → (slot_bit x == slot_bit y) ≡ true → x ≡ y
same_slot slot.Principal slot.Principal h = refl
same_slot slot.Resource slot.Resource h = refl
same_slot x y h = cc

-- Nodes of which `==` says yes are equal.
node_only : (x y : Node) → same_node x y ≡ true → x ≡ y
node_only (node.Lit a) (node.Lit b) h = ap node.Lit ((booleans_Decides a b).0 h)
node_only (node.Var a) (node.Var b) h = ap node.Var (same_var a b h)
node_only (node.Slot a) (node.Slot b) h = ap node.Slot (same_slot a b h)
node_only (node.Entity a) (node.Entity b) h = ap node.Entity (entity_only a b h)
node_only node.Not node.Not h = refl
node_only node.And node.And h = refl
node_only node.Or node.Or h = refl
node_only node.Eq node.Eq h = refl
node_only node.In node.In h = refl
node_only (node.Is a) (node.Is b) h = ap node.Is (eqb-true a b h)
node_only x y h = cc

-- Of a node and itself `==` says yes.
node_itself : (x : Node) → same_node x x ≡ true
node_itself (node.Lit b) = (booleans_Decides b b).1 refl
node_itself (node.Var v) = var_itself v
node_itself (node.Slot s) = eq-eqb (slot_bit s) (slot_bit s) refl
node_itself (node.Entity e) = entity_itself e
node_itself node.Not = refl
node_itself node.And = refl
node_itself node.Or = refl
node_itself node.Eq = refl
node_itself node.In = refl
node_itself (node.Is t) = eq-eqb t t refl

-- On nodes `==` says yes exactly of equal ones.
pub node_decides : DecidesEquality same_node
node_decides = record { only = node_only; whenever = λ x y e. subst (λ (z : Node). same_node x z ≡ true) e (node_itself x) }

-- The derived `==` answers as `node_equal` does: on variables,
derived_var : (x y : Var) → (derived.ghosts).eq (node.Var x) (node.Var y) ≡ node_equal (node.Var x) (node.Var y)
derived_var var.Principal var.Principal = refl
derived_var var.Action var.Action = refl
derived_var var.Resource var.Resource = refl
derived_var x y = refl

-- on slots,
derived_slot : (x y : SlotId) → (derived.ghosts).eq (node.Slot x) (node.Slot y) ≡ node_equal (node.Slot x) (node.Slot y)
derived_slot slot.Principal slot.Principal = refl
derived_slot slot.Resource slot.Resource = refl
derived_slot x y = refl

-- on nodes of any variant,
derived_node : (x y : Node) → (derived.ghosts).eq x y ≡ node_equal x y
derived_node (node.Lit a) (node.Lit b) = refl
derived_node (node.Var a) (node.Var b) = derived_var a b
derived_node (node.Slot a) (node.Slot b) = derived_slot a b
derived_node (node.Entity a) (node.Entity b) = refl
derived_node node.Not node.Not = refl
derived_node node.And node.And = refl
derived_node node.Or node.Or = refl
derived_node node.Eq node.Eq = refl
derived_node node.In node.In = refl
derived_node (node.Is a) (node.Is b) = refl
derived_node x y = refl

-- and on lists of nodes.
pub derived_nodes : (s t : List Node) → pointwise (derived.ghosts).eq s t ≡ same_nodes s t
derived_nodes s t = ap (λ (E : Node → Node → Bool). pointwise E s t) (λ i x y. derived_node x y i)
