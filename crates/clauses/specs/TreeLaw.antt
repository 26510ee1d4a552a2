-- The laws of trees.
-- These are lemmas, and no reader has to believe them: they stand in specs/ since the impl of `Content` for `Node` names them.
use Rattle.std.specs.Prelude.{◌≡◌, ℕ, ◌<◌, Bool, List, [], ◌∷◌, Some, refl}
use Rattle.std.proofs.Common.{arith}
use Rattle.std.proofs.lemmas.Slice.Eq.{slice_eq-Decides}
use Rattle.refusals.specs.declared.slots.SlotId.TheVariants.{Principal, Resource}
use Rattle.clauses.specs.declared.tree.node.Node.{Node}
use Rattle.clauses.specs.declared.tree.node.Node.TheVariants as node
use Rattle.std.specs.Bool.{Decides}
use Rattle.clauses.specs.Book.{DecidesEquality, Lawful, listing}
use Rattle.clauses.specs.Nodes.{same_nodes, node_constant, mentions, tree_slots, tree_constant, tree_clause}
use Rattle.clauses.specs.Listing.{lawful_by}
use Rattle.clauses.specs.NodeEquals.{node_decides}
use Rattle.clauses.specs.SlotSets.{set_small}

-- Comparing node by node decides whether two lists are equal.
same_trees : (s t : List Node) → Decides (same_nodes s t) (s ≡ t)
same_trees s t = slice_eq-Decides (λ m n. (node_decides.only m n, node_decides.whenever m n)) s t (same_nodes s t) refl

-- The same, as the law of clause books puts it.
pub trees_decide : DecidesEquality same_nodes
trees_decide = record { only = λ s t. (same_trees s t).0; whenever = λ s t. (same_trees s t).1 }

-- A lone literal has no slot.
lone_slotless : (n : Node) (v : Bool) → node_constant n ≡ Some v → tree_slots (n ∷ []) ≡ 0
lone_slotless (node.Lit b) v h = refl
lone_slotless (node.Var x) v h = refl
lone_slotless (node.Slot s) v h = let z : ◌≡◌ {A = ℕ} 0 1 = cc in absurd (omega arith)
lone_slotless (node.Entity e) v h = refl
lone_slotless node.Not v h = refl
lone_slotless node.And v h = refl
lone_slotless node.Or v h = refl
lone_slotless node.Eq v h = refl
lone_slotless node.In v h = refl
lone_slotless (node.Is t) v h = refl

-- A list of nodes that is a constant has no slot.
pub trees_slotless : (ns : List Node) (v : Bool) → tree_constant ns ≡ Some v → tree_slots ns ≡ 0
trees_slotless [] v h = refl
trees_slotless (n ∷ []) v h = lone_slotless n v h
trees_slotless (n ∷ (m ∷ ns)) v h = let z : ◌≡◌ {A = ℕ} 0 1 = cc in absurd (omega arith)

-- The slots of a list of nodes are two bits.
pub trees_small : (t : List Node) → tree_slots t < 4
trees_small t = set_small (mentions Principal t) (mentions Resource t)

-- A book of any trees shows the law of clause books.
pub lawful_trees : (ts : List (List Node)) → Lawful (listing tree_clause ts)
lawful_trees ts = lawful_by tree_clause (λ t. refl) trees_small trees_slotless ts
