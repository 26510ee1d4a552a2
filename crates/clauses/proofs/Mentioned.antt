-- The slots of a list of nodes, node by node, and where they stand.
use Rattle.std.specs.Prelude.{Decides}
use Rattle.std.proofs.Common.{◌≡◌, ℕ, zero, suc, ◌<◌, true, List, [], ◌∷◌, Some, sym, ap, ◌∙◌, inl, inr, arith}
use lib.Bits.{bit_or}
use Rattle.std.specs.List.{slice_get}
use Rattle.std.proofs.lemmas.Bool.{or_cases, or_left, or_right}
use Rattle.refusals.specs.declared.slots.SlotId.{SlotId}
use Rattle.refusals.specs.declared.slots.SlotId.TheVariants.{Principal, Resource}
use Rattle.clauses.specs.declared.tree.node.Node.{Node}
use Rattle.clauses.specs.declared.tree.node.Node.TheVariants.{Slot}
use Rattle.refusals.specs.Slots.{has_bit}
use Rattle.clauses.specs.Nodes.{same_node, node_slots, mentions, tree_slots, Mentions}
use Rattle.clauses.specs.NodeEquals.{node_decides}
use Rattle.clauses.proofs.SlotSets.{set_or_or, set_decides}

-- One node more of what is left.
pub node_more : (n more sum : ℕ) (node : Node) (rest : List Node) → n < 4 → more ≡ node_slots node → sum ≡ bit_or n more
    → bit_or sum (tree_slots rest) ≡ bit_or n (tree_slots (node ∷ rest))
node_more n more sum node rest h e u =
    ap (λ (x : ℕ). bit_or x (tree_slots rest)) u
    ∙ ap (λ (x : ℕ). bit_or (bit_or n x) (tree_slots rest)) e
    ∙ set_or_or n h (same_node (Slot Principal) node) (same_node (Slot Resource) node) (mentions Principal rest) (mentions Resource rest)

mentioned : (slot : SlotId) (nodes : List Node) → mentions slot nodes ≡ true → Mentions slot nodes
mentioned slot [] h = let z : ◌≡◌ {A = ℕ} 0 1 = cc in absurd (omega arith)
mentioned slot (n ∷ ns) h =
    elim (or_cases (same_node (Slot slot) n) (mentions slot ns) h) [
      | inl p ↦ record { place = 0; stands = ap Some (sym (node_decides.only (Slot slot) n p)) }
      | inr q ↦ let k = mentioned slot ns q in record { place = suc k.place; stands = k.stands }
    ]

stands_mentioned : (slot : SlotId) (nodes : List Node) (place : ℕ) → slice_get nodes place ≡ Some (Slot slot) → mentions slot nodes ≡ true
stands_mentioned slot [] place h = let z : ◌≡◌ {A = ℕ} 0 1 = cc in absurd (omega arith)
stands_mentioned slot (n ∷ ns) zero h =
    let e : Slot slot ≡ n = cc in
    or_left (same_node (Slot slot) n) (mentions slot ns) (node_decides.whenever (Slot slot) n e)
stands_mentioned slot (n ∷ ns) (suc place) h = or_right (same_node (Slot slot) n) (mentions slot ns) (stands_mentioned slot ns place h)

-- The slots of the nodes are those that stand among them.
pub mentions-told : (n : ℕ) (nodes : List Node) → n ≡ tree_slots nodes → (slot : SlotId) → Decides (has_bit slot n) (Mentions slot nodes)
mentions-told n nodes e Principal =
    set_decides Principal (mentions Principal nodes) (mentions Resource nodes) n (Mentions Principal nodes) e
    (mentioned Principal nodes, λ m. stands_mentioned Principal nodes m.place m.stands)
mentions-told n nodes e Resource =
    set_decides Resource (mentions Principal nodes) (mentions Resource nodes) n (Mentions Resource nodes) e
    (mentioned Resource nodes, λ m. stands_mentioned Resource nodes m.place m.stands)
