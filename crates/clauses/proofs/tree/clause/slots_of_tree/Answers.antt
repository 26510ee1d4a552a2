use Rattle.std.proofs.Common.{◌+◌, false, get_or, drop, sym, ap, ◌∙◌}
use lib.Bits.{bit_or, or_zero_r}
use Rattle.std.proofs.lemmas.List.{at_drop_more, at_drop_all}
use Rattle.clauses.specs.declared.tree.node.Node.TheVariants.{Lit}
use Rattle.clauses.specs.Nodes.{tree_slots}
use Rattle.clauses.proofs.Mentioned.{node_more, mentions-told}
use Rattle.clauses.proofs.tree.clause.slots_of_tree.Goals as goal

pub loop-node-preserved : goal.loop-node-preserved
loop-node-preserved c =
    let ns = c.args.nodes.now in
    let i = c.loop-node.node-index in
    node_more c.loop-node.slots.bits c.slots.result.bits c.union-slots.result.bits (get_or ns i (Lit false)) (drop (i + 1) ns)
    c.loop-node.slots.two_bits c.slots.ensures c.union-slots.ensures.bits
    ∙ sym (ap (bit_or c.loop-node.slots.bits) (at_drop_more tree_slots ns i (Lit false) c.loop-node-test.true)) ∙ c.loop-node.invariant

pub returns : goal.returns
returns c =
    let ns = c.args.nodes.now in
    let all = at_drop_all tree_slots ns c.loop-node.node-index c.loop-node-test.false in
    let e = sym (or_zero_r c.loop-node.slots.bits) ∙ sym (ap (bit_or c.loop-node.slots.bits) all) ∙ c.loop-node.invariant in
    record { slots = e; told = mentions-told c.loop-node.slots.bits ns e }
