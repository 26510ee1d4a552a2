use Rattle.std.proofs.Common.{◌≡◌, ℕ, ◌+◌, ◌-◌, false, length, get_or, drop, Ok, Err, sym, ap, ◌∙◌, arith}
use Rattle.std.proofs.lemmas.List.{at_drop_more, at_drop_all}
use Rattle.clauses.specs.declared.tree.node.Node.TheVariants.{Lit}
use Rattle.clauses.specs.Nodes.{takes}
use Rattle.clauses.specs.Shape.{shape}
use Rattle.clauses.proofs.Rows.{shape_lacks, shape_on, shape_one, shape_uneven, judged, one_tree}
use Rattle.clauses.proofs.tree.shape.check_tree.Goals as goal

pub returns-then-standing-taken : goal.returns-then-standing-taken
returns-then-standing-taken c =
    let ns = c.args.nodes.now in
    let i = c.loop-place.place in
    let e =
    sym (shape_lacks takes i c.loop-place.standing (get_or ns i (Lit false)) (drop (i + 1) ns) (omega (arith, c.operands-taken.ensures)))
    ∙ sym (at_drop_more (shape takes i c.loop-place.standing) ns i (Lit false) c.loop-place-test.true)
    ∙ c.loop-place.invariant.1 in
    record { answer = e; judged = judged takes ns (Err i) e; one_reading = one_tree takes ns }

pub loop-place-preserved : goal.loop-place-preserved
loop-place-preserved c =
    let ns = c.args.nodes.now in
    let i = c.loop-place.place in
    let d = c.loop-place.standing in (
      omega arith,
      ap (λ (k : ℕ). shape takes (i + 1) (d - k + 1) (drop (i + 1) ns)) c.operands-taken.ensures
          ∙ sym (shape_on takes i d (get_or ns i (Lit false)) (drop (i + 1) ns) (omega (arith, c.operands-taken.ensures)))
          ∙ sym (at_drop_more (shape takes i d) ns i (Lit false) c.loop-place-test.true)
          ∙ c.loop-place.invariant.1,
    )

pub returns-then-standing-eq1 : goal.returns-then-standing-eq1
returns-then-standing-eq1 c =
    let ns = c.args.nodes.now in
    let i = c.loop-place.place in
    let e =
    sym (shape_one takes i c.loop-place.standing c.if-standing-eq1.true)
    ∙ sym (at_drop_all (shape takes i c.loop-place.standing) ns i c.loop-place-test.false)
    ∙ c.loop-place.invariant.1 in
    record { answer = e; judged = judged takes ns (Ok tt) e; one_reading = one_tree takes ns }

pub returns-else-standing-eq1 : goal.returns-else-standing-eq1
returns-else-standing-eq1 c =
    let ns = c.args.nodes.now in
    let i = c.loop-place.place in
    let n : length c.args.nodes.now ≡ c.loop-place.place = omega arith in
    let e =
    ap Err n
    ∙ sym (shape_uneven takes i c.loop-place.standing c.if-standing-eq1.false)
    ∙ sym (at_drop_all (shape takes i c.loop-place.standing) ns i c.loop-place-test.false)
    ∙ c.loop-place.invariant.1 in
    record { answer = e; judged = judged takes ns (Err (length ns)) e; one_reading = one_tree takes ns }
