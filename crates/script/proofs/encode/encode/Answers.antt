use Rattle.std.proofs.Common.{◌<◌, length, sym, ap, ◌∙◌, arith, take_all, false-eqb}
use Rattle.std.specs.List.{flat_map}
use Rattle.script.specs.Percent.{written, decoded}
use Rattle.script.proofs.Encoding.{decoded-encoded, encoded-joined}
use Rattle.script.proofs.encode.encode.Goals as goal

pub returns-clause-reads_back : goal.returns-clause-reads_back
returns-clause-reads_back c =
    let text = c.args.text.now in
    let some : 0 < length text = omega (arith, false-eqb (length text) 0 c.if-is_empty.ensures) in
    let word = c.loop-byte.invariant ∙ ap (flat_map (written c.args.colon)) (take_all c.loop-byte.byte-index text c.loop-byte-test.false)
    ∙ sym (encoded-joined c.args.colon text some) in
    ap decoded word ∙ decoded-encoded c.args.colon text (λ i. omega (arith, c.type_inv.text i))
