use Rattle.std.proofs.Common.{ℕ, ◌<◌, List, length, None, sym, ap, ◌∙◌, arith, true-eqb, false-eqb}
use Rattle.std.proofs.lemmas.List.{nil_from_length}
use Rattle.script.specs.Number.{numeral, at_most}
use Rattle.script.proofs.Numerals.{numeral_continued, reads_back}
use Rattle.script.proofs.number.read_number.Goals as goal

pub returns-then-is_empty-clause-reads_back : goal.returns-then-is_empty-clause-reads_back
returns-then-is_empty-clause-reads_back c =
    reads_back c.args.most c.args.word.now None (omega arith)
    (sym (ap (λ (w : List ℕ). at_most c.args.most (numeral w)) (nil_from_length c.args.word.now (true-eqb _ 0 c.if-is_empty.ensures))))

pub returns-clause-reads_back : goal.returns-clause-reads_back
returns-clause-reads_back c =
    let some : 0 < length c.args.word.now = omega (arith, false-eqb (length c.args.word.now) 0 c.if-is_empty.ensures) in
    reads_back c.args.most c.args.word.now c.read_digits.result (omega arith)
    (c.read_digits.ensures ∙ ap (at_most c.args.most) (sym (numeral_continued c.args.word.now some)))
