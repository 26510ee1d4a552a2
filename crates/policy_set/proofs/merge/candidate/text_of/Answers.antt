use Rattle.std.proofs.Common.{arith, length, decimal, List, ap, ◌∙◌, ◌++◌, ℕ}
use Rattle.std.proofs.lemmas.Fmt.{length-decimal-le}
use Rattle.std.proofs.lemmas.List.{length-append}
use Rattle.policy_set.specs.Choice.{candidate}
use Rattle.policy_set.proofs.merge.candidate.text_of.Goals as goal

pub push_decimal-requires : goal.push_decimal-requires
push_decimal-requires c =
    omega (arith, length-decimal-le 10 c.args.counter (omega arith) (omega (arith, c.ranges.counter.fits)) (omega (arith, c.ranges.counter.fits)), ap length c.new-text.ensures, c.push_str.ensures.len)

pub returns-clause-value : goal.returns-clause-value
unfolding candidate
returns-clause-value c =
    c.push_decimal.ensures ∙ ap (λ (xs : List ℕ). xs ++ decimal c.args.counter) (c.push_str.ensures.bytes ∙ ap (λ (xs : List ℕ). xs ++ _) c.new-text.ensures)

pub returns-clause-short : goal.returns-clause-short
returns-clause-short c =
    omega (
      arith,
      length-decimal-le 10 c.args.counter (omega arith) (omega (arith, c.ranges.counter.fits)) (omega (arith, c.ranges.counter.fits)),
      ap length c.new-text.ensures,
      c.push_str.ensures.len,
      ap length c.push_decimal.ensures,
      length-append c.push_str.new.self.bytes (decimal c.args.counter),
    )
