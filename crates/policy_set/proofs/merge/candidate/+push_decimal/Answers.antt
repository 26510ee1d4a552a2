use Rattle.std.proofs.Common.{◌≡◌, ◌+◌, ◌/◌, ◌%◌, [], ◌∷◌, ◌++◌, length, decimal, ap, ◌∙◌, arith}
use Rattle.std.proofs.lemmas.Fmt.{decimal_step}
use Rattle.std.proofs.lemmas.List.{length-append}
use Rattle.std.proofs.lemmas.Str.{encode_ascii}
use Rattle.arrayvec.specs.ArrayString.{ArrayString}
use Rattle.policy_set.proofs.Candidates.{digit_more, digit_first}
use Rattle.policy_set.proofs.merge.candidate.+push_decimal.Goals as goal
use Rattle.policy_set.proofs.merge.candidate.+push_decimal.Goals.{then-n-ge10, else-n-ge10}

pub push_decimal-requires : goal.push_decimal-requires
push_decimal-requires t c =
    let e = decimal_step c.args.n c.if-n-ge10.true (omega (arith, c.ranges.n.fits)) in (
      omega (arith, c.decreases, c.if-n-ge10.true),
      omega (arith, c.requires, ap length e, length-append (decimal (c.args.n / 10)) ((48 + c.args.n % 10) ∷ [])),
    )

-- the text with the last digit
all_digits : (t : _) (c : goal.After-from t) → c.if-n-ge10.text.bytes ++ c.from.result ∷ [] ≡ c.args.text.now.bytes ++ decimal c.args.n
all_digits t c = elim c.if-n-ge10.branch [
  | then-n-ge10 w ↦ digit_more c.args.n c.from.result c.args.text.now.bytes c.if-n-ge10.text.bytes w.if-n-ge10.true c.ranges.n.fits c.from.ensures
      (ap (λ (s : ArrayString). s.bytes) w.text-is ∙ w.push_decimal.ensures)
  | else-n-ge10 w ↦ digit_first c.args.n c.from.result c.args.text.now.bytes c.if-n-ge10.text.bytes (omega (arith, w.if-n-ge10.false)) c.from.ensures
      (ap (λ (s : ArrayString). s.bytes) w.text-is)
]

pub push-requires : goal.push-requires
push-requires t c = (
  omega arith,
  omega (
    arith,
    c.requires,
    ap length (all_digits t c),
    ap length (encode_ascii c.from.result (omega (arith, c.from.ensures))),
    length-append c.if-n-ge10.text.bytes (c.from.result ∷ []),
    length-append c.args.text.now.bytes (decimal c.args.n),
  ),
)

pub returns : goal.returns
returns t c = c.push.ensures.ascii (omega (arith, c.from.ensures)) ∙ all_digits t c.before
