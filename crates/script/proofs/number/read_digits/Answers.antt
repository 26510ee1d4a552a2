use Rattle.std.proofs.Common.{◌≡◌, ℕ, ◌+◌, ◌<◌, List, length, get_or, drop, Some, None, Option, sym, ap, ◌∙◌}
use Rattle.std.proofs.lemmas.List.{at_drop_more}
use Rattle.script.specs.Number.{one_more, continued, at_most}
use Rattle.script.proofs.Numerals.{none_stays, early}
use Rattle.script.proofs.number.read_digits.Goals as goal

-- What was read up to a place gives the number there; so it does with the digit there.
step : (most : ℕ) (digits : List ℕ) (i value : ℕ) (next whole : Option ℕ) → i < length digits → next ≡ at_most most (one_more (Some value) (get_or digits i 0))
    → at_most most (continued (Some value) (drop i digits)) ≡ whole → at_most most (continued next (drop (i + 1) digits)) ≡ whole
step most digits i value next whole h e read =
    ap (λ (o : Option ℕ). at_most most (continued o (drop (i + 1) digits))) e
    ∙ early most (one_more (Some value) (get_or digits i 0)) (drop (i + 1) digits)
    ∙ sym (ap (at_most most) (at_drop_more (continued (Some value)) digits i 0 h))
    ∙ read

pub returns-in_err-value : goal.returns-in_err-value
returns-in_err-value c =
    c.from_residual.ensures
    ∙ sym (ap (at_most c.args.most) (none_stays (drop (c.loop-byte.byte-index + 1) c.args.digits.now)))
    ∙ step c.args.most c.args.digits.now c.loop-byte.byte-index c.loop-byte.value None _ c.loop-byte-test.true (sym c.in_err-value.was ∙ c.with_digit.ensures) c.loop-byte.invariant.1
