use Rattle.std.proofs.Common.{◌≡◌, ℕ, ◌+◌, List, take, None, Some, sym, ap, ◌∙◌, rules, tests}
use Rattle.script.specs.PartsLent.{lent_parts}
use Rattle.std.proofs.lemmas.Iterator.{YieldsList-from_slice, IsFirst-from_position}
use Rattle.std.proofs.lemmas.List.{take_rest}
use Rattle.script.proofs.Splits.{split_first}
use Rattle.script.proofs.parts.split_once.Goals as goal

pub returns-in_err-i : goal.returns-in_err-i
returns-in_err-i c =
    ap lent_parts c.from_residual.ensures
    ∙ sym (split_first c.args.byte c.args.word.now c.position.result None c.in_err-i.was
    (IsFirst-from_position _ _ _ (λ (b : ℕ). b ≡ c.args.byte) (λ (b : ℕ). b ≡ c.args.byte → ⊥) c.position.ensures.ran
    (YieldsList-from_slice c.args.word.now cc) (λ x q k. search (rules, tests)) (λ x q k. search (rules, tests))))

pub returns : goal.returns
returns c =
    ap (λ (rest : List ℕ). Some (take c.in_ok-i.i c.args.word.now, rest)) (take_rest c.args.word.now (c.in_ok-i.i + 1))
    ∙ sym (split_first c.args.byte c.args.word.now c.position.result (Some c.in_ok-i.i) c.in_ok-i.was
    (IsFirst-from_position _ _ _ (λ (b : ℕ). b ≡ c.args.byte) (λ (b : ℕ). b ≡ c.args.byte → ⊥) c.position.ensures.ran
    (YieldsList-from_slice c.args.word.now cc) (λ x q k. search (rules, tests)) (λ x q k. search (rules, tests))))
