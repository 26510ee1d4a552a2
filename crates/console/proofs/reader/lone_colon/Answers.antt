use Rattle.std.proofs.Common.{◌≡◌, ℕ, suc, ◌+◌, ◌-◌, Bool, false, cond, List, length, Some, ap, ◌∙◌, arith, rules}
use Rattle.console.specs.Reader.{lone, lone_from}
use Rattle.console.proofs.reader.lone_colon.Goals as goal

-- A place that is none of those is left out.
passed : (word : List ℕ) (i m n : ℕ) → m ≡ suc n → lone word i ≡ false → lone_from word i m ≡ lone_from word (i + 1) n
passed word i m n e f = ap (lone_from word i) e ∙ ap (λ (b : Bool). cond b (Some i) (lone_from word (i + 1) n)) f

pub loop-i-preserved : goal.loop-i-preserved
loop-i-preserved c =
    let w = c.args.word.now in
    let i = c.loop-i.i in
    let none : lone w i ≡ false = search rules in
    c.loop-i.invariant ∙ passed w i (length w - i) (length w - (i + 1)) (omega arith) none
