use Rattle.std.proofs.Common.{◌≡◌, ℕ, Bool, List, Ok, Err, Decides, Result, String, refl, sym, ap, ◌∙◌, subst, arith}
use Rattle.std.proofs.lemmas.Result.{err_from_is_err_and}
use Rattle.std.specs.declared.alloc.Global.{Global}
use Rattle.refusals.specs.declared.refusal.Refusal.{Refusal}
use Rattle.names.specs.Book.{texts, limits}
use Rattle.names.specs.Names.{Limits, name_answer}
use Rattle.names.specs.TypeName.{IsAction}
use Rattle.console.specs.Asked.{action, meant}
use Rattle.console.specs.Naming.{Answers, TellsNamed}
use Rattle.console.specs.declared.stop.Stop.{Stop}
use Rattle.console.specs.declared.stop.Stop.TheVariants.{NoMemory}
use Rattle.console.specs.declared.name_calls.NameCall.{NameCall}
use Rattle.console.proofs.name_calls.NameCall.make.Goals as goal

-- Too little memory for the word is no wrong answer.
no_memory : (ls : Limits) (ts : List (List ℕ)) (t : List ℕ) (n : ℕ) (b : Bool) → name_answer ls ts t ≡ Ok n → Decides b (IsAction t) → Answers ls ts (action t) (Err NoMemory)
no_memory ls ts t n b e d = subst (λ (a : Result ℕ Refusal). TellsNamed a (IsAction t) (Err NoMemory)) (sym e) (b, d, tt)

-- The number that the text was just given is there.
pub returns-in_err-is_action-in-Action-clause-answer :
    goal.returns-in_err-is_action-in-Action-clause-answer
returns-in_err-is_action-in-Action-clause-answer c =
    let r = c.in_ok-number-in-Action.ensures.laws.reads_back c.in_ok-number-in-Action.number refl in
    let k = (c.is_action.ensures.known r.0).1 in
    let w = c.in_err-is_action-in-Action.was in
    let z : ◌≡◌ {A = ℕ} 0 1 = cc in
    absurd (omega arith)

pub returns-in_err-yes_or_no-in-Action-clause-answer :
    goal.returns-in_err-yes_or_no-in-Action-clause-answer
returns-in_err-yes_or_no-in-Action-clause-answer c =
    let ls = limits c.args.book.now in
    let ts = texts c.args.book.now in
    let n = c.in_ok-number-in-Action.number in
    let r = c.in_ok-number-in-Action.ensures.laws.reads_back n refl in
    let k = c.is_action.ensures.known r.0 in
    let p = err_from_is_err_and c.from_residual-in_err-yes_or_no-in-Action.result c.from_residual-in_err-yes_or_no-in-Action.ensures.1 in
    let m = no_memory ls ts c.as_slice-in-Action.result.now n k.0 (sym c.in_ok-number-in-Action.ensures.answer)
    (subst (λ (t : List ℕ). Decides k.0 (IsAction t)) r.1 k.2) in
    subst (λ (a : Result (String Global) Stop). Answers ls ts (meant c.args.self) a) (sym (p.1 ∙ ap Err p.2))
    (subst (λ (s : NameCall). Answers ls ts (meant s) (Err NoMemory)) (sym c.in-Action.is)
    (subst (λ (t : List ℕ). Answers ls ts (action t) (Err NoMemory)) c.as_slice-in-Action.ensures.value m))
