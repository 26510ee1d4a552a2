use Rattle.std.proofs.Common.{◌≡◌, ℕ, List, [], ◌∷◌, length, Ok, Err, Result, codes, string_bytes, rules}
use Rattle.refusals.specs.declared.refusal.Refusal.{Refusal}
use Rattle.names.specs.Book.{texts}
use Rattle.policy.specs.Filled.{filled}
use Rattle.policy.specs.Known.{policy_known}
use Rattle.policy.specs.declared.template.Template.{Template}
use Rattle.printing.specs.Print.{spaced}
use Rattle.printing.specs.Scopes.{scope_word}
use Rattle.console.proofs.Answers.{carried}
use Rattle.console.proofs.set_reads.filled_line.Goals as goal

-- The line of a filled template.
abbrev line_of : List (List ℕ) → Template → List ℕ
line_of us t = spaced (codes "ok") (scope_word us t.principal ∷ scope_word us t.resource ∷ [])

-- That line, as an answer.
abbrev shown : List (List ℕ) → Template → Result (List ℕ) Refusal
shown us t = Ok (line_of us t)

pub returns-in_err-filled : goal.returns-in_err-filled
returns-in_err-filled g c =
    let us = texts c.args.book.now in
    let cs = g.B.ClauseBook.listed c.args.clauses.now in
    let refused = carried (policy_known (length us) cs c.in-Some.policy) (Err c.in_err-filled.field-0.0) (filled cs c.in-Some.policy) (shown us) c.in_err-filled.ensures.answer in
    search (rules, refused)

pub returns : goal.returns
returns g c =
    let us = texts c.args.book.now in
    let cs = g.B.ClauseBook.listed c.args.clauses.now in
    let line : string_bytes c.push_scope-2.new.line ≡ line_of us c.in_ok-filled.filled = search rules in
    let answered = carried (policy_known (length us) cs c.in-Some.policy) (Ok c.in_ok-filled.filled) (filled cs c.in-Some.policy) (shown us) c.in_ok-filled.ensures.answer in
    search (rules, answered, line)
