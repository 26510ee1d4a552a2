use Rattle.std.proofs.Common.{◌≡◌, length, None, Ok, Err, string_bytes, codes, refl, rules}
use Rattle.names.specs.Book.{texts, limits}
use Rattle.policy.specs.Calls.{binding_answer}
use Rattle.policy.specs.Known.{and_then}
use Rattle.console.specs.Answered.{AnswersAs}
use Rattle.console.specs.Bodies.{parts_of}
use Rattle.console.specs.TemplateLines.{body_and, OwnTemplate}
use Rattle.console.proofs.Errors.{same_error}
use Rattle.console.proofs.reader.Reader.binding.Goals as goal

pub returns-in_err-body-clause-line : goal.returns-in_err-body-clause-line
returns-in_err-body-clause-line g c =
    let us = texts c.body_and_values.new.self.book in
    let e : c.from_residual.result ≡ Err c.in_err-body.field-0.0 = search rules in
    (Err c.in_err-body.field-0.0, us, same_error body_and (λ both. both) c.in_err-body.field-0.0 us _ c.in_err-body.ensures.both, (e, refl))

pub returns-in_err-template-clause-line : goal.returns-in_err-template-clause-line
returns-in_err-template-clause-line g c =
    let us = texts c.body_and_values.new.self.book in
    let e : c.from_residual-in_err-template.result ≡ Err c.in_err-template.field-0.0 = search rules in
    let made : OwnTemplate (limits c.args.self.now.book) us (g.B.ClauseBook.listed c.args.clauses.now) (parts_of c.in_ok-body.body) (Err c.in_err-template.field-0.0) (texts c.own_template.new.self.book) = search rules in
    (Ok (parts_of c.in_ok-body.body, c.in_ok-body.values), us, c.in_ok-body.ensures.both, (Err c.in_err-template.field-0.0, made, (e, refl)))

pub returns-in_err-check_binding-clause-line : goal.returns-in_err-check_binding-clause-line
returns-in_err-check_binding-clause-line g c =
    let us = texts c.body_and_values.new.self.book in
    let after = texts c.own_template.new.self.book in
    let made : OwnTemplate (limits c.args.self.now.book) us (g.B.ClauseBook.listed c.args.clauses.now) (parts_of c.in_ok-body.body) (Ok c.in_ok-template.template) after = search rules in
    let shown : AnswersAs string_bytes c.from_residual-in_err-check_binding.result
    (and_then (binding_answer (length after) (g.B.ClauseBook.listed c.args.clauses.now) c.in_ok-template.template None c.in_ok-body.values) (Ok (codes "ok"))) = search rules in
    (Ok (parts_of c.in_ok-body.body, c.in_ok-body.values), us, c.in_ok-body.ensures.both, (Ok c.in_ok-template.template, made, shown))

pub returns-in_err-from_str-clause-line : goal.returns-in_err-from_str-clause-line
returns-in_err-from_str-clause-line g c =
    let us = texts c.body_and_values.new.self.book in
    let after = texts c.own_template.new.self.book in
    let made : OwnTemplate (limits c.args.self.now.book) us (g.B.ClauseBook.listed c.args.clauses.now) (parts_of c.in_ok-body.body) (Ok c.in_ok-template.template) after = search rules in
    let shown : AnswersAs string_bytes c.from_residual-in_err-from_str.result
    (and_then (binding_answer (length after) (g.B.ClauseBook.listed c.args.clauses.now) c.in_ok-template.template None c.in_ok-body.values) (Ok (codes "ok"))) = search rules in
    (Ok (parts_of c.in_ok-body.body, c.in_ok-body.values), us, c.in_ok-body.ensures.both, (Ok c.in_ok-template.template, made, shown))

pub returns-clause-line : goal.returns-clause-line
returns-clause-line g c =
    let us = texts c.body_and_values.new.self.book in
    let after = texts c.own_template.new.self.book in
    let made : OwnTemplate (limits c.args.self.now.book) us (g.B.ClauseBook.listed c.args.clauses.now) (parts_of c.in_ok-body.body) (Ok c.in_ok-template.template) after = search rules in
    let shown : AnswersAs string_bytes (Ok c.in_ok-from_str.field-0)
    (and_then (binding_answer (length after) (g.B.ClauseBook.listed c.args.clauses.now) c.in_ok-template.template None c.in_ok-body.values) (Ok (codes "ok"))) = search rules in
    (Ok (parts_of c.in_ok-body.body, c.in_ok-body.values), us, c.in_ok-body.ensures.both, (Ok c.in_ok-template.template, made, shown))
