use Rattle.std.proofs.Common.{◌≡◌, Ok, Err, refl, rules}
use Rattle.names.specs.Book.{texts, limits}
use Rattle.console.specs.Bodies.{parts_of}
use Rattle.console.specs.TemplateLines.{body_and, OwnTemplate}
use Rattle.console.proofs.Errors.{same_error}
use Rattle.console.proofs.reader.Reader.condition.Goals as goal

pub returns-in_err-body-clause-line : goal.returns-in_err-body-clause-line
returns-in_err-body-clause-line g c =
    let us = texts c.body_and_room.new.self.book in
    let e : c.from_residual.result ≡ Err c.in_err-body.field-0.0 = search rules in
    (Err c.in_err-body.field-0.0, us, same_error body_and (λ both. both) c.in_err-body.field-0.0 us _ c.in_err-body.ensures.both, (e, refl))

pub returns-in_err-template-clause-line : goal.returns-in_err-template-clause-line
returns-in_err-template-clause-line g c =
    let us = texts c.body_and_room.new.self.book in
    let e : c.from_residual-in_err-template.result ≡ Err c.in_err-template.field-0.0 = search rules in
    let made : OwnTemplate (limits c.args.self.now.book) us (g.B.ClauseBook.listed c.args.clauses.now) (parts_of c.in_ok-body.body) (Err c.in_err-template.field-0.0) (texts c.own_template.new.self.book) = search rules in
    (Ok (parts_of c.in_ok-body.body, c.in_ok-body.room), us, c.in_ok-body.ensures.both, (Err c.in_err-template.field-0.0, made, (e, refl)))

pub returns-clause-line : goal.returns-clause-line
returns-clause-line g c =
    let us = texts c.body_and_room.new.self.book in
    let made : OwnTemplate (limits c.args.self.now.book) us (g.B.ClauseBook.listed c.args.clauses.now) (parts_of c.in_ok-body.body) (Ok c.in_ok-template.template) (texts c.own_template.new.self.book) = search rules in
    (Ok (parts_of c.in_ok-body.body, c.in_ok-body.room), us, c.in_ok-body.ensures.both, (Ok c.in_ok-template.template, made, c.condition_line.ensures))
