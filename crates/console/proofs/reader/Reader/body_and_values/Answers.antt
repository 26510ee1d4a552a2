use Rattle.std.proofs.Common.{◌≡◌, ◌≢◌, [], Err, subst, sym, rules}
use Rattle.names.specs.Book.{texts, limits}
use Rattle.console.specs.Bodies.{parts_of}
use Rattle.console.specs.Reader.{ReadsAs, given, made, values}
use Rattle.console.specs.Args.{left, rest}
use Rattle.console.specs.TemplateLines.{body_and, behind_body, body_and_values}
use Rattle.console.specs.declared.stop.Stop.TheVariants.{Wrong}
use Rattle.console.proofs.Errors.{fails_first, second_fails, over}
use Rattle.console.proofs.reader.Reader.body_and_values.Goals as goal

pub returns-in_err-body-clause-both : goal.returns-in_err-body-clause-both
returns-in_err-body-clause-both c =
    let ls = limits c.args.self.now.book in
    let words = left c.args.args.now in
    let us = texts c.read.new.reader.book in
    let s = c.in_err-body.field-0.0 in
    let e : c.from_residual.result ≡ Err s = search rules in
    subst (λ r. ReadsAs body_and r us (body_and_values ls (texts c.args.self.now.book) words)) (sym e)
    (fails_first parts_of body_and (λ parts after. made (λ env. (parts, env)) (values ls after (behind_body words))) (rest (rest (behind_body words))) s us _ c.in_err-body.ensures.body)

pub returns-in_err-values-clause-both : goal.returns-in_err-values-clause-both
returns-in_err-values-clause-both c =
    let ls = limits c.args.self.now.book in
    let words = left c.args.args.now in
    let us = texts c.values.new.self.book in
    let s = c.in_err-values.field-0.0 in
    let e : c.from_residual-in_err-values.result ≡ Err s = search rules in
    let read : ReadsAs (λ env. env) (Err s) us (values ls (texts c.read.new.reader.book) (behind_body words)) = search rules in
    second_fails (λ env. env) body_and (λ x y. (x, y)) _ (parts_of c.in_ok-body.body) (texts c.read.new.reader.book) (λ after. values ls after (behind_body words)) (rest (rest (behind_body words))) s us
    c.from_residual-in_err-values.result c.in_ok-body.ensures.body read e

pub returns-in_err-end-clause-both : goal.returns-in_err-end-clause-both
returns-in_err-end-clause-both c =
    let ls = limits c.args.self.now.book in
    let words = left c.args.args.now in
    let us = texts c.values.new.self.book in
    let e : c.from_residual-in_err-end.result ≡ Err (Wrong c.in_err-end.field-0.0) = search rules in
    let read : values ls (texts c.read.new.reader.book) (behind_body words) ≡ given c.in_ok-values.values us = search rules in
    let more : rest (rest (behind_body words)) ≢ [] = search rules in
    over body_and (λ x y. (x, y)) _ (parts_of c.in_ok-body.body) (texts c.read.new.reader.book) (λ after. values ls after (behind_body words)) c.in_ok-values.values (rest (rest (behind_body words))) us
    c.from_residual-in_err-end.result c.in_err-end.field-0.0 c.in_ok-body.ensures.body read more e
