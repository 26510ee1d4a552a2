use Rattle.std.proofs.Common.{◌≡◌, ◌≢◌, [], Err, rules}
use Rattle.names.specs.Book.{texts, limits}
use Rattle.console.specs.Bodies.{body, parts_of}
use Rattle.console.specs.Reader.{ReadsAs, given}
use Rattle.console.specs.Args.{left, rest}
use Rattle.console.specs.Templates.{by_parts}
use Rattle.console.specs.declared.stop.Stop.TheVariants.{Wrong}
use Rattle.console.proofs.Errors.{second_fails, over}
use Rattle.console.proofs.reader.Reader.id_and_body.Goals as goal

pub returns-in_err-body-clause-both : goal.returns-in_err-body-clause-both
returns-in_err-body-clause-both c =
    let ls = limits c.args.self.now.book in
    let words = rest (left c.args.args.now) in
    let us = texts c.read.new.reader.book in
    let s = c.in_err-body.field-0.0 in
    let e : c.from_residual-in_err-body.result ≡ Err s = search rules in
    let read : ReadsAs parts_of (Err s) us (body ls (texts c.id.new.self.book) words) = search rules in
    second_fails parts_of by_parts (λ x y. (x, y)) _ c.in_ok-id.id (texts c.id.new.self.book) (λ after. body ls after words) (rest (rest (rest (rest (rest words))))) s us
    c.from_residual-in_err-body.result c.in_ok-id.ensures.id read e

pub returns-in_err-end-clause-both : goal.returns-in_err-end-clause-both
returns-in_err-end-clause-both c =
    let ls = limits c.args.self.now.book in
    let words = rest (left c.args.args.now) in
    let us = texts c.read.new.reader.book in
    let e : c.from_residual-in_err-end.result ≡ Err (Wrong c.in_err-end.field-0.0) = search rules in
    let read : body ls (texts c.id.new.self.book) words ≡ given (parts_of c.in_ok-body.body) us = search rules in
    let more : rest (rest (rest (rest (rest words)))) ≢ [] = search rules in
    over by_parts (λ x y. (x, y)) _ c.in_ok-id.id (texts c.id.new.self.book) (λ after. body ls after words) (parts_of c.in_ok-body.body) (rest (rest (rest (rest (rest words))))) us
    c.from_residual-in_err-end.result c.in_err-end.field-0.0 c.in_ok-id.ensures.id read more e
