use Rattle.std.proofs.Common.{◌≡◌, Ok, Err, refl, rules}
use Rattle.names.specs.Book.{texts}
use Rattle.console.specs.Bodies.{parts_of}
use Rattle.console.specs.Templates.{by_parts}
use Rattle.console.specs.declared.stop.Stop.TheVariants.{Refused}
use Rattle.console.proofs.Errors.{same_error}
use Rattle.console.proofs.reader.Reader.template.Goals as goal

pub returns-in_err-id-clause-template : goal.returns-in_err-id-clause-template
returns-in_err-id-clause-template g c =
    let e : c.from_residual.result ≡ Err c.in_err-id.field-0.0 = search rules in
    (Err c.in_err-id.field-0.0, same_error by_parts (λ both. both) c.in_err-id.field-0.0 (texts c.id_and_body.new.self.book) _ c.in_err-id.ensures.both, (e, refl))

pub returns-in_err-template-clause-template : goal.returns-in_err-template-clause-template
returns-in_err-template-clause-template g c =
    let e : c.from_residual-in_err-template.result ≡ Err (Refused c.in_err-template.field-0.0) = search rules in
    (Ok (c.in_ok-id.id, parts_of c.in_ok-id.body), c.in_ok-id.ensures.both, (Err c.in_err-template.field-0.0, c.in_err-template.ensures, e))

pub returns-clause-template : goal.returns-clause-template
returns-clause-template g c = (Ok (c.in_ok-id.id, parts_of c.in_ok-id.body), c.in_ok-id.ensures.both, (Ok c.in_ok-template.field-0, c.in_ok-template.ensures, refl))
