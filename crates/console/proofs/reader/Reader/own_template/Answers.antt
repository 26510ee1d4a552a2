use Rattle.std.proofs.Common.{◌≡◌, Ok, Err, sym, refl, rules}
use Rattle.console.specs.declared.stop.Stop.TheVariants.{Refused}
use Rattle.console.proofs.reader.Reader.own_template.Goals as goal

pub returns-in_err-id-clause-template : goal.returns-in_err-id-clause-template
returns-in_err-id-clause-template g c =
    let e : c.from_residual.result ≡ Err (Refused c.in_err-id.field-0.0) = search rules in
    (Err (Refused c.in_err-id.field-0.0), sym c.in_err-id.ensures.id, (e, refl))

pub returns-in_err-template-clause-template : goal.returns-in_err-template-clause-template
returns-in_err-template-clause-template g c =
    let e : c.from_residual-in_err-template.result ≡ Err (Refused c.in_err-template.field-0.0) = search rules in
    (Ok c.in_ok-id.id, sym c.in_ok-id.ensures.id, (Err c.in_err-template.field-0.0, c.in_err-template.ensures, e))

pub returns-clause-template : goal.returns-clause-template
returns-clause-template g c = (Ok c.in_ok-id.id, sym c.in_ok-id.ensures.id, (Ok c.in_ok-template.field-0, c.in_ok-template.ensures, refl))
