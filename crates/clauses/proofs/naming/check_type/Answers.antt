use Rattle.std.proofs.Common.{[], get_or, Ok, Err, sym, refl, ◌∙◌}
use borrow.Author.Tests.{clash}
use Rattle.std.proofs.lemmas.Bool.{cond-true, cond-false}
use Rattle.std.proofs.lemmas.Bool.Decides.{not_from_Decides}
use Rattle.refusals.specs.declared.refusal.Refusal.TheVariants.{BadTypeName}
use Rattle.names.specs.declared.type_name.Scan.TheVariants.{Start}
use Rattle.names.specs.Scan.{scanned, accepts}
use Rattle.names.specs.Book.{texts}
use Rattle.names.proofs.TypeNames.{scan_decides}
use Rattle.clauses.proofs.Checks.{type_told}
use Rattle.clauses.proofs.naming.check_type.Goals as goal

pub returns-then-unwrap_or : goal.returns-then-unwrap_or
returns-then-unwrap_or c =
    let text = get_or (texts c.args.names.now) c.args.name [] in
    let h =
    sym (type_told (texts c.args.names.now) c.args.name c.is_type_name.result c.is_type_name.ensures)
    ∙ sym c.unwrap_or.ensures ∙ c.if-unwrap_or.true in
    record {
      answer = sym (cond-true (accepts (scanned Start text)) (Ok tt) (Err (BadTypeName c.args.name)) h);
      typed = (λ _. (scan_decides text).0 h, λ _. refl);
    }

pub returns-else-unwrap_or : goal.returns-else-unwrap_or
returns-else-unwrap_or c =
    let text = get_or (texts c.args.names.now) c.args.name [] in
    let h =
    sym (type_told (texts c.args.names.now) c.args.name c.is_type_name.result c.is_type_name.ensures)
    ∙ sym c.unwrap_or.ensures ∙ c.if-unwrap_or.false in
    record {
      answer = sym (cond-false (accepts (scanned Start text)) (Ok tt) (Err (BadTypeName c.args.name)) h);
      typed = (λ e. absurd (clash e), λ t. absurd (not_from_Decides (accepts (scanned Start text)) (scan_decides text) h t));
    }
