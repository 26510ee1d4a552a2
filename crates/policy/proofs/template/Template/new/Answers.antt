use Rattle.std.proofs.Common.{◌≡◌, true, IfOk, Result, sym, refl, ◌∙◌, subst}
use Rattle.refusals.specs.declared.refusal.Refusal.{Refusal}
use Rattle.names.specs.Book.{texts}
use Rattle.names.proofs.TypeNames.{scan_decides}
use Rattle.policy.specs.declared.template.Template.{Template}
use Rattle.policy.specs.Filled.{scopes_within}
use Rattle.policy.specs.Making.{Makes}
use Rattle.policy.proofs.Testing.{broke}
use Rattle.policy.proofs.Within.{parts_slots, within-parts}
use Rattle.policy.proofs.Makings.{makes_refused, makes_made, within_made}
use Rattle.policy.proofs.template.Template.new.Goals as goal

pub returns-in_err-action : goal.returns-in_err-action
returns-in_err-action g c =
    let ts = texts c.args.names.now in
    let cs = g.B.ClauseBook.listed c.args.clauses.now in
    let e = broke c.from_residual.result c.from_residual.ensures.1 in
    record {
      answer =
          subst (λ (r : Result Template Refusal). Makes ts cs c.args.id c.args.effect c.args.principal c.args.action c.args.resource c.args.clause r) (sym e)
          (makes_refused ts cs c.args.id c.args.effect c.args.principal c.args.action c.args.resource c.args.clause _ c.in_err-action.ensures);
      within = subst (λ (r : Result Template Refusal). IfOk r (λ t. scopes_within t ≡ true)) (sym e) tt;
      types = scan_decides;
    }

pub returns : goal.returns
returns g c =
    let ts = texts c.args.names.now in
    let cs = g.B.ClauseBook.listed c.args.clauses.now in
    let t : Template = record {
      id = c.args.id;
      effect = c.args.effect;
      principal = c.args.principal;
      action = c.in_ok-action.action;
      resource = c.args.resource;
      clause = c.args.clause;
      slots = c.slots_of-slots.result;
    } in
    record {
      answer =
          makes_made ts cs c.args.id c.args.effect c.args.principal c.args.action c.args.resource c.args.clause
          c.in_ok-action.action c.kept.result c.in_ok-action.ensures
          (λ given. (
            t,
            record {
              made_id = refl;
              made_effect = refl;
              made_principal = refl;
              made_action = given;
              made_resource = refl;
              made_clause = refl;
              made_slots = c.slots_of-slots.ensures ∙ parts_slots cs (g.met.B.ClauseBook.lawful c.args.clauses.now) t;
            },
            c.kept.ensures,
          ));
      within = within_made ts cs t c.kept.result c.kept.ensures (within-parts cs t c.slots_of-slots.ensures);
      types = scan_decides;
    }
