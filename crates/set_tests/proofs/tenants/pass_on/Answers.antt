use Rattle.std.proofs.Common.{◌≡◌, Some, Ok, sym, subst, ◌∙◌}
use Rattle.policy.specs.Arity.{parts}
use Rattle.policy_set.specs.Handed.{parts_found}
use Rattle.policy_set.specs.Meaning.{maps_of}
use Rattle.set_tests.specs.Tenants.{PassingOn}
use Rattle.set_tests.proofs.PassingOn.{got, taken}
use Rattle.set_tests.proofs.tenants.pass_on.Goals as goal

pub returns-clause-law : goal.returns-clause-law
returns-clause-law c =
    let before = maps_of c.args.set.now in
    let free = maps_of c.leave.new.set in
    let after = maps_of c.link.new.self in
    let q = parts c.in_ok-link.field-0 in
    let found : parts_found c.get.result ≡ Ok (Some q) =
    c.get.ensures.answer ∙ got _ before free after c.args.id _ q _ c.in_ok-leave.ensures.answer c.in_ok-link.ensures.law in
    subst (PassingOn before after c.args.id c.args.template_id c.args.values) (sym found)
    (taken _ before free after c.args.id c.args.template_id c.args.values _ q _ c.in_ok-leave.ensures.law c.in_ok-link.ensures.law c.leave.ensures.after
    c.in_ok-link.ensures.answer)
