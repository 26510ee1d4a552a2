use Rattle.std.proofs.Common.{Some, sym, ◌∙◌}
use Rattle.std.proofs.lemmas.Result.{err_from_is_err_and}
use Rattle.policy.specs.Arity.{bindable, parts}
use Rattle.policy_set.specs.Meaning.{maps_of}
use Rattle.policy_set.proofs.Refusing.{then_refused, then_accepted, linked_taken}
use Rattle.policy_set.proofs.set.PolicySet.linked.Goals as goal

pub returns-in_err-policy : goal.returns-in_err-policy
returns-in_err-policy c =
    let t = c.args.template.now in
    let p = err_from_is_err_and c.from_residual.result c.from_residual.ensures.1 in
    rw (p.1, p.2) (then_refused (bindable t.slots c.args.values) c.in_err-policy.field-0.0 record { template = t; link = Some c.args.new; values = c.args.values } _ c.in_err-policy.ensures)

pub returns-then-is_bound : goal.returns-then-is_bound
returns-then-is_bound c =
    let t = c.args.template.now in
    let a = then_accepted (bindable t.slots c.args.values) record { template = t; link = Some c.args.new; values = c.args.values } (parts c.in_ok-policy.policy) c.in_ok-policy.ensures in
    linked_taken (maps_of c.args.self.now) c.args.new c.args.values t a.0 (sym c.is_bound.ensures ∙ c.if-is_bound.true)
