use Rattle.std.proofs.Common.{sym, ap, ◌∙◌}
use Rattle.policy.specs.Binding.{static_unbound}
use Rattle.policy_set.specs.Meaning.{maps_of}
use Rattle.policy_set.proofs.Sets.{sound}
use Rattle.policy_set.proofs.Sounds.{unlinked_slotless}
use Rattle.policy_set.proofs.set.PolicySet.in_force.Goals as goal

pub invariant_of-result-clause-exact : goal.invariant_of-result-clause-exact
invariant_of-result-clause-exact c =
    (sound c.args.self.now).values c.args.id c.in_ok-row.row c.in-Some.template (sym c.in_ok-row.ensures) (sym c.in-Some.ensures)

pub invariant_of-result-clause-unlinked : goal.invariant_of-result-clause-unlinked
invariant_of-result-clause-unlinked c =
    let set = c.args.self.now in
    ap (λ o. static_unbound o c.in-Some.template.slots.bits) c.then_some.ensures
    ∙ unlinked_slotless (maps_of set) (sound set) c.args.id c.in_ok-row.row c.in-Some.template (sym c.in_ok-row.ensures) (sym c.in-Some.ensures)
