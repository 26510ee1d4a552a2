use Rattle.std.proofs.Common.{refl}
use Rattle.policy.proofs.Exact.{bound_exact}
use Rattle.policy.proofs.binding.linked.Goals as goal

pub invariant_of-result : goal.invariant_of-result
invariant_of-result c =
    record {
      exact = bound_exact c.args.template.now.slots c.args.values c.in_ok-bindable.ensures;
      unlinked = refl;
    }
