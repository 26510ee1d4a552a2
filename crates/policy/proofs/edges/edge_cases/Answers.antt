use Rattle.std.proofs.Common.{refl}
use Rattle.policy.proofs.edges.edge_cases.Goals as goal

pub returns : goal.returns
returns c = record { all_any = refl; eq_slot = refl; longest = refl; crossed_values = refl; longer_word = refl; in_string = refl; resource_slot = refl }
