use Rattle.std.proofs.Common.{refl}
use Rattle.policy_set.proofs.edges.edge_cases.Goals as goal

pub returns : goal.returns
returns c = record {
  all_any = refl;
  eq_slot = refl;
  longest = refl;
  longer_word = refl;
  in_string = refl;
  resource_slot = refl;
  action_mask = refl;
  crossed_values = refl;
  link_of_static = refl;
  link_as_static = refl;
}
