-- What a policy set means.
use Rattle.policy_set.specs.declared.set.PolicySet.{PolicySet}
use Rattle.policy_set.specs.Maps.{Maps}
use Rattle.policy_set.specs.Held.{maps_in}

-- The maps of a policy set.
abbrev pub maps_of : PolicySet → Maps
maps_of s = maps_in s.templates s.policies s.members
