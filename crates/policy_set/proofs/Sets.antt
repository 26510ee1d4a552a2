-- The invariant of a set's type.
use Rattle.policy_set.specs.declared.set.PolicySet.{PolicySet}
use Rattle.policy_set.specs.Sound.{Sound}
use Rattle.policy_set.specs.Meaning.{maps_of}
use Rattle.policy_set.proofs.Sounds.{sound_of}
use Rattle.policy_set.proofs.Updates.{Kept}

pub sound : (s : PolicySet) → Sound (maps_of s)
sound s = sound_of (maps_of s) s.templates.once s.policies.once s.members.once s.names_one s.valued s.scoped s.same_members

pub kept_in : (s : PolicySet) → Kept (maps_of s)
kept_in s = record { one = s.names_one; values = s.valued; scopes = s.scoped; members = s.same_members }
