-- Policies that a call hands back, by their parts.
use Rattle.std.specs.Prelude.{Ok, Err, Option, Result}
use Rattle.refusals.specs.declared.refusal.Refusal.{Refusal}
use Rattle.policy.specs.Arity.{Parts, parts}
use Rattle.policy.specs.declared.bound.Policy.{Policy}
use Rattle.policy_set.specs.Maps.{changed}

-- An answer with a policy that may be absent.
abbrev pub parts_found : Result (Option Policy) Refusal → Result (Option Parts) Refusal
parts_found (Ok o) = Ok (changed parts o)
parts_found (Err e) = Err e
