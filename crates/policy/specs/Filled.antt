-- The template of a policy with its slots' values in its scopes.
use Rattle.std.specs.Prelude.{◌≡◌, Bool, true, false, cond, ◌&&◌, List}
use Rattle.refusals.specs.declared.slots.SlotId.TheVariants.{Principal, Resource}
use Rattle.clauses.specs.Book.{Clause}
use Rattle.policy.specs.declared.values.SlotEnv.{SlotEnv}
use Rattle.policy.specs.declared.template.Template.{Template}
use Rattle.policy.specs.declared.bound.Policy.{Policy}
use Rattle.policy.specs.Slots.{has, slots_where}
use Rattle.policy.specs.Meaning.{World, InScope}
use Rattle.policy.specs.Filling.{fill, slotted, Iff}
use Rattle.policy.specs.Mentions.{part_has, condition_slots}

-- Both scopes are filled; the slots are those that are left.
abbrev pub filled : {C : Type 0} → List (Clause C) → Policy → Template
filled cs p =
    let principal = fill p.values.principal p.template.principal in
    let resource = fill p.values.resource p.template.resource in
    record {
      id = p.template.id;
      effect = p.template.effect;
      principal = principal;
      action = p.template.action;
      resource = resource;
      clause = p.template.clause;
      slots = slots_where (part_has cs principal resource p.template.clause);
    }

-- The slots that the scopes refer to are in the slots field.
abbrev pub scopes_within : Template → Bool
scopes_within t = cond (slotted t.principal) (has Principal t.slots) true && cond (slotted t.resource) (has Resource t.slots) true

-- The laws of a filled policy.
pub record FillsPolicy {C : Type 0} (cs : List (Clause C)) (p : Policy) : Type 0 where
  -- its slots are those of its condition
  pub slots : (filled cs p).slots ≡ condition_slots cs (filled cs p)
  -- its scopes have no slot left
  pub principal_closed : scopes_within p.template ≡ true → slotted (filled cs p).principal ≡ false
  pub resource_closed : scopes_within p.template ≡ true → slotted (filled cs p).resource ≡ false
  -- and whatever the slots would have, a request lies in them exactly when it lies in the template's under the policy's values
  pub same_scope : scopes_within p.template ≡ true → (w : World) (env : SlotEnv)
      → Iff (InScope w env (filled cs p)) (InScope w p.values p.template)
