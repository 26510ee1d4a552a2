-- Binding: each slot of the template is to have a value, and each value a slot.
use Rattle.std.specs.Prelude.{◌≡◌, ℕ, cond, not, ◌&&◌, is_ok, Ok, Err, Decides, Option, Result, ◌==◌}
use Rattle.refusals.specs.declared.slots.SlotId.{SlotId}
use Rattle.refusals.specs.declared.slots.SlotSet.{SlotSet}
use Rattle.refusals.specs.declared.refusal.Refusal.{Refusal}
use Rattle.refusals.specs.declared.refusal.Refusal.TheVariants.{ArityError}
use Rattle.policy.specs.declared.values.SlotEnv.{SlotEnv}
use Rattle.policy.specs.declared.template.Template.{Template}
use Rattle.policy.specs.declared.bound.Policy.{Policy}
use Rattle.policy.specs.Slots.{has, slots_where, bound}

-- The slots without a value.
abbrev pub unbound : SlotSet → SlotEnv → SlotSet
unbound slots env = slots_where (λ slot. has slot slots && not (bound env slot))

-- The slots that have a value and are not among these.
abbrev pub extra : SlotSet → SlotEnv → SlotSet
extra slots env = slots_where (λ slot. bound env slot && not (has slot slots))

-- Refusal 12 unless both are empty.
abbrev pub bindable : SlotSet → SlotEnv → Result (Unit {0}) Refusal
bindable slots env =
    cond ((unbound slots env).bits == 0 && (extra slots env).bits == 0) (Ok tt) (Err (ArityError (unbound slots env) (extra slots env)))

-- Each slot has a value exactly when it is among these.
abbrev pub Exact : SlotSet → SlotEnv → Type 0
Exact slots env = (slot : SlotId) → has slot slots ≡ bound env slot

-- Values are accepted exactly when they are exact.
abbrev pub AcceptsExact : SlotSet → SlotEnv → Type 0
AcceptsExact slots env = Decides (is_ok (bindable slots env)) (Exact slots env)

-- What a policy is made of.
pub record Parts : Type 0 where
  pub template : Template
  pub link : Option ℕ
  pub values : SlotEnv

-- The parts of a policy, without the facts that its type keeps.
abbrev pub parts : Policy → Parts
parts p = record { template = p.template; link = p.link; values = p.values }

-- An answer that hands back a policy, by the policy's parts.
abbrev pub parts_of : Result Policy Refusal → Result Parts Refusal
parts_of (Ok p) = Ok (parts p)
parts_of (Err e) = Err e
