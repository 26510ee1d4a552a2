-- Static policies: templates without slots.
use Rattle.std.specs.Prelude.{ℕ, cond, List, None, Ok, Err, Result}
use Rattle.refusals.specs.declared.slots.SlotId.TheVariants.{Principal, Resource}
use Rattle.refusals.specs.declared.slots.SlotSet.{SlotSet}
use Rattle.refusals.specs.declared.refusal.Refusal.{Refusal}
use Rattle.refusals.specs.declared.refusal.Refusal.TheVariants.{UnexpectedSlot}
use Rattle.clauses.specs.Book.{Clause}
use Rattle.policy.specs.declared.values.SlotEnv.{SlotEnv}
use Rattle.policy.specs.declared.template.Template.{Template}
use Rattle.policy.specs.declared.fixed.StaticPolicy.{StaticPolicy}
use Rattle.policy.specs.declared.bound.Policy.{Policy}
use Rattle.policy.specs.Slots.{has}
use Rattle.policy.specs.Arity.{Parts, parts}
use Rattle.policy.specs.Known.{and_then, template_known}

-- Refusal 8 of a slot, the principal's first.
abbrev pub slotless : SlotSet → Result (Unit {0}) Refusal
slotless slots =
    cond (has Principal slots) (Err (UnexpectedSlot Principal)) (cond (has Resource slots) (Err (UnexpectedSlot Resource)) (Ok tt))

-- A static policy that was made, by its template.
abbrev pub body_of : Result StaticPolicy Refusal → Result Template Refusal
body_of (Ok p) = Ok p.body
body_of (Err e) = Err e

-- Refusals 1 and 2 of the template, then 8.
abbrev pub static_answer : {C : Type 0} → ℕ → List (Clause C) → Template → Result Template Refusal
static_answer count cs t = and_then (template_known count cs t) (and_then (slotless t.slots) (Ok t))

-- No slot has a value.
abbrev pub no_values : SlotEnv
no_values = record { principal = None; resource = None }

-- A template and a policy that were handed back, the policy by its parts.
abbrev pub linked_parts : Result (Template × Policy) Refusal → Result (Template × Parts) Refusal
linked_parts (Ok x) = Ok (x.0, parts x.1)
linked_parts (Err e) = Err e

-- Refusals 1 and 2; else the template, and the policy without link id or values.
abbrev pub link_static_answer : {C : Type 0} → ℕ → List (Clause C) → Template → Result (Template × Parts) Refusal
link_static_answer count cs t =
    and_then (template_known count cs t) (Ok (t, record { template = t; link = None; values = no_values }))
