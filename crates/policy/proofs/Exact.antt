-- Values that are accepted are exact.
use Rattle.std.proofs.Common.{◌≡◌, Bool, true, false, cond, not, ◌&&◌, eqb, is_some, is_ok, Ok, Err, Result, sym, refl, ap, ◌∙◌}
use Rattle.refusals.specs.declared.slots.SlotId.TheVariants.{Principal, Resource}
use Rattle.refusals.specs.declared.slots.SlotSet.{SlotSet}
use Rattle.refusals.specs.declared.refusal.Refusal.{Refusal}
use Rattle.refusals.specs.declared.refusal.Refusal.TheVariants.{ArityError}
use Rattle.policy.specs.declared.values.SlotEnv.{SlotEnv}
use Rattle.policy.specs.declared.bound.Policy.{Policy}
use Rattle.policy.specs.Binding.{value_slots}
use Rattle.policy.specs.Slots.{has, bound, set_of}
use Rattle.policy.specs.Arity.{unbound, extra, bindable, Exact, AcceptsExact}
use Rattle.refusals.proofs.Bits.{bit, set_bits}
use Rattle.policy.proofs.Bits.{value_sum, covers, none_left}

-- No slot is left without a value, and no value without a slot.
abbrev pub settled : SlotSet → SlotEnv → Bool
settled slots env = eqb (unbound slots env).bits 0 && eqb (extra slots env).bits 0

taken : (b : Bool) (e : Refusal) → is_ok (cond {A = Result (Unit {0}) Refusal} b (Ok tt) (Err e)) ≡ b
taken true e = refl
taken false e = refl

pub bound_exact : (slots : SlotSet) (env : SlotEnv) → Ok tt ≡ bindable slots env → value_slots env ≡ slots.bits
bound_exact slots env h =
    value_sum env.principal env.resource
    ∙ covers (is_some env.principal) (is_some env.resource) slots.bits slots.two_bits (sym (taken (settled slots env) _) ∙ sym (ap is_ok h))

exact_slot : (slots : SlotSet) (env : SlotEnv) → settled slots env ≡ true → Exact slots env
exact_slot slots env h slot =
    let e = covers (is_some env.principal) (is_some env.resource) slots.bits slots.two_bits h in
    let b = set_bits (is_some env.principal) (is_some env.resource) in
    elim slot as (λ s. has s slots ≡ bound env s)
    [ Principal ↦ sym (ap (bit 1) e) ∙ b.0 | Resource ↦ sym (ap (bit 2) e) ∙ b.1 ]

slot_exact : (slots : SlotSet) (env : SlotEnv) → Exact slots env → settled slots env ≡ true
slot_exact slots env x =
    let p = x Principal in
    let r = x Resource in
    (λ i.
    eqb (set_of (p i && not (bound env Principal)) (r i && not (bound env Resource))).bits 0
    && eqb (set_of (bound env Principal && not (p i)) (bound env Resource && not (r i))).bits 0)
    ∙ none_left (bound env Principal) (bound env Resource)

pub accepts_exact : (slots : SlotSet) (env : SlotEnv) → AcceptsExact slots env
accepts_exact slots env =
    let t = taken (settled slots env) (ArityError (unbound slots env) (extra slots env)) in
    ((λ h. exact_slot slots env (sym t ∙ h)), λ x. t ∙ slot_exact slots env x)

-- The values of a policy are exact.
pub policy_exact : (p : Policy) → Exact p.template.slots p.values
policy_exact p slot =
    let env = p.values in
    let e : (set_of (is_some env.principal) (is_some env.resource)).bits ≡ p.template.slots.bits =
    sym (value_sum env.principal env.resource) ∙ p.exact in
    let b = set_bits (is_some env.principal) (is_some env.resource) in
    elim slot as (λ s. has s p.template.slots ≡ bound env s)
    [ Principal ↦ sym (ap (bit 1) e) ∙ b.0 | Resource ↦ sym (ap (bit 2) e) ∙ b.1 ]
