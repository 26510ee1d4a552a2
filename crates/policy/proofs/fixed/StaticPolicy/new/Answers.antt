use Rattle.std.proofs.Common.{◌≡◌, ℕ, cond, Ok, Err, Result, refl, arith}
use Rattle.refusals.specs.declared.slots.SlotId.TheVariants.{Principal, Resource}
use Rattle.refusals.specs.declared.slots.SlotSet.{SlotSet}
use Rattle.refusals.specs.declared.refusal.Refusal.{Refusal}
use Rattle.refusals.specs.declared.refusal.Refusal.TheVariants.{UnexpectedSlot}
use Rattle.policy.specs.Slots.{has_bit}
use Rattle.policy.specs.Static.{slotless}
use Rattle.refusals.proofs.Bits.{by_four}
use Rattle.policy.proofs.fixed.StaticPolicy.new.Goals as goal

never : (e : Refusal) → ◌≡◌ {A = Result (Unit {0}) Refusal} (Ok tt) (Err e) → ⊥
never e h = let z : ◌≡◌ {A = ℕ} 0 1 = cc in omega arith

abbrev Empty : ℕ → Type 0
Empty n =
    ◌≡◌ {A = Result (Unit {0}) Refusal} (Ok tt)
    (cond (has_bit Principal n) (Err (UnexpectedSlot Principal)) (cond (has_bit Resource n) (Err (UnexpectedSlot Resource)) (Ok tt)))
    → n ≡ 0

-- A set that is not refused has no bit.
no_bits : (slots : SlotSet) → Ok tt ≡ slotless slots → slots.bits ≡ 0
no_bits slots h =
    by_four Empty (λ _. refl) (λ e. absurd (never (UnexpectedSlot Principal) e)) (λ e. absurd (never (UnexpectedSlot Resource) e))
    (λ e. absurd (never (UnexpectedSlot Principal) e)) slots.bits slots.two_bits h

pub invariant_of-result : goal.invariant_of-result
invariant_of-result g c =
    record {
      slotless = no_bits c.args.template.slots c.in_ok-slotless.ensures;
    }
