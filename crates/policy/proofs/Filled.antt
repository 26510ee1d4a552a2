-- The laws of a filled policy.
use Rattle.std.proofs.Common.{◌≡◌, Bool, true, cond, List, is_some, sym, ◌∙◌}
use Rattle.std.proofs.lemmas.Bool.{and_parts, cond-true}
use Rattle.refusals.specs.declared.slots.SlotId.TheVariants.{Principal, Resource}
use Rattle.clauses.specs.Book.{Clause, Lawful}
use Rattle.policy.specs.declared.bound.Policy.{Policy}
use Rattle.policy.specs.Slots.{has}
use Rattle.policy.specs.Filling.{slotted}
use Rattle.policy.specs.Filled.{filled, scopes_within, FillsPolicy}
use Rattle.policy.proofs.Exact.{policy_exact}
use Rattle.policy.proofs.Fillings.{fills}
use Rattle.policy.proofs.Within.{parts_slots}

-- A scope that refers to its slot has it in the slots field.
within_field : (s : Bool) (h : Bool) → cond s h true ≡ true → s ≡ true → h ≡ true
within_field s h c t = sym (cond-true s h true t) ∙ c

module _ (p : Policy) (inside : scopes_within p.template ≡ true) where
  parts : (cond (slotted p.template.principal) (has Principal p.template.slots) true ≡ true)
      × (cond (slotted p.template.resource) (has Resource p.template.slots) true ≡ true)
  parts = and_parts _ _ inside

  -- So each slot of a scope has a value.
  pub principal_bound : slotted p.template.principal ≡ true → is_some p.values.principal ≡ true
  principal_bound t = sym (policy_exact p Principal) ∙ within_field (slotted p.template.principal) (has Principal p.template.slots) parts.0 t

  pub resource_bound : slotted p.template.resource ≡ true → is_some p.values.resource ≡ true
  resource_bound t = sym (policy_exact p Resource) ∙ within_field (slotted p.template.resource) (has Resource p.template.slots) parts.1 t

pub fills_policy : {C : Type 0} (cs : List (Clause C)) → Lawful cs → (p : Policy) → FillsPolicy cs p
fills_policy cs lawful p =
    let f = filled cs p in
    let a = fills p.values.principal p.template.principal in
    let b = fills p.values.resource p.template.resource in
    record {
      slots = parts_slots cs lawful f;
      principal_closed = λ i. a.closes (principal_bound p i);
      resource_closed = λ i. b.closes (resource_bound p i);
      same_scope = λ i w env.
          let x = a.fixes (principal_bound p i) w.hierarchy env.principal w.principal in
          let y = b.fixes (resource_bound p i) w.hierarchy env.resource w.resource in (
            (λ h. record { principal = x.0 h.principal; action = h.action; resource = y.0 h.resource }),
            (λ h. record { principal = x.1 h.principal; action = h.action; resource = y.1 h.resource }),
          );
    }
