-- Where a template's slots are its condition's, the slots of its scopes are among them.
use Rattle.std.proofs.Common.{◌≡◌, Bool, true, false, cond, ◌&&◌, ◌||◌, List, refl, ap, ◌∙◌}
use Rattle.std.proofs.lemmas.Bool.{and_from}
use Rattle.refusals.specs.declared.slots.SlotId.{SlotId}
use Rattle.refusals.specs.declared.slots.SlotId.TheVariants.{Principal, Resource}
use Rattle.clauses.specs.Book.{Clause, Lawful}
use Rattle.clauses.specs.Tree.{written}
use Rattle.policy.specs.Condition.{condition_tree}
use Rattle.policy.specs.Filling.{slotted}
use Rattle.policy.specs.Mentions.{mentioned, clause_has, part_has, condition_slots}
use Rattle.policy.specs.Slots.{has, has_bit}
use Rattle.policy.proofs.Mentioned.{here_condition}
use Rattle.refusals.proofs.Sets.{has_where}
use Rattle.policy.specs.declared.template.Template.{Template}
use Rattle.policy_set.specs.Sound.{scopes_within}

module _ {C : Type 0} (cs : List (Clause C)) (lawful : Lawful cs) (t : Template) (cached : t.slots.bits ≡ (condition_slots cs t).bits) where
  has_part : (slot : SlotId) → has slot t.slots ≡ part_has cs t.principal t.resource t.clause slot
  has_part slot =
      ap (has_bit slot) cached ∙ (has_where (λ s. mentioned cs s (written (condition_tree cs t))) slot ∙ here_condition cs slot lawful t)

  principal_within : (b : Bool) → slotted t.principal ≡ b → cond b (has Principal t.slots) true ≡ true
  principal_within false e = refl
  principal_within true e =
      has_part Principal ∙ ap (λ p. ((p && true) || (slotted t.resource && false)) || clause_has cs t.clause Principal) e

  resource_within : (b : Bool) → slotted t.resource ≡ b → cond b (has Resource t.slots) true ≡ true
  resource_within false e = refl
  resource_within true e =
      has_part Resource
      ∙ (ap (λ r. ((slotted t.principal && false) || (r && true)) || clause_has cs t.clause Resource) e ∙ either (slotted t.principal) (clause_has cs t.clause Resource))
    where
      either : (p c : Bool) → (((p && false) || true) || c) ≡ true
      either true c = refl
      either false c = refl

  pub within : scopes_within t ≡ true
  within = and_from _ _ (principal_within (slotted t.principal) refl) (resource_within (slotted t.resource) refl)
