-- The slots of a condition: those that stand in it, as a node or in its clause.
use Rattle.std.specs.Prelude.{ℕ, Bool, false, ◌&&◌, ◌||◌, List, [], ◌∷◌, Some, None, Option}
use Rattle.refusals.specs.declared.slots.SlotId.{SlotId}
use Rattle.refusals.specs.declared.slots.SlotId.TheVariants.{Principal, Resource}
use Rattle.refusals.specs.declared.slots.SlotSet.{SlotSet}
use Rattle.clauses.specs.Book.{Clause, at, slots_of}
use Rattle.clauses.specs.Tree.{written}
use Rattle.policy.specs.declared.constraint.PrincipalOrResourceConstraint.{PrincipalOrResourceConstraint}
use Rattle.policy.specs.declared.template.Template.{Template}
use Rattle.policy.specs.declared.node.ConditionNode.{ConditionNode}
use Rattle.policy.specs.declared.node.ConditionNode.TheVariants as node
use Rattle.policy.specs.Condition.{condition_tree}
use Rattle.policy.specs.Filling.{slotted}
use Rattle.policy.specs.Slots.{has_bit, slot_equal, slots_where}

module _ {C : Type 0} (cs : List (Clause C)) (slot : SlotId) where
  -- Whether a node is the slot, or a clause that has it.
  abbrev pub mentions : ConditionNode → Bool
  mentions (node.Bool b) = false
  mentions node.Principal = false
  mentions node.Action = false
  mentions node.Resource = false
  mentions (node.Slot s) = slot_equal slot s
  mentions (node.Entity e) = false
  mentions (node.Set n) = false
  mentions (node.Is t) = false
  mentions node.Eq = false
  mentions node.In = false
  mentions node.And = false
  mentions (node.Clause n) = has_bit slot (slots_of (at cs n))

  -- Whether one of the nodes is the slot, or a clause that has it.
  abbrev pub mentioned : List ConditionNode → Bool
  mentioned [] = false
  mentioned (n ∷ ns) = mentions n || mentioned ns

-- Whether a clause, which may be absent, has a slot.
abbrev pub clause_has : {C : Type 0} → List (Clause C) → Option ℕ → SlotId → Bool
clause_has cs None slot = false
clause_has cs (Some n) slot = has_bit slot (slots_of (at cs n))

-- Whether a scope or the clause has a slot.
abbrev pub part_has : {C : Type 0} → List (Clause C) → PrincipalOrResourceConstraint → PrincipalOrResourceConstraint → Option ℕ → SlotId → Bool
part_has cs principal resource clause slot =
    ((slotted principal && slot_equal slot Principal) || (slotted resource && slot_equal slot Resource)) || clause_has cs clause slot

-- The slots of a template's condition.
abbrev pub condition_slots : {C : Type 0} → List (Clause C) → Template → SlotSet
condition_slots cs t = slots_where (λ slot. mentioned cs slot (written (condition_tree cs t)))
