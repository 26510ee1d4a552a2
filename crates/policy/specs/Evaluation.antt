-- What a condition is worth for a request in a hierarchy, and the values of the slots.
use Rattle.std.specs.Prelude.{◌≡◌, true, List, [], ◌∷◌, Option}
use Rattle.refusals.specs.declared.slots.SlotId.{SlotId}
use Rattle.refusals.specs.declared.slots.SlotId.TheVariants as slot
use Rattle.names.specs.declared.entity.EntityUID.{EntityUID}
use Rattle.clauses.specs.Book.{Clause}
use Rattle.clauses.specs.Tree.{Row, none, more, Tree}
use Rattle.policy.specs.declared.values.SlotEnv.{SlotEnv}
use Rattle.policy.specs.declared.template.Template.{Template}
use Rattle.policy.specs.declared.node.ConditionNode.{ConditionNode}
use Rattle.policy.specs.declared.node.ConditionNode.TheVariants as node
use Rattle.policy.specs.Condition.{condition_tree}
use Rattle.policy.specs.Value.{Value, boolean, entity, set, error, slot_value, and_value, eq_value, in_value, is_value, with_element}
use Rattle.policy.specs.Meaning.{World, Evaluator, clause_value, KeepsConstants, Applies}

-- The value of a slot.
abbrev pub value_of : SlotEnv → SlotId → Option EntityUID
value_of env slot.Principal = env.principal
value_of env slot.Resource = env.resource

-- The set of some values, which come with the last first.
abbrev pub set_value : Value → List Value → Value
set_value elements [] = elements
set_value elements (v ∷ vs) = set_value (with_element v elements) vs

-- An operator on one operand; an error where there are fewer or more.
abbrev pub of_one : (Value → Value) → List Value → Value
of_one f [] = error
of_one f (a ∷ []) = f a
of_one f (a ∷ (b ∷ vs)) = error

-- An operator on two operands, which come with the last first; an error where there are fewer or more.
abbrev pub of_two : (Value → Value → Value) → List Value → Value
of_two f [] = error
of_two f (b ∷ []) = error
of_two f (b ∷ (a ∷ [])) = f a b
of_two f (b ∷ (a ∷ (c ∷ vs))) = error

module _ {C : Type 0} (evaluate : Evaluator C) (cs : List (Clause C)) (w : World) (env : SlotEnv) where
  -- A node over the values of its operands, the last first.
  abbrev pub node_value : ConditionNode → List Value → Value
  node_value (node.Bool b) vs = boolean b
  node_value node.Principal vs = entity w.principal
  node_value node.Action vs = entity w.action
  node_value node.Resource vs = entity w.resource
  node_value (node.Slot s) vs = slot_value (value_of env s)
  node_value (node.Entity e) vs = entity e
  node_value (node.Set n) vs = set_value (set []) vs
  node_value (node.Is t) vs = of_one (is_value t) vs
  node_value node.Eq vs = of_two eq_value vs
  node_value node.In vs = of_two (in_value w.hierarchy) vs
  node_value node.And vs = of_two and_value vs
  node_value (node.Clause n) vs = clause_value evaluate cs w env n

  -- The values of a row of trees, the last first.
  abbrev pub row_values : Row ConditionNode → List Value
  row_values none = []
  row_values (more f n g) = node_value n (row_values g) ∷ row_values f

  -- What a tree is worth.
  abbrev pub tree_value : Tree ConditionNode → Value
  tree_value t = node_value t.top (row_values t.under)

-- A condition is worth true exactly when the scope and the clause of its template hold together,
-- for every evaluator of clauses by which a constant clause is worth its constant.
pub record Means {C : Type 0} (cs : List (Clause C)) (t : Template) : Type 0 where
  pub only : (evaluate : Evaluator C) → KeepsConstants evaluate cs → (w : World) (env : SlotEnv)
      → tree_value evaluate cs w env (condition_tree cs t) ≡ boolean true → Applies evaluate cs w env t
  pub whenever : (evaluate : Evaluator C) → KeepsConstants evaluate cs → (w : World) (env : SlotEnv)
      → Applies evaluate cs w env t → tree_value evaluate cs w env (condition_tree cs t) ≡ boolean true
