-- Nodes written one behind the other.
use Rattle.std.specs.Prelude.{◌≡◌, ℕ, ◌+◌, ◌≤◌, Bool, true, List, [], ◌∷◌, ◌++◌, length, is_some, Option}
use Rattle.arrayvec.specs.ArrayVec.{ArrayVec, array_vec_len}
use Rattle.clauses.specs.Tree.{Tree, Proper, alone, written}
use Rattle.policy.specs.declared.node.ConditionNode.{ConditionNode}
use Rattle.policy.specs.Condition.{arity, constant, both, and_tree}

-- Nodes in the order in which they were written.
abbrev pub NodeList : Type 0
NodeList = ArrayVec ConditionNode

-- The nodes were written behind, at most so many.
pub record Wrote (before after : NodeList) (ns : List ConditionNode) (most : ℕ) : Type 0 where
  pub more : after.items ≡ before.items ++ ns
  pub few : array_vec_len after ≤ array_vec_len before + most

-- The constant that the last two nodes make together.
pub record Folds (ns : List ConditionNode) (r : Option Bool) : Type 0 where
  pub there : is_some r ≡ true → 2 ≤ length ns
  pub last_two : (f : List ConditionNode) (a b : ConditionNode) → ns ≡ f ++ (a ∷ b ∷ []) → r ≡ both (constant a) (constant b)

-- The last two trees became one.
pub record Joins (before after : NodeList) : Type 0 where
  pub joined : (f : List ConditionNode) (a b : Tree ConditionNode) → Proper arity (alone a) → Proper arity (alone b)
      → before.items ≡ f ++ (written a ++ written b) → after.items ≡ f ++ written (and_tree a b)
  pub few : array_vec_len after ≤ array_vec_len before + 1
