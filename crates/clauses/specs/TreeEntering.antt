-- What entering a tree answers.
use Rattle.std.specs.Prelude.{◌≡◌, ℕ, ◌<◌, ◌≤◌, ◌⊎◌, List, length, Ok, Err, Result}
use Rattle.std.specs.List.{flat_map, AllByRecursion}
use Rattle.refusals.specs.declared.refusal.Refusal.{Refusal}
use Rattle.refusals.specs.declared.refusal.Refusal.TheVariants.{UnknownName, BadTypeName, BadClause}
use Rattle.clauses.specs.declared.tree.node.Node.{Node}
use Rattle.clauses.specs.Entering.{next_number}
use Rattle.clauses.specs.Checks.{and_then, in_turn, length_check}
use Rattle.clauses.specs.NameChecks.{name_check, type_check, Known, Typed, First}
use Rattle.clauses.specs.Nodes.{takes, node_names, node_types}
use Rattle.clauses.specs.Shape.{shape}
use Rattle.clauses.specs.Tree.{One, Lacking, Uneven}

-- Refusal 7 at the place that shows that the nodes are not one tree.
abbrev pub misshapen : Result (Unit {0}) ℕ → Result (Unit {0}) Refusal
misshapen (Ok u) = Ok tt
misshapen (Err place) = Err (BadClause place)

-- The names that nodes hold, in order.
abbrev pub names_in : List Node → List ℕ
names_in nodes = flat_map node_names nodes

-- The types among them, in order.
abbrev pub types_in : List Node → List ℕ
types_in nodes = flat_map node_types nodes

-- What a tree is refused for whatever the book holds: 3, 1, 5 and 7 in this order.
abbrev pub tree_check : List (List ℕ) → List Node → Result (Unit {0}) Refusal
tree_check texts nodes =
    and_then (length_check 64 nodes)
    (and_then (in_turn (name_check (length texts)) (names_in nodes))
    (and_then (in_turn (type_check texts) (types_in nodes))
    (misshapen (shape takes 0 0 nodes))))

-- What entering a tree answers: one of these refusals, else the next number.
abbrev pub tree_answer : List (List ℕ) → List (List Node) → List Node → Result ℕ Refusal
tree_answer texts trees nodes = and_then (tree_check texts nodes) (next_number trees)

-- The law of entering a tree: accepted exactly when it is short enough, its names are known, its types keep the rule, it is the writing of one tree and there is room; 1, 5 and 7 name the first name, type or place that is wrong.
pub record TreeEntered (texts : List (List ℕ)) (trees : List (List Node)) (nodes : List Node) (answer : Result ℕ Refusal) : Type 0 where
  pub accepts : length nodes ≤ 64 → AllByRecursion (Known texts) (names_in nodes) → AllByRecursion (Typed texts) (types_in nodes) → One takes nodes → length trees < 256
      → answer ≡ Ok (length trees)
  pub accepted : (n : ℕ) → answer ≡ Ok n
      → (n ≡ length trees) × (length nodes ≤ 64) × AllByRecursion (Known texts) (names_in nodes) × AllByRecursion (Typed texts) (types_in nodes) × One takes nodes × (length trees < 256)
  pub unknown : (n : ℕ) → answer ≡ Err (UnknownName n) → First (Known texts) (names_in nodes) n
  pub untyped : (t : ℕ) → answer ≡ Err (BadTypeName t) → First (Typed texts) (types_in nodes) t
  pub uneven : (place : ℕ) → answer ≡ Err (BadClause place) → Lacking takes nodes place ⊎ Uneven takes nodes place
