-- The condition of a template as a tree.
use Rattle.std.specs.Prelude.{ℕ, Bool, true, ◌&&◌, List, [], ◌∷◌, length, Some, None, Option}
use Rattle.refusals.specs.declared.slots.SlotId.TheVariants as slot
use Rattle.names.specs.declared.entity.EntityUID.{EntityUID}
use Rattle.clauses.specs.Book.{Clause, at, constant_of}
use Rattle.clauses.specs.Tree.{Row, none, more, Tree}
use Rattle.policy.specs.declared.constraint.EntityReference.{EntityReference}
use Rattle.policy.specs.declared.constraint.EntityReference.TheVariants.{EUID, Slot}
use Rattle.policy.specs.declared.constraint.PrincipalOrResourceConstraint.{PrincipalOrResourceConstraint}
use Rattle.policy.specs.declared.constraint.PrincipalOrResourceConstraint.TheVariants as scope
use Rattle.policy.specs.declared.action.ActionIn.TheVariants as action
use Rattle.policy.specs.declared.template.Template.{Template}
use Rattle.policy.specs.declared.node.ConditionNode.{ConditionNode}
use Rattle.policy.specs.declared.node.ConditionNode.TheVariants as node
use Rattle.policy.specs.Scopes.{ActionConstraint, listed}

-- How many operands a node takes.
abbrev pub arity : ConditionNode → ℕ
arity (node.Bool b) = 0
arity node.Principal = 0
arity node.Action = 0
arity node.Resource = 0
arity (node.Slot s) = 0
arity (node.Entity e) = 0
arity (node.Set n) = n
arity (node.Is t) = 1
arity node.Eq = 2
arity node.In = 2
arity node.And = 2
arity (node.Clause n) = 0

-- A node without operands.
abbrev pub leaf : ConditionNode → Tree ConditionNode
leaf n = record { top = n; under = none }

-- A node over one operand.
abbrev pub over_one : ConditionNode → Tree ConditionNode → Tree ConditionNode
over_one n a = record { top = n; under = more none a.top a.under }

-- A node over two operands, in order.
abbrev pub over_two : ConditionNode → Tree ConditionNode → Tree ConditionNode → Tree ConditionNode
over_two n a b = record { top = n; under = more (more none a.top a.under) b.top b.under }

-- Entities behind a row of trees.
abbrev pub entities : Row ConditionNode → List EntityUID → Row ConditionNode
entities f [] = f
entities f (e ∷ es) = entities (more f (node.Entity e) none) es

-- The constant that a node is.
abbrev pub constant : ConditionNode → Option Bool
constant (node.Bool b) = Some b
constant node.Principal = None
constant node.Action = None
constant node.Resource = None
constant (node.Slot s) = None
constant (node.Entity e) = None
constant (node.Set n) = None
constant (node.Is t) = None
constant node.Eq = None
constant node.In = None
constant node.And = None
constant (node.Clause n) = None

-- The constant that two constants make together.
abbrev pub both : Option Bool → Option Bool → Option Bool
both None b = None
both (Some a) None = None
both (Some a) (Some b) = Some (a && b)

-- The constant, if there is one; else `and` over the two trees.
abbrev pub folded : Option Bool → Tree ConditionNode → Tree ConditionNode → Tree ConditionNode
folded None a b = over_two node.And a b
folded (Some c) a b = leaf (node.Bool c)

-- `and` of two trees; of two constants, one constant.
abbrev pub and_tree : Tree ConditionNode → Tree ConditionNode → Tree ConditionNode
and_tree a b = folded (both (constant a.top) (constant b.top)) a b

-- What a scope refers to, as a node: an entity, or the slot s.
abbrev pub reference_node : ConditionNode → EntityReference → ConditionNode
reference_node s (EUID e) = node.Entity e
reference_node s Slot = s

-- The scope of a variable, whose slot is s.
abbrev pub scope_tree : ConditionNode → ConditionNode → PrincipalOrResourceConstraint → Tree ConditionNode
scope_tree v s scope.Any = leaf (node.Bool true)
scope_tree v s (scope.In r) = over_two node.In (leaf v) (leaf (reference_node s r))
scope_tree v s (scope.Eq r) = over_two node.Eq (leaf v) (leaf (reference_node s r))
scope_tree v s (scope.Is t) = over_one (node.Is t) (leaf v)
scope_tree v s (scope.IsIn t r) = over_two node.And (over_one (node.Is t) (leaf v)) (over_two node.In (leaf v) (leaf (reference_node s r)))

-- The scope of the principal.
abbrev pub principal_tree : PrincipalOrResourceConstraint → Tree ConditionNode
principal_tree c = scope_tree node.Principal (node.Slot slot.Principal) c

-- The scope of the resource.
abbrev pub resource_tree : PrincipalOrResourceConstraint → Tree ConditionNode
resource_tree c = scope_tree node.Resource (node.Slot slot.Resource) c

-- An action list is the set of its entities.
abbrev pub set_tree : List EntityUID → Tree ConditionNode
set_tree es = record { top = node.Set (length es); under = entities none es }

-- The scope of the action.
abbrev pub action_tree : ActionConstraint → Tree ConditionNode
action_tree action.Any = leaf (node.Bool true)
action_tree (action.In l) = over_two node.In (leaf node.Action) (set_tree (listed l))
action_tree (action.Eq e) = over_two node.Eq (leaf node.Action) (leaf (node.Entity e))

-- The constant, if there is one; else the clause of a number.
abbrev pub constant_node : ℕ → Option Bool → ConditionNode
constant_node n None = node.Clause n
constant_node n (Some b) = node.Bool b

-- A clause is its constant, else one node; an absent clause is true.
abbrev pub clause_node : {C : Type 0} → List (Clause C) → Option ℕ → ConditionNode
clause_node cs None = node.Bool true
clause_node cs (Some n) = constant_node n (constant_of (at cs n))

-- and(principal, and(action, and(resource, clause)))
abbrev pub condition_tree : {C : Type 0} → List (Clause C) → Template → Tree ConditionNode
condition_tree cs t =
    and_tree (principal_tree t.principal)
    (and_tree (action_tree t.action) (and_tree (resource_tree t.resource) (leaf (clause_node cs t.clause))))
