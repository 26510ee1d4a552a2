-- The nodes of a tree line.
use Rattle.std.specs.Prelude.{ℕ, true, false, cond, List, Some, None, codes, Option}
use Rattle.std.specs.Str.{bytes_eq}
use Rattle.refusals.specs.declared.slots.SlotId.TheVariants as slot
use Rattle.names.specs.Names.{Limits}
use Rattle.clauses.specs.declared.tree.node.Node.{Node}
use Rattle.clauses.specs.declared.tree.node.Node.TheVariants as node
use Rattle.clauses.specs.declared.tree.node.Var.TheVariants as var
use Rattle.console.specs.Reader.{Reading, given, made, if_some, if_found, stripped, each, name, entity}

-- The node that a word is by itself.
abbrev pub plain_node : List ℕ → Option Node
plain_node word =
    cond (bytes_eq word (codes "true")) (Some (node.Lit true))
    (cond (bytes_eq word (codes "false")) (Some (node.Lit false))
    (cond (bytes_eq word (codes "principal")) (Some (node.Var var.Principal))
    (cond (bytes_eq word (codes "action")) (Some (node.Var var.Action))
    (cond (bytes_eq word (codes "resource")) (Some (node.Var var.Resource))
    (cond (bytes_eq word (codes "?principal")) (Some (node.Slot slot.Principal))
    (cond (bytes_eq word (codes "?resource")) (Some (node.Slot slot.Resource))
    (cond (bytes_eq word (codes "not")) (Some node.Not)
    (cond (bytes_eq word (codes "and")) (Some node.And)
    (cond (bytes_eq word (codes "or")) (Some node.Or)
    (cond (bytes_eq word (codes "eq")) (Some node.Eq) (cond (bytes_eq word (codes "in")) (Some node.In) None)))))))))))

-- The node of a word: entity:TYPE/EID, is:TYPE, or one that the word is by itself.
abbrev pub node_of : Limits → List (List ℕ) → List ℕ → Reading Node
node_of limits texts word =
    if_found (stripped (codes "entity:") word) (λ e. made node.Entity (entity limits texts e))
    (if_found (stripped (codes "is:") word) (λ ty. made node.«Is» (name limits texts ty))
    (if_some (plain_node word) texts (λ n. given n texts)))

-- All nodes of a tree line.
abbrev pub nodes : Limits → List (List ℕ) → List (List ℕ) → Reading (List Node)
nodes limits texts words = each (node_of limits) texts words
