-- The action scope of a line.
use Rattle.std.specs.Prelude.{ℕ, Bool, cond, List, [], ◌∷◌, length, take, drop, ◌-◌, vec_items, Some, None, codes, Option, ◌==◌}
use Rattle.std.specs.List.{slice_split}
use Rattle.std.specs.Option.{option_and_then}
use Rattle.std.specs.Str.{bytes_eq}
use Rattle.std.specs.declared.alloc.Global.{Global}
use Rattle.std.specs.declared.vec.Vec.{Vec}
use Rattle.names.specs.Names.{Limits}
use Rattle.names.specs.declared.entity.EntityUID.{EntityUID}
use Rattle.policy.specs.declared.action.ActionIn.{ActionIn}
use Rattle.policy.specs.declared.action.ActionIn.TheVariants as action
use Rattle.console.specs.Reader.{Reading, given, made, if_some, if_found, stripped, each, entity}

-- A comma.
abbrev pub is_comma : ℕ → Bool
is_comma b = b == 44

-- ENTITY,ENTITY,... and nothing for the empty list
abbrev pub entities : Limits → List (List ℕ) → List ℕ → Reading (List EntityUID)
entities limits texts [] = given [] texts
entities limits texts (b ∷ word) = each (entity limits) texts (slice_split is_comma (b ∷ word))

-- What stands before a word's end, where it ends so.
abbrev pub stripped_end : List ℕ → List ℕ → Option (List ℕ)
stripped_end end word = cond (bytes_eq (drop (length word - length end) word) end) (Some (take (length word - length end) word)) None

-- The list of in:[LIST]
abbrev pub in_brackets : List ℕ → Option (List ℕ)
in_brackets word = option_and_then (stripped_end (codes "]")) (stripped (codes "in:[") word)

-- any, eq:ENTITY, in:[ENTITY,ENTITY,...]
abbrev pub action_read : Limits → List (List ℕ) → List ℕ → Reading (ActionIn (List EntityUID))
action_read limits texts word =
    cond (bytes_eq word (codes "any")) (given action.Any texts)
    (if_found (stripped (codes "eq:") word) (λ e. made action.Eq (entity limits texts e))
    (if_some (in_brackets word) texts (λ list. made action.In (entities limits texts list))))

-- An action scope that was read, its list by the items.
abbrev pub listed : ActionIn (Vec EntityUID Global) → ActionIn (List EntityUID)
listed action.Any = action.Any
listed (action.Eq e) = action.Eq e
listed (action.In es) = action.In (vec_items es)
