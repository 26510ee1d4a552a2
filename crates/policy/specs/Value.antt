-- Values, and what the operators of a condition make of them, by the Cedar documentation: `==`, `in`, `is`, `&&`, set literals.
use Rattle.std.specs.Prelude.{ℕ, Bool, true, false, cond, not, ◌&&◌, ◌||◌, List, [], ◌∷◌, Some, None, Option, ◌==◌}
use Rattle.names.specs.declared.entity.EntityUID.{EntityUID}
use Rattle.policy.specs.Equality.{entity_equal}
use Rattle.policy.specs.Hierarchy.{Edge, is_in}

-- A boolean, an entity, a set of entities, or an error: an expression that ends in an error is neither true nor false.
pub data Value : Type 0 where
  boolean : Bool → Value
  entity : EntityUID → Value
  set : List EntityUID → Value
  error : Value

-- A slot without a value is an error.
abbrev pub slot_value : Option EntityUID → Value
slot_value None = error
slot_value (Some e) = entity e

-- The right side of `&&` is to be a boolean.
abbrev pub as_boolean : Value → Value
as_boolean (boolean b) = boolean b
as_boolean (entity e) = error
as_boolean (set es) = error
as_boolean error = error

-- `&&`: the right side counts only where the left is true.
abbrev pub and_value : Value → Value → Value
and_value (boolean a) y = cond a (as_boolean y) (boolean false)
and_value (entity e) y = error
and_value (set es) y = error
and_value error y = error

-- Whether an entity is one of a list.
abbrev pub member : EntityUID → List EntityUID → Bool
member e [] = false
member e (a ∷ es) = entity_equal e a || member e es

-- Whether each entity of the first list is one of the second.
abbrev pub subset : List EntityUID → List EntityUID → Bool
subset [] bs = true
subset (a ∷ es) bs = member a bs && subset es bs

-- `==`: values of different kinds are not equal; sets are equal when they have the same members.
abbrev pub eq_value : Value → Value → Value
eq_value (boolean a) (boolean b) = boolean (cond a b (not b))
eq_value (boolean a) (entity f) = boolean false
eq_value (boolean a) (set fs) = boolean false
eq_value (boolean a) error = error
eq_value (entity e) (boolean b) = boolean false
eq_value (entity e) (entity f) = boolean (entity_equal e f)
eq_value (entity e) (set fs) = boolean false
eq_value (entity e) error = error
eq_value (set es) (boolean b) = boolean false
eq_value (set es) (entity f) = boolean false
eq_value (set es) (set fs) = boolean (subset es fs && subset fs es)
eq_value (set es) error = error
eq_value error y = error

-- An entity is in a set where it is in one of the set's members.
abbrev pub in_some : List Edge → EntityUID → List EntityUID → Bool
in_some h e [] = false
in_some h e (a ∷ es) = is_in h e a || in_some h e es

-- `in` with an entity on the left.
abbrev pub entity_in : List Edge → EntityUID → Value → Value
entity_in h e (boolean b) = error
entity_in h e (entity f) = boolean (is_in h e f)
entity_in h e (set fs) = boolean (in_some h e fs)
entity_in h e error = error

-- `in`: an entity on the left, an entity or a set of entities on the right.
abbrev pub in_value : List Edge → Value → Value → Value
in_value h (boolean a) y = error
in_value h (entity e) y = entity_in h e y
in_value h (set es) y = error
in_value h error y = error

-- `is`: an entity on the left.
abbrev pub is_value : ℕ → Value → Value
is_value t (boolean a) = error
is_value t (entity e) = boolean (e.ty == t)
is_value t (set es) = error
is_value t error = error

-- A set literal with one element more in front.
abbrev pub with_element : Value → Value → Value
with_element (entity e) (set es) = set (e ∷ es)
with_element (entity e) (boolean b) = error
with_element (entity e) (entity f) = error
with_element (entity e) error = error
with_element (boolean b) y = error
with_element (set es) y = error
with_element error y = error
