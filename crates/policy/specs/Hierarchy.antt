-- The entity hierarchy, and `in`, by the Cedar documentation: an entity is in itself, in its parents, in their parents, and so on.
use Rattle.std.specs.Prelude.{◌≡◌, Bool, ◌&&◌, ◌||◌, ◌⊎◌, List, [], ◌∷◌, Decides}
use Rattle.names.specs.declared.entity.EntityUID.{EntityUID}
use Rattle.policy.specs.Equality.{entity_equal}

-- An entity and one of its parents.
pub record Edge : Type 0 where
  pub child : EntityUID
  pub parent : EntityUID

-- The second entity is a parent of the first.
abbrev pub Parent : List Edge → EntityUID → EntityUID → Type 0
Parent [] c p = ⊥
Parent (e ∷ es) c p = ((e.child ≡ c) × (e.parent ≡ p)) ⊎ Parent es c p

-- `e in a`.
pub data In (h : List Edge) : EntityUID → EntityUID → Type 0 where
  itself : {e : EntityUID} → In h e e
  by_parent : {e p a : EntityUID} → Parent h e p → In h p a → In h e a

-- `in` as a test, one edge after the other: a way from e to a without cycles uses an edge once at most.
abbrev pub is_in : List Edge → EntityUID → EntityUID → Bool
is_in [] e a = entity_equal e a
is_in (l ∷ ls) e a = is_in ls e a || (is_in ls e l.child && is_in ls l.parent a)

-- The test says yes exactly when the entity is in the other.
abbrev pub InDecided : Type 0
InDecided = (h : List Edge) (e a : EntityUID) → Decides (is_in h e a) (In h e a)
