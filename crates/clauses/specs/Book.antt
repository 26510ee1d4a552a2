-- What a clause book means.
use Rattle.std.specs.Prelude.{◌≡◌, ℕ, zero, suc, ◌<◌, Bool, true, false, List, [], ◌∷◌, Some, None, Option}

-- One listed clause: its content, its slot set (principal 1, resource 2) and its constant.
pub record Clause (C : Type 0) : Type 0 where
  pub content : C
  pub slots : ℕ
  pub constant : Option Bool

-- The clause of a number; none of a number that is not below the count.
abbrev pub at : {C : Type 0} → List (Clause C) → ℕ → Option (Clause C)
at [] n = None
at (c ∷ cs) zero = Some c
at (c ∷ cs) (suc n) = at cs n

-- The slots of a clause that may be absent.
abbrev pub slots_of : {C : Type 0} → Option (Clause C) → ℕ
slots_of None = 0
slots_of (Some c) = c.slots

-- The constant of a clause that may be absent.
abbrev pub constant_of : {C : Type 0} → Option (Clause C) → Option Bool
constant_of None = None
constant_of (Some c) = c.constant

-- Whether both are there with equal contents, by a test on contents.
abbrev pub same_content : {C : Type 0} → (C → C → Bool) → Option (Clause C) → Option (Clause C) → Bool
same_content equal None b = false
same_content equal (Some a) None = false
same_content equal (Some a) (Some b) = equal a.content b.content

-- Whether two numbers are below the count and their contents are equal.
abbrev pub same_clause : {C : Type 0} → (C → C → Bool) → List (Clause C) → ℕ → ℕ → Bool
same_clause equal cs a b = same_content equal (at cs a) (at cs b)

-- A test on contents that says yes exactly of equal ones.
pub record DecidesEquality {C : Type 0} (equal : C → C → Bool) : Type 0 where
  pub only : (x y : C) → equal x y ≡ true → x ≡ y
  pub whenever : (x y : C) → x ≡ y → equal x y ≡ true

-- Both numbers are below the count, and the contents are equal.
pub record Same {C : Type 0} (cs : List (Clause C)) (a b : ℕ) : Type 0 where
  pub left : Clause C
  pub right : Clause C
  pub left_at : at cs a ≡ Some left
  pub right_at : at cs b ≡ Some right
  pub alike : left.content ≡ right.content

-- The law: equal contents have equal slots and constants, a constant clause has no slot, and a slot set is two bits.
pub record Lawful {C : Type 0} (cs : List (Clause C)) : Type 0 where
  pub bits : (a : ℕ) → slots_of (at cs a) < 4
  pub same_slots : (a b : ℕ) → Same cs a b → slots_of (at cs a) ≡ slots_of (at cs b)
  pub same_constant : (a b : ℕ) → Same cs a b → constant_of (at cs a) ≡ constant_of (at cs b)
  pub constant_slotless : (a : ℕ) (v : Bool) → constant_of (at cs a) ≡ Some v → slots_of (at cs a) ≡ 0

-- A book whose clauses are made from contents.
abbrev pub listing : {C : Type 0} → (C → Clause C) → List C → List (Clause C)
listing make [] = []
listing make (t ∷ ts) = make t ∷ listing make ts
