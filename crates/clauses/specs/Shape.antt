-- The shape of a list of nodes, read from its front.
use Rattle.std.specs.Prelude.{◌≡◌, ℕ, ◌+◌, ◌-◌, cond, List, [], ◌∷◌, Ok, Err, Result, ◌==◌, nat_lt}
use Rattle.clauses.specs.Tree.{One, Verdict}

-- Reads the nodes from a place on, with some trees standing before them: a node takes its operands from the trees and leaves one. It fails at the first node that lacks operands, and at the end unless one tree stands.
abbrev pub shape : {N : Type 0} → (N → ℕ) → ℕ → ℕ → List N → Result (Unit {0}) ℕ
shape takes place standing [] = cond (standing == 1) (Ok tt) (Err place)
shape takes place standing (n ∷ ns) = cond (nat_lt standing (takes n)) (Err place) (shape takes (place + 1) (standing - takes n + 1) ns)

-- The verdict on a list of nodes, and that there is no other.
pub record Judged {N : Type 0} (takes : N → ℕ) (ns : List N) (answer : Result (Unit {0}) ℕ) : Type 0 where
  pub verdict : Verdict takes ns answer
  pub only : (other : Result (Unit {0}) ℕ) → Verdict takes ns other → other ≡ answer

-- The nodes are the writing of one tree at most, so the tree can be read off them.
abbrev pub OneTree : {N : Type 0} → (N → ℕ) → List N → Type 0
OneTree takes ns = (s t : One takes ns) → s.tree ≡ t.tree
