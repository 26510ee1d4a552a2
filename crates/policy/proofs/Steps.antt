-- Nodes written one after the other.
use Rattle.std.proofs.Common.{◌≡◌, ℕ, ◌+◌, ◌≤◌, List, [], ◌∷◌, ◌++◌, sym, refl, ap, ◌∙◌, append_assoc, arith}
use Rattle.arrayvec.specs.ArrayVec.{array_vec_len}
use Rattle.policy.specs.declared.node.ConditionNode.{ConditionNode}
use Rattle.policy.specs.Nodes.{NodeList, Wrote}

joins : {X : Type 0} (l a b : List X) {m n w : List X} → m ≡ l ++ a → n ≡ m ++ b → w ≡ a ++ b → n ≡ l ++ w
joins {X} l a b p q r = q ∙ ap (λ (x : List X). x ++ b) p ∙ append_assoc l a b ∙ ap (λ (x : List X). l ++ x) (sym r)

-- One node more.
pub one_step : {p q : NodeList} {n : ConditionNode} → q.items ≡ p.items ++ (n ∷ []) → array_vec_len q ≡ array_vec_len p + 1 → Wrote p q (n ∷ []) 1
one_step e h = record { more = e; few = omega (arith, h) }

pub two_steps : {p q r : NodeList} {a b : List ConditionNode} {m n : ℕ} (w : List ConditionNode) (k : ℕ)
    → Wrote p q a m → Wrote q r b n → w ≡ a ++ b → m + n ≤ k → Wrote p r w k
two_steps {p} {q} {r} {a} {b} w k x y e h = record { more = joins p.items a b x.more y.more e; few = omega arith }

pub three_steps : {p q r s : NodeList} {a b c : List ConditionNode} {l m n : ℕ} (w : List ConditionNode) (k : ℕ)
    → Wrote p q a l → Wrote q r b m → Wrote r s c n → w ≡ a ++ (b ++ c) → l + (m + n) ≤ k → Wrote p s w k
three_steps {b = b} {c = c} {m = m} {n = n} w k x y z e h = two_steps w k x (two_steps (b ++ c) (m + n) y z refl (omega arith)) e h
