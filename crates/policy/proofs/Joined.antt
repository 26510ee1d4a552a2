-- The last two trees of a list of nodes, and what becomes of them under `and`.
use Rattle.std.proofs.Common.{◌≡◌, ℕ, ◌-◌, ◌≤◌, Bool, List, [], ◌∷◌, ◌++◌, length, take, Some, None, Option, sym, refl, ap, ◌∙◌, append_assoc, arith, length-append}
use Rattle.clauses.specs.Tree.{Row, none, more, Tree, writing, count, Proper, alone, written}
use Rattle.policy.specs.declared.node.ConditionNode.{ConditionNode}
use Rattle.policy.specs.declared.node.ConditionNode.TheVariants as node
use Rattle.policy.specs.Condition.{arity, constant, both, folded, and_tree}
use Rattle.policy.specs.Nodes.{Folds}
use Rattle.policy.proofs.Ends.{snoc}

-- A constant takes no operands.
pub takes_none : (n : ConditionNode) (x : Bool) → constant n ≡ Some x → (arity n ≡ 0) × (n ≡ node.Bool x)
takes_none (node.Bool b) x h = (refl, cc)
takes_none node.Principal x h = (refl, cc)
takes_none node.Action x h = (refl, cc)
takes_none node.Resource x h = (refl, cc)
takes_none (node.Slot s) x h = (refl, cc)
takes_none (node.Entity e) x h = (refl, cc)
takes_none (node.Set n) x h = (cc, cc)
takes_none (node.Is t) x h = (cc, cc)
takes_none node.Eq x h = (cc, cc)
takes_none node.In x h = (cc, cc)
takes_none node.And x h = (cc, cc)
takes_none (node.Clause n) x h = (refl, cc)

empty_row : (r : Row ConditionNode) → count r ≡ 0 → r ≡ none
empty_row none h = refl
empty_row (more f n g) h = absurd (omega arith)

-- A proper tree whose top is a constant is that node alone.
pub written-constant : (t : Tree ConditionNode) (x : Bool) → Proper arity (alone t) → constant t.top ≡ Some x → written t ≡ t.top ∷ []
written-constant t x p h =
    ap (λ (r : Row ConditionNode). writing r ++ (t.top ∷ [])) (empty_row t.under (p.2 ∙ (takes_none t.top x h).0))

-- The last two nodes, where one is behind some others.
ends_two : (xs : List ConditionNode) (y : ConditionNode) → 1 ≤ length xs
    → (f : List ConditionNode) × (x : ConditionNode) × (xs ++ (y ∷ []) ≡ f ++ (x ∷ y ∷ []))
ends_two [] y h = absurd (omega arith)
ends_two (x ∷ xs) y h =
    let s = snoc x xs in
    (s.0, s.1, ap (λ (l : List ConditionNode). l ++ (y ∷ [])) s.2 ∙ append_assoc s.0 (s.1 ∷ []) (y ∷ []))

both_none : (a : Option Bool) → both a None ≡ None
both_none None = refl
both_none (Some x) = refl

module _ (ns f : List ConditionNode) (a b : Tree ConditionNode) (pa : Proper arity (alone a)) (pb : Proper arity (alone b))
    (e : ns ≡ f ++ (written a ++ written b)) (r : Option Bool) (h : Folds ns r) where
  -- Behind the last node stands another.
  by_last : (o : Option Bool) → constant b.top ≡ o → r ≡ both (constant a.top) o
  by_last None q =
      let xs = f ++ (written a ++ writing b.under) in
      let long : 1 ≤ length xs = simp length-append (omega arith) in
      let s = ends_two xs b.top long in
      let g : ns ≡ xs ++ (b.top ∷ []) =
      e
      ∙ ap (λ (l : List ConditionNode). f ++ l) (sym (append_assoc (written a) (writing b.under) (b.top ∷ [])))
      ∙ sym (append_assoc f (written a ++ writing b.under) (b.top ∷ [])) in
      h.last_two s.0 s.1 b.top (g ∙ s.2)
      ∙ ap (λ (o : Option Bool). both (constant s.1) o) q
      ∙ both_none (constant s.1)
      ∙ sym (both_none (constant a.top))
  by_last (Some y) q =
      let g : ns ≡ (f ++ writing a.under) ++ (a.top ∷ b.top ∷ []) =
      e
      ∙ ap (λ (l : List ConditionNode). f ++ (written a ++ l)) (written-constant b y pb q)
      ∙ ap (λ (l : List ConditionNode). f ++ l) (append_assoc (writing a.under) (a.top ∷ []) (b.top ∷ []))
      ∙ sym (append_assoc f (writing a.under) (a.top ∷ b.top ∷ [])) in
      h.last_two (f ++ writing a.under) a.top b.top g ∙ ap (λ (o : Option Bool). both (constant a.top) o) q

  -- The two last nodes fold exactly when the two last trees do.
  pub folds_trees : r ≡ both (constant a.top) (constant b.top)
  folds_trees = by_last (constant b.top) refl

  pub joined_open : r ≡ None → ns ++ (node.And ∷ []) ≡ f ++ written (and_tree a b)
  joined_open n =
      ap (λ (l : List ConditionNode). l ++ (node.And ∷ [])) e
      ∙ append_assoc f (written a ++ written b) (node.And ∷ [])
      ∙ ap (λ (o : Option Bool). f ++ written (folded o a b)) (sym n ∙ folds_trees)

pub some_both : (x y : Option Bool) (c : Bool) → Some c ≡ both x y → (p : Bool) × (q : Bool) × (x ≡ Some p) × (y ≡ Some q)
some_both None y c h = absurd (let z : ◌≡◌ {A = ℕ} 0 1 = cc in omega arith)
some_both (Some p) None c h = absurd (let z : ◌≡◌ {A = ℕ} 0 1 = cc in omega arith)
some_both (Some p) (Some q) c h = (p, q, refl, refl)

take-front : {X : Type 0} (f : List X) (rest : List X) → take (length f) (f ++ rest) ≡ f
take-front [] rest = refl
take-front (x ∷ f) rest = ap (λ l. x ∷ l) (take-front f rest)

module _ (ns f : List ConditionNode) (a b : Tree ConditionNode) (pa : Proper arity (alone a)) (pb : Proper arity (alone b))
    (e : ns ≡ f ++ (written a ++ written b)) (c : Bool) (h : Folds ns (Some c)) where
  -- Two constants give way to one.
  pub joined_constants : take (length ns - 2) ns ++ (node.Bool c ∷ []) ≡ f ++ written (and_tree a b)
  joined_constants =
      let k = folds_trees ns f a b pa pb e (Some c) h in
      let s = some_both (constant a.top) (constant b.top) c k in
      let g : ns ≡ f ++ (a.top ∷ b.top ∷ []) =
      e
      ∙ ap (λ (l : List ConditionNode). f ++ (l ++ written b)) (written-constant a s.0 pa s.2)
      ∙ ap (λ (l : List ConditionNode). f ++ (a.top ∷ l)) (written-constant b s.1 pb s.3) in
      let n : length ns - 2 ≡ length f = omega (arith, ap length g, length-append f (a.top ∷ b.top ∷ [])) in
      ap (λ (l : List ConditionNode). l ++ (node.Bool c ∷ []))
      ((λ i. take (n i) (g i)) ∙ take-front f (a.top ∷ b.top ∷ []))
      ∙ ap (λ (o : Option Bool). f ++ written (folded o a b)) k
