-- `in` is decided edge by edge.
use Rattle.std.proofs.Common.{◌≡◌, true, ◌&&◌, ◌⊎◌, List, [], ◌∷◌, sym, refl, subst, inl, inr}
use Rattle.std.proofs.lemmas.Bool.{and_parts, and_from, or_cases, or_left, or_right}
use Rattle.names.specs.declared.entity.EntityUID.{EntityUID}
use Rattle.policy.specs.Equality.{entity_equal}
use Rattle.policy.specs.Hierarchy.{Edge, Parent, In, itself, by_parent, is_in, InDecided}
use Rattle.policy.proofs.Deciding.{entities}

reflexive : (h : List Edge) (e : EntityUID) → is_in h e e ≡ true
reflexive [] e = entities.whenever e e refl
reflexive (l ∷ ls) e = or_left (is_in ls e e) (is_in ls e l.child && is_in ls l.parent e) (reflexive ls e)

-- The ways with one edge more.
cases : (l : Edge) (ls : List Edge) (e a : EntityUID) → is_in (l ∷ ls) e a ≡ true
    → (is_in ls e a ≡ true) ⊎ ((is_in ls e l.child ≡ true) × (is_in ls l.parent a ≡ true))
cases l ls e a h =
    elim (or_cases (is_in ls e a) (is_in ls e l.child && is_in ls l.parent a) h)
    [ inl p ↦ inl p | inr q ↦ inr (and_parts (is_in ls e l.child) (is_in ls l.parent a) q) ]

without : (l : Edge) (ls : List Edge) (e a : EntityUID) → is_in ls e a ≡ true → is_in (l ∷ ls) e a ≡ true
without l ls e a h = or_left (is_in ls e a) (is_in ls e l.child && is_in ls l.parent a) h

by_edge : (l : Edge) (ls : List Edge) (e a : EntityUID) → is_in ls e l.child ≡ true → is_in ls l.parent a ≡ true → is_in (l ∷ ls) e a ≡ true
by_edge l ls e a p q =
    or_right (is_in ls e a) (is_in ls e l.child && is_in ls l.parent a) (and_from (is_in ls e l.child) (is_in ls l.parent a) p q)

transitive : (h : List Edge) (e m a : EntityUID) → is_in h e m ≡ true → is_in h m a ≡ true → is_in h e a ≡ true
transitive [] e m a p q = subst (λ (x : EntityUID). entity_equal x a ≡ true) (sym (entities.only e m p)) q
transitive (l ∷ ls) e m a p q =
    elim (cases l ls e m p) [
      | inl p1 ↦ elim (cases l ls m a q) [
        | inl q1 ↦ without l ls e a (transitive ls e m a p1 q1)
        | inr q2 ↦ by_edge l ls e a (transitive ls e m l.child p1 q2.0) q2.1
      ]
      | inr p2 ↦ elim (cases l ls m a q) [
        | inl q1 ↦ by_edge l ls e a p2.0 (transitive ls l.parent m a p2.1 q1)
        | inr q2 ↦ by_edge l ls e a p2.0 q2.1
      ]
    ]

in_parent : (h : List Edge) (c p : EntityUID) → Parent h c p → is_in h c p ≡ true
in_parent [] c p h = elim h [ ]
in_parent (l ∷ ls) c p h =
    elim h [
      | inl e ↦ by_edge l ls c p (rw e.0 (reflexive ls c)) (rw e.1 (reflexive ls p))
      | inr k ↦ without l ls c p (in_parent ls c p k)
    ]

pub in_whenever : (h : List Edge) (e a : EntityUID) → In h e a → is_in h e a ≡ true
in_whenever h e a itself = reflexive h e
in_whenever h e a (by_parent {p = m} p r) = transitive h e m a (in_parent h e m p) (in_whenever h m a r)

weaker : (l : Edge) (ls : List Edge) (e a : EntityUID) → In ls e a → In (l ∷ ls) e a
weaker l ls e a itself = itself
weaker l ls e a (by_parent {p = m} p r) = by_parent (inr p) (weaker l ls m a r)

onward : (h : List Edge) (e m a : EntityUID) → In h e m → In h m a → In h e a
onward h e m a itself q = q
onward h e m a (by_parent {p = n} p r) q = by_parent p (onward h n m a r q)

pub in_only : (h : List Edge) (e a : EntityUID) → is_in h e a ≡ true → In h e a
in_only [] e a h = subst (λ (x : EntityUID). In [] e x) (entities.only e a h) itself
in_only (l ∷ ls) e a h =
    elim (cases l ls e a h) [
      | inl p ↦ weaker l ls e a (in_only ls e a p)
      | inr q ↦
          onward (l ∷ ls) e l.child a (weaker l ls e l.child (in_only ls e l.child q.0))
          (by_parent (inl (refl, refl)) (weaker l ls l.parent a (in_only ls l.parent a q.1)))
    ]

pub in_decided : InDecided
in_decided h e a = (in_only h e a, in_whenever h e a)
