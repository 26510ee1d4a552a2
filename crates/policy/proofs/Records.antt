-- Records are equal when their fields are, whatever the proofs that they carry.
use Rattle.std.proofs.Common.{◌≡◌, ℕ, zero, suc, ◌≤◌, true, eqb, List, [], ◌∷◌, ◌++◌, length, drop, sym, refl, ap, ◌∙◌, inl, inr, arith, length-drop}
use mathlib.Core.HLevel.{is_prop→PathP}
use mathlib.Core.Bool.{Bool-set}
use native.Mathlib.Nat.{ℕ_set}
use native.Mathlib.Bridge.{le_prop}
use Rattle.std.proofs.lemmas.Bool.{eqb-true, false≢true, cases_Bool}
use Rattle.std.proofs.lemmas.List.{length-take-le, take-append-drop}
use Rattle.names.specs.declared.entity.EntityUID.{EntityUID}
use Rattle.policy.specs.declared.action.ActionList.{ActionList}
use Rattle.policy.specs.Padding.{blank}
use Rattle.policy.specs.Scopes.{listed}

blank-parts : (e : EntityUID) (es : List EntityUID) → blank (e ∷ es) ≡ true → (e.ty ≡ 0) × (e.eid ≡ 0) × (blank es ≡ true)
blank-parts e es h =
    elim (cases_Bool (eqb e.ty 0)) [
      | inl p ↦ elim (cases_Bool (eqb e.eid 0)) [
        | inl q ↦ (eqb-true e.ty 0 p, eqb-true e.eid 0 q, rw (p, q) at h)
        | inr q ↦ elim (false≢true (rw (p, q) at h)) [ ]
      ]
      | inr p ↦ elim (false≢true (rw p at h)) [ ]
    ]

-- Blank lists of one length are equal.
blanks : (xs ys : List EntityUID) → length xs ≡ length ys → blank xs ≡ true → blank ys ≡ true → xs ≡ ys
blanks [] [] n p q = refl
blanks [] (y ∷ ys) n p q = cc
blanks (x ∷ xs) [] n p q = cc
blanks (x ∷ xs) (y ∷ ys) n p q =
    let a = blank-parts x xs p in
    let b = blank-parts y ys q in
    let ty : x.ty ≡ y.ty = a.0 ∙ sym b.0 in
    let eid : x.eid ≡ y.eid = a.1 ∙ sym b.1 in
    let rest = blanks xs ys (cc) a.2 b.2 in
    λ i. record { ty = ty i; eid = eid i } ∷ rest i

module _ (l m : ActionList) (e : listed l ≡ listed m) where
  counts : l.count ≡ m.count
  counts =
      sym (length-take-le l.count l.items (omega arith))
      ∙ ap length e
      ∙ length-take-le m.count m.items (omega arith)

  past : drop l.count l.items ≡ drop m.count m.items
  past =
      let n : length (drop l.count l.items) ≡ length (drop m.count m.items) =
      simp length-drop (let c = counts in omega arith) in
      blanks (drop l.count l.items) (drop m.count m.items) n l.padded m.padded

  items : l.items ≡ m.items
  items =
      sym (take-append-drop l.count l.items)
      ∙ ap (λ (xs : List EntityUID). xs ++ drop l.count l.items) e
      ∙ ap (λ (xs : List EntityUID). listed m ++ xs) past
      ∙ take-append-drop m.count m.items

  -- The places past the count are blank, so equal lists are equal records.
  pub action_lists : l ≡ m
  action_lists = λ i. record {
    items = items i;
    count = counts i;
    whole = is_prop→PathP (λ j. length (items j) ≡ 8) (λ j. ℕ_set _ _) l.whole m.whole i;
    few = is_prop→PathP (λ j. counts j ≤ 8) (λ j. le_prop) l.few m.few i;
    padded = is_prop→PathP (λ j. blank (drop (counts j) (items j)) ≡ true) (λ j. Bool-set _ _) l.padded m.padded i;
  }

-- What is left of a blank list is blank.
pub blank-drop : (n : ℕ) (es : List EntityUID) → blank es ≡ true → blank (drop n es) ≡ true
blank-drop zero es h = h
blank-drop (suc n) [] h = h
blank-drop (suc n) (e ∷ es) h = blank-drop n es (blank-parts e es h).2
