-- The law of entering a tree, from the answer.
use Rattle.std.proofs.Common.{◌≡◌, ℕ, ◌<◌, ◌≤◌, Bool, true, false, cond, ltb, leb, ◌⊎◌, List, [], ◌∷◌, length, get_or, Ok, Err, Result, sym, refl, ap, ◌∙◌, subst, inl, inr, arith}
use Rattle.std.specs.List.{AllByRecursion}
use Rattle.std.proofs.lemmas.Bool.{cond-true, ltb-true, lt-ltb, leb-true, le-leb}
use Rattle.refusals.specs.Refusals.{number}
use Rattle.refusals.specs.declared.refusal.Refusal.{Refusal}
use Rattle.refusals.specs.declared.refusal.Refusal.TheVariants.{UnknownName, TooLong, BookFull, BadTypeName, BadClause}
use Rattle.names.specs.declared.type_name.Scan.TheVariants.{Start}
use Rattle.names.specs.Scan.{scanned, accepts}
use Rattle.names.proofs.TypeNames.{scan_decides}
use Rattle.clauses.specs.declared.tree.node.Node.{Node}
use Rattle.clauses.specs.Entering.{next_number}
use Rattle.clauses.specs.Checks.{passed_if, and_then, in_turn, length_check}
use Rattle.clauses.specs.NameChecks.{name_check, type_check, Known, Typed, First}
use Rattle.clauses.specs.Nodes.{takes}
use Rattle.clauses.specs.Shape.{shape}
use Rattle.clauses.specs.Tree.{One}
use Rattle.clauses.specs.TreeEntering.{names_in, types_in, misshapen, tree_check, tree_answer, TreeEntered}
use Rattle.clauses.proofs.Rows.{judged}

-- Two tests are passed when both are, and refuse what the first of them does.
and_then_ok : {X : Type 0} (a : Result (Unit {0}) Refusal) (b : Result X Refusal) (x : X) → and_then a b ≡ Ok x → (a ≡ Ok tt) × (b ≡ Ok x)
and_then_ok (Ok u) b x h = (refl, h)
and_then_ok (Err e) b x h = let z : ◌≡◌ {A = ℕ} 0 1 = cc in absurd (omega arith)

and_then_err : {X : Type 0} (a : Result (Unit {0}) Refusal) (b : Result X Refusal) (e : Refusal) → and_then a b ≡ Err e → (a ≡ Err e) ⊎ (b ≡ Err e)
and_then_err (Ok u) b e h = inr h
and_then_err (Err d) b e h = inl (let k : d ≡ e = cc in ap Err k)

and_then_both : {X : Type 0} (a : Result (Unit {0}) Refusal) (b : Result X Refusal) (x : X) → a ≡ Ok tt → b ≡ Ok x → and_then a b ≡ Ok x
and_then_both a b x p q = ap (λ (r : Result (Unit {0}) Refusal). and_then r b) p ∙ q

-- A test that is passed exactly where P holds, and else refuses by `wrong`.
record Tests (test : ℕ → Result (Unit {0}) Refusal) (P : ℕ → Type 0) (wrong : ℕ → Refusal) : Type 0 where
  passes : (n : ℕ) → P n → test n ≡ Ok tt
  passed : (n : ℕ) → test n ≡ Ok tt → P n
  refuses : (n : ℕ) (e : Refusal) → test n ≡ Err e → e ≡ wrong n

module _ {test : ℕ → Result (Unit {0}) Refusal} {P : ℕ → Type 0} {wrong : ℕ → Refusal} (t : Tests test P wrong) where
  all_pass : (ns : List ℕ) → AllByRecursion P ns → in_turn test ns ≡ Ok tt
  all_pass [] h = refl
  all_pass (n ∷ ns) h = and_then_both (test n) (in_turn test ns) tt (t.passes n h.0) (all_pass ns h.1)

  all_passed : (ns : List ℕ) → in_turn test ns ≡ Ok tt → AllByRecursion P ns
  all_passed [] h = tt
  all_passed (n ∷ ns) h = let w = and_then_ok (test n) (in_turn test ns) tt h in (t.passed n w.0, all_passed ns w.1)

  first_at : (r : Result (Unit {0}) Refusal) (n : ℕ) (ns : List ℕ) (e : Refusal) → test n ≡ r → and_then r (in_turn test ns) ≡ Err e
      → ((e : Refusal) → in_turn test ns ≡ Err e → (m : ℕ) × (e ≡ wrong m) × First P ns m)
      → (m : ℕ) × (e ≡ wrong m) × First P (n ∷ ns) m
  first_at (Ok u) n ns e k h later =
      let w = later e h in
      let f = w.2 in (
        w.0,
        w.1,
        record
            { front = n ∷ f.front; rest = f.rest; split = ap (λ (l : List ℕ). n ∷ l) f.split; before = (t.passed n k, f.before); fails = f.fails },
      )
  first_at (Err d) n ns e k h later =
      let q : d ≡ e = cc in (
        n,
        sym q ∙ t.refuses n d k,
        record {
          front = [];
          rest = ns;
          split = refl;
          before = tt;
          fails = λ p. let g = t.passes n p in let z : ◌≡◌ {A = ℕ} 0 1 = cc in omega arith;
        },
      )

  first : (ns : List ℕ) (e : Refusal) → in_turn test ns ≡ Err e → (m : ℕ) × (e ≡ wrong m) × First P ns m
  first [] e h = let z : ◌≡◌ {A = ℕ} 0 1 = cc in absurd (omega arith)
  first (n ∷ ns) e h = first_at (test n) n ns e refl h (first ns)

refused_for : (b : Bool) (e d : Refusal) → passed_if b e ≡ Err d → d ≡ e
refused_for true e d h = let z : ◌≡◌ {A = ℕ} 0 1 = cc in absurd (omega arith)
refused_for false e d h = let k : e ≡ d = cc in sym k

passed_for : (b : Bool) (e : Refusal) → passed_if b e ≡ Ok tt → b ≡ true
passed_for true e h = refl
passed_for false e h = let z : ◌≡◌ {A = ℕ} 0 1 = cc in absurd (omega arith)

passes_for : (b : Bool) (e : Refusal) → b ≡ true → passed_if b e ≡ Ok tt
passes_for b e h = cond-true b (Ok tt) (Err e) h

names_tests : (texts : List (List ℕ)) → Tests (name_check (length texts)) (Known texts) UnknownName
names_tests texts = record {
  passes = λ n h. passes_for (ltb n (length texts)) (UnknownName n) (lt-ltb n (length texts) h);
  passed = λ n h. ltb-true n (length texts) (passed_for (ltb n (length texts)) (UnknownName n) h);
  refuses = λ n e h. refused_for (ltb n (length texts)) (UnknownName n) e h;
}

types_tests : (texts : List (List ℕ)) → Tests (type_check texts) (Typed texts) BadTypeName
types_tests texts = record {
  passes = λ n h. passes_for (accepts (scanned Start (get_or texts n []))) (BadTypeName n) ((scan_decides (get_or texts n [])).1 h);
  passed = λ n h. (scan_decides (get_or texts n [])).0 (passed_for (accepts (scanned Start (get_or texts n []))) (BadTypeName n) h);
  refuses = λ n e h. refused_for (accepts (scanned Start (get_or texts n []))) (BadTypeName n) e h;
}

-- What a refusal of the shape says.
misshapen_err : (r : Result (Unit {0}) ℕ) (e : Refusal) → misshapen r ≡ Err e → (place : ℕ) × (e ≡ BadClause place) × (r ≡ Err place)
misshapen_err (Ok u) e h = let z : ◌≡◌ {A = ℕ} 0 1 = cc in absurd (omega arith)
misshapen_err (Err place) e h = let k : BadClause place ≡ e = cc in (place, sym k, refl)

misshapen_ok : (r : Result (Unit {0}) ℕ) → misshapen r ≡ Ok tt → r ≡ Ok tt
misshapen_ok (Ok u) h = refl
misshapen_ok (Err place) h = let z : ◌≡◌ {A = ℕ} 0 1 = cc in absurd (omega arith)

next_ok : (b : Bool) (m n : ℕ) → cond b (Ok m) (Err BookFull) ≡ Ok n → (b ≡ true) × (n ≡ m)
next_ok true m n h = (refl, (let k : m ≡ n = cc in sym k))
next_ok false m n h = let z : ◌≡◌ {A = ℕ} 0 1 = cc in absurd (omega arith)

next_err : (b : Bool) (m : ℕ) (e : Refusal) → cond b (Ok m) (Err BookFull) ≡ Err e → e ≡ BookFull
next_err true m e h = let z : ◌≡◌ {A = ℕ} 0 1 = cc in absurd (omega arith)
next_err false m e h = let k : BookFull ≡ e = cc in sym k

-- The refusals of entering a tree, by their numbers.
record Sources (texts : List (List ℕ)) (nodes : List Node) (e : Refusal) : Type 0 where
  of_names : number e ≡ 1 → in_turn (name_check (length texts)) (names_in nodes) ≡ Err e
  of_types : number e ≡ 5 → in_turn (type_check texts) (types_in nodes) ≡ Err e
  of_shape : number e ≡ 7 → misshapen (shape takes 0 0 nodes) ≡ Err e

module _ (texts : List (List ℕ)) (trees : List (List Node)) (nodes : List Node) where
  abbrev names_pass : Result (Unit {0}) Refusal
  names_pass = in_turn (name_check (length texts)) (names_in nodes)

  abbrev types_pass : Result (Unit {0}) Refusal
  types_pass = in_turn (type_check texts) (types_in nodes)

  abbrev shape_pass : Result (Unit {0}) Refusal
  shape_pass = misshapen (shape takes 0 0 nodes)

  source_shape : (e : Refusal) → shape_pass ≡ Err e → Sources texts nodes e
  source_shape e h =
      let w = misshapen_err (shape takes 0 0 nodes) e h in
      let k = ap number w.1 in
      record { of_names = λ q. absurd (omega arith); of_types = λ q. absurd (omega arith); of_shape = λ q. h }

  source_types : (e : Refusal) → types_pass ≡ Err e → Sources texts nodes e
  source_types e h =
      let w = first (types_tests texts) (types_in nodes) e h in
      let k = ap number w.1 in
      record { of_names = λ q. absurd (omega arith); of_types = λ q. h; of_shape = λ q. absurd (omega arith) }

  source_names : (e : Refusal) → names_pass ≡ Err e → Sources texts nodes e
  source_names e h =
      let w = first (names_tests texts) (names_in nodes) e h in
      let k = ap number w.1 in
      record { of_names = λ q. h; of_types = λ q. absurd (omega arith); of_shape = λ q. absurd (omega arith) }

  source_other : (e d : Refusal) → e ≡ d → (number d ≡ 3) ⊎ (number d ≡ 4) → Sources texts nodes e
  source_other e d h o =
      let k = ap number h in
      elim o [
        | inl p ↦ record { of_names = λ q. absurd (omega arith); of_types = λ q. absurd (omega arith); of_shape = λ q. absurd (omega arith) }
        | inr p ↦ record { of_names = λ q. absurd (omega arith); of_types = λ q. absurd (omega arith); of_shape = λ q. absurd (omega arith) }
      ]

  sources : (e : Refusal) → tree_answer texts trees nodes ≡ Err e → Sources texts nodes e
  sources e h =
      elim (and_then_err (tree_check texts nodes) (next_number trees) e h) [
        | inr k ↦ source_other e BookFull (next_err (ltb (length trees) 256) (length trees) e k) (inr refl)
        | inl k ↦ elim (and_then_err (length_check 64 nodes) (and_then names_pass (and_then types_pass shape_pass)) e k) [
          | inl s ↦ source_other e (TooLong (length nodes)) (refused_for (leb (length nodes) 64) (TooLong (length nodes)) e s) (inl refl)
          | inr s ↦ elim (and_then_err names_pass (and_then types_pass shape_pass) e s) [
            | inl n ↦ source_names e n
            | inr n ↦ elim (and_then_err types_pass shape_pass e n) [ inl t ↦ source_types e t | inr t ↦ source_shape e t ]
          ]
        ]
      ]

  one_shape : One takes nodes → shape_pass ≡ Ok tt
  one_shape one = ap misshapen (sym ((judged takes nodes (shape takes 0 0 nodes) refl).only (Ok tt) one))

  shape_one : shape_pass ≡ Ok tt → One takes nodes
  shape_one h = (judged takes nodes (Ok tt) (sym (misshapen_ok (shape takes 0 0 nodes) h))).verdict

  accepts_tree : length nodes ≤ 64 → AllByRecursion (Known texts) (names_in nodes) → AllByRecursion (Typed texts) (types_in nodes) → One takes nodes → length trees < 256
      → tree_answer texts trees nodes ≡ Ok (length trees)
  accepts_tree s n t o r =
      and_then_both (tree_check texts nodes) (next_number trees) (length trees)
      (and_then_both (length_check 64 nodes) (and_then names_pass (and_then types_pass shape_pass)) tt
      (passes_for (leb (length nodes) 64) (TooLong (length nodes)) (le-leb (length nodes) 64 s))
      (and_then_both names_pass (and_then types_pass shape_pass) tt (all_pass (names_tests texts) (names_in nodes) n)
      (and_then_both types_pass shape_pass tt (all_pass (types_tests texts) (types_in nodes) t) (one_shape o))))
      (cond-true (ltb (length trees) 256) (Ok (length trees)) (Err BookFull) (lt-ltb (length trees) 256 r))

  accepted_tree : (n : ℕ) → tree_answer texts trees nodes ≡ Ok n
      → (n ≡ length trees) × (length nodes ≤ 64) × AllByRecursion (Known texts) (names_in nodes) × AllByRecursion (Typed texts) (types_in nodes) × One takes nodes × (length trees < 256)
  accepted_tree n h =
      let w = and_then_ok (tree_check texts nodes) (next_number trees) n h in
      let s = and_then_ok (length_check 64 nodes) (and_then names_pass (and_then types_pass shape_pass)) tt w.0 in
      let k = and_then_ok names_pass (and_then types_pass shape_pass) tt s.1 in
      let t = and_then_ok types_pass shape_pass tt k.1 in
      let m = next_ok (ltb (length trees) 256) (length trees) n w.1 in (
        m.1,
        leb-true (length nodes) 64 (passed_for (leb (length nodes) 64) (TooLong (length nodes)) s.0),
        all_passed (names_tests texts) (names_in nodes) k.0,
        all_passed (types_tests texts) (types_in nodes) t.0,
        shape_one t.1,
        ltb-true (length trees) 256 m.0,
      )

  -- The answer of a tree that is refused whatever the book holds, and of any other.
  pub refused_by : (e : Refusal) → Err e ≡ tree_check texts nodes → Err e ≡ tree_answer texts trees nodes
  refused_by e h = ap (λ (r : Result (Unit {0}) Refusal). and_then r (next_number trees)) h

  pub numbered_by : (answer : Result ℕ Refusal) → Ok tt ≡ tree_check texts nodes → answer ≡ next_number trees → answer ≡ tree_answer texts trees nodes
  numbered_by answer h e = e ∙ ap (λ (r : Result (Unit {0}) Refusal). and_then r (next_number trees)) h

  -- What the answer says.
  pub entered : (answer : Result ℕ Refusal) → answer ≡ tree_answer texts trees nodes → TreeEntered texts trees nodes answer
  entered answer e = record {
    accepts = λ s n t o r. e ∙ accepts_tree s n t o r;
    accepted = λ n h. accepted_tree n (sym e ∙ h);
    unknown = λ n h.
        let w = first (names_tests texts) (names_in nodes) (UnknownName n) ((sources (UnknownName n) (sym e ∙ h)).of_names refl) in
        let k : w.0 ≡ n = cc w.1 in subst (λ (m : ℕ). First (Known texts) (names_in nodes) m) k w.2;
    untyped = λ t h.
        let w = first (types_tests texts) (types_in nodes) (BadTypeName t) ((sources (BadTypeName t) (sym e ∙ h)).of_types refl) in
        let k : w.0 ≡ t = cc w.1 in subst (λ (m : ℕ). First (Typed texts) (types_in nodes) m) k w.2;
    uneven = λ place h.
        let w = misshapen_err (shape takes 0 0 nodes) (BadClause place) ((sources (BadClause place) (sym e ∙ h)).of_shape refl) in
        let k : w.0 ≡ place = cc w.1 in
        (judged takes nodes (Err place) (ap Err (sym k) ∙ sym w.2)).verdict;
  }
