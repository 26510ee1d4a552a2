-- Rows of trees, their writing, and the reading that counts operands.
use Rattle.std.proofs.Common.{◌≡◌, ℕ, zero, suc, ◌+◌, ◌-◌, ◌<◌, ◌≤◌, eqb, ltb, List, [], ◌∷◌, ◌++◌, length, Ok, Err, Result, sym, refl, ap, ◌∙◌, subst, inl, inr, append_assoc, arith, length-append}
use Rattle.std.proofs.lemmas.Bool.{ltb-true, ltb-false, eqb-true, eqb-false, cases_Bool, lt-ltb, le-ltb, eq-eqb, ne_eqb}
use Rattle.std.proofs.lemmas.List.{append-nil}
use Rattle.clauses.specs.Tree.{Row, none, more, Tree, writing, count, Proper, alone, One, Lacking, Uneven, Verdict}
use Rattle.clauses.specs.Shape.{shape, Judged, OneTree}

module _ {N : Type 0} where
  -- One row behind another.
  abbrev pub behind : Row N → Row N → Row N
  behind a none = a
  behind a (more f n g) = more (behind a f) n g

  -- The last k trees of a row, and those before.
  abbrev pub keep : ℕ → Row N → Row N
  keep zero f = f
  keep (suc k) none = none
  keep (suc k) (more f n g) = keep k f

  abbrev pub last : ℕ → Row N → Row N
  last zero f = none
  last (suc k) none = none
  last (suc k) (more f n g) = more (last k f) n g

  keep_behind : (a h : Row N) → keep (count h) (behind a h) ≡ a
  keep_behind a none = refl
  keep_behind a (more f n g) = keep_behind a f

  last_behind : (a h : Row N) → last (count h) (behind a h) ≡ h
  last_behind a none = refl
  last_behind a (more f n g) = ap (λ (x : Row N). more x n g) (last_behind a f)

  none_behind : (h : Row N) → behind none h ≡ h
  none_behind none = refl
  none_behind (more f n g) = ap (λ (x : Row N). more x n g) (none_behind f)

  writing_cut : (k : ℕ) (f : Row N) → writing (keep k f) ++ writing (last k f) ≡ writing f
  writing_cut zero f = append-nil (writing f)
  writing_cut (suc k) none = refl
  writing_cut (suc k) (more f n g) =
      sym (append_assoc (writing (keep k f)) (writing (last k f)) (writing g ++ (n ∷ [])))
      ∙ ap (λ (x : List N). x ++ (writing g ++ (n ∷ []))) (writing_cut k f)

  count_last : (k : ℕ) (f : Row N) → k ≤ count f → count (last k f) ≡ k
  count_last zero f h = refl
  count_last (suc k) none h = elim (let e : ⊥ = omega arith in e) [ ]
  count_last (suc k) (more f n g) h = ap suc (count_last k f (omega arith))

  count_keep : (k : ℕ) (f : Row N) → k ≤ count f → count (keep k f) + k ≡ count f
  count_keep zero f h = omega arith
  count_keep (suc k) none h = elim (let e : ⊥ = omega arith in e) [ ]
  count_keep (suc k) (more f n g) h = let e = count_keep k f (omega arith) in omega arith

  module _ (takes : N → ℕ) where
    proper_keep : (k : ℕ) (f : Row N) → Proper takes f → Proper takes (keep k f)
    proper_keep zero f p = p
    proper_keep (suc k) none p = tt
    proper_keep (suc k) (more f n g) p = proper_keep k f p.0

    proper_last : (k : ℕ) (f : Row N) → Proper takes f → Proper takes (last k f)
    proper_last zero f p = tt
    proper_last (suc k) none p = tt
    proper_last (suc k) (more f n g) p = (proper_last k f p.0, p.1, p.2)

    abbrev pub grow : Row N → N → Row N
    grow f n = more (keep (takes n) f) n (last (takes n) f)

    -- Reading a list of nodes after a row.
    abbrev pub read : Row N → List N → Row N
    read f [] = f
    read f (n ∷ ns) = read (grow f n) ns

    read_append : (f : Row N) (xs ys : List N) → read f (xs ++ ys) ≡ read (read f xs) ys
    read_append f [] ys = refl
    read_append f (x ∷ xs) ys = read_append (grow f x) xs ys

    grow_behind : (a h : Row N) (n : N) → count h ≡ takes n → grow (behind a h) n ≡ more a n h
    grow_behind a h n e =
        ap (λ (k : ℕ). more (keep k (behind a h)) n (last k (behind a h))) (sym e)
        ∙ ap (λ (x : Row N). more x n (last (count h) (behind a h))) (keep_behind a h)
        ∙ ap (λ (x : Row N). more a n x) (last_behind a h)

    pub read_writing : (a h : Row N) → Proper takes h → read a (writing h) ≡ behind a h
    read_writing a none p = refl
    read_writing a (more f n g) p =
        read_append a (writing f) (writing g ++ (n ∷ []))
        ∙ ap (λ (x : Row N). read x (writing g ++ (n ∷ []))) (read_writing a f p.0)
        ∙ read_append (behind a f) (writing g) (n ∷ [])
        ∙ ap (λ (x : Row N). grow x n) (read_writing (behind a f) g p.1)
        ∙ grow_behind (behind a f) g n p.2

    pub one_reading : (f g : Row N) → Proper takes f → Proper takes g → writing f ≡ writing g → f ≡ g
    one_reading f g p q e =
        sym (none_behind f) ∙ sym (read_writing none f p) ∙ ap (λ (x : List N). read none x) e ∙ read_writing none g q ∙ none_behind g

    grown_writing : (f : Row N) (n : N) → writing (grow f n) ≡ writing f ++ (n ∷ [])
    grown_writing f n =
        sym (append_assoc (writing (keep (takes n) f)) (writing (last (takes n) f)) (n ∷ []))
        ∙ ap (λ (x : List N). x ++ (n ∷ [])) (writing_cut (takes n) f)

    -- A row of one tree.
    as_one : (f : Row N) (ns : List N) → Proper takes f → writing f ≡ ns → count f ≡ 1 → One takes ns
    as_one none ns p e h = elim (let z : ⊥ = omega arith in z) [ ]
    as_one (more none n g) ns p e h = record { tree = record { top = n; under = g }; proper = p; spelled = e }
    as_one (more (more f m k) n g) ns p e h = elim (let z : ⊥ = omega arith in z) [ ]

    pub verdict_from : (f : Row N) → Proper takes f → (rest ns : List N) (place depth : ℕ) → writing f ++ rest ≡ ns
        → place ≡ length (writing f) → depth ≡ count f → Verdict takes ns (shape takes place depth rest)
    verdict_from f p [] ns place depth e l d =
        elim (cases_Bool (eqb depth 1)) [
          | inl y ↦ rw y (as_one f ns p (sym (append-nil (writing f)) ∙ e) (let q = eqb-true depth 1 y in omega arith))
          | inr y ↦ rw y (inr (record {
            front = f;
            proper = p;
            spelled = sym (append-nil (writing f)) ∙ e;
            at_end = l ∙ ap length (sym (append-nil (writing f)) ∙ e);
            not_one = λ q. eqb-false depth 1 y (d ∙ q);
          }))
        ]
    verdict_from f p (n ∷ rest) ns place depth e l d =
        elim (cases_Bool (ltb depth (takes n))) [
          | inl y ↦ rw y (inl (record {
            front = f;
            node = n;
            rest = rest;
            proper = p;
            spelled = e;
            at_place = l;
            lacks = let q = ltb-true depth (takes n) y in omega arith;
          }))
          | inr y ↦ rw y (
              let q : takes n ≤ depth = ltb-false depth (takes n) y in
              let k : takes n ≤ count f = omega arith in
              let c = count_keep (takes n) f k in
              let w = grown_writing f n in
              verdict_from (grow f n) (proper_keep (takes n) f p, proper_last (takes n) f p, count_last (takes n) f k) rest ns
              (place + 1) (depth - takes n + 1)
              (ap (λ (x : List N). x ++ rest) w ∙ append_assoc (writing f) (n ∷ []) rest ∙ e)
              (omega (arith, ap length w, length-append (writing f) (n ∷ [])))
              (omega arith))
        ]

    pub verdict : (ns : List N) → Verdict takes ns (shape takes 0 0 ns)
    verdict ns = verdict_from none tt ns ns 0 0 refl refl refl

    -- One step of the reading, and its ends.
    pub shape_lacks : (place depth : ℕ) (n : N) (ns : List N) → depth < takes n → shape takes place depth (n ∷ ns) ≡ Err place
    shape_lacks place depth n ns h = rw (lt-ltb depth (takes n) h)

    pub shape_on : (place depth : ℕ) (n : N) (ns : List N) → takes n ≤ depth
        → shape takes place depth (n ∷ ns) ≡ shape takes (place + 1) (depth - takes n + 1) ns
    shape_on place depth n ns h = rw (le-ltb depth (takes n) h)

    pub shape_one : (place depth : ℕ) → depth ≡ 1 → shape takes place depth [] ≡ Ok tt
    shape_one place depth h = rw (eq-eqb depth 1 h)

    pub shape_uneven : (place depth : ℕ) → (depth ≡ 1 → ⊥) → shape takes place depth [] ≡ Err place
    shape_uneven place depth h = rw (ne_eqb depth 1 h)

    -- The reading of the writing of a row.
    shape_writing : (h : Row N) → Proper takes h → (place depth : ℕ) (rest : List N)
        → shape takes place depth (writing h ++ rest) ≡ shape takes (place + length (writing h)) (depth + count h) rest
    shape_writing none p place depth rest =
        let a : place ≡ place + 0 = omega arith in
        let b : depth ≡ depth + 0 = omega arith in
        ap (λ (x : ℕ). shape takes x depth rest) a ∙ ap (λ (x : ℕ). shape takes (place + 0) x rest) b
    shape_writing (more f n g) p place depth rest =
        let lf = length (writing f) in
        let lg = length (writing g) in
        let a : place + lf + lg + 1 ≡ place + length (writing f ++ (writing g ++ (n ∷ []))) =
        simp length-append (omega arith) in
        let e = p.2 in
        let b : depth + count f + count g - takes n + 1 ≡ depth + suc (count f) = omega arith in
        ap (λ (x : List N). shape takes place depth x) (append_assoc (writing f) (writing g ++ (n ∷ [])) rest ∙ ap (λ (x : List N). writing f ++ x) (append_assoc (writing g) (n ∷ []) rest))
        ∙ shape_writing f p.0 place depth (writing g ++ (n ∷ rest))
        ∙ shape_writing g p.1 (place + lf) (depth + count f) (n ∷ rest)
        ∙ shape_on (place + lf + lg) (depth + count f + count g) n rest (omega arith)
        ∙ ap (λ (x : ℕ). shape takes x (depth + count f + count g - takes n + 1) rest) a
        ∙ ap (λ (x : ℕ). shape takes (place + length (writing f ++ (writing g ++ (n ∷ [])))) x rest) b

    shape_end : (f : Row N) → Proper takes f → shape takes 0 0 (writing f) ≡ shape takes (length (writing f)) (count f) []
    shape_end f p =
        let a : 0 + length (writing f) ≡ length (writing f) = omega arith in
        let b : 0 + count f ≡ count f = omega arith in
        ap (λ (x : List N). shape takes 0 0 x) (sym (append-nil (writing f))) ∙ shape_writing f p 0 0 []
        ∙ ap (λ (x : ℕ). shape takes x (0 + count f) []) a ∙ ap (λ (x : ℕ). shape takes (length (writing f)) x []) b

    by_one : (ns : List N) → One takes ns → Ok tt ≡ shape takes 0 0 ns
    by_one ns o =
        sym (shape_one (length (writing (alone o.tree))) 1 refl) ∙ sym (shape_end (alone o.tree) o.proper) ∙ ap (λ (x : List N). shape takes 0 0 x) o.spelled

    by_lacking : (ns : List N) (k : ℕ) → Lacking takes ns k → Err k ≡ shape takes 0 0 ns
    by_lacking ns k o =
        let a : 0 + length (writing o.front) ≡ k = omega (arith, o.at_place) in
        ap Err (sym a)
        ∙ sym (shape_lacks (0 + length (writing o.front)) (0 + count o.front) o.node o.rest (omega (arith, o.lacks)))
        ∙ sym (shape_writing o.front o.proper 0 0 (o.node ∷ o.rest))
        ∙ ap (λ (x : List N). shape takes 0 0 x) o.spelled

    by_uneven : (ns : List N) (k : ℕ) → Uneven takes ns k → Err k ≡ shape takes 0 0 ns
    by_uneven ns k o =
        ap Err (o.at_end ∙ sym (ap length o.spelled))
        ∙ sym (shape_uneven (length (writing o.front)) (count o.front) o.not_one)
        ∙ sym (shape_end o.front o.proper)
        ∙ ap (λ (x : List N). shape takes 0 0 x) o.spelled

    settled : (ns : List N) (r : Result (Unit {0}) ℕ) → Verdict takes ns r → r ≡ shape takes 0 0 ns
    settled ns (Ok u) v = by_one ns v
    settled ns (Err k) v = elim v [ inl o ↦ by_lacking ns k o | inr o ↦ by_uneven ns k o ]

    pub judged : (ns : List N) (r : Result (Unit {0}) ℕ) → r ≡ shape takes 0 0 ns → Judged takes ns r
    judged ns r e = record {
      verdict = subst (λ (x : Result (Unit {0}) ℕ). Verdict takes ns x) (sym e) (verdict ns);
      only = λ other v. settled ns other v ∙ sym e;
    }

    abbrev tree_in : Tree N → Row N → Tree N
    tree_in t none = t
    tree_in t (more f n g) = record { top = n; under = g }

    pub one_tree : (ns : List N) → OneTree takes ns
    one_tree ns s t = ap (tree_in s.tree) (one_reading (alone s.tree) (alone t.tree) s.proper t.proper (s.spelled ∙ sym t.spelled))
