-- Numbers of texts.
use Rattle.std.proofs.Common.{◌≡◌, ℕ, zero, suc, ◌<◌, ◌≤◌, Bool, true, false, cond, eqb, List, [], ◌∷◌, ◌++◌, length, get_or, Some, None, Ok, Err, Option, sym, refl, ap, ◌∙◌, subst, inl, inr, arith, le-ltb, lt-ltb}
use borrow.Author.Tests.{clash}
use Rattle.std.specs.Str.{bytes_eq}
use Rattle.refusals.specs.declared.refusal.Refusal.TheVariants.{UnknownName}
use Rattle.std.proofs.lemmas.Slice.Eq.{bytes_eq-Decides, slice_eq-Decides}
use Rattle.std.proofs.lemmas.Bool.Decides.{Decides-eqb}
use Rattle.std.specs.Option.{MatchOption}
use Rattle.std.specs.Cmp.Lexicographic.{pointwise}
use Rattle.names.specs.Names.{later, number_of, distinct, text_answer, OneToOne}
use Rattle.names.specs.Lent.{lent}
use Rattle.std.specs.Prelude.{ok_or}
use Rattle.std.specs.Borrow.{Bor}
use Rattle.std.specs.List.{slice_get}
use Rattle.std.specs.Option.{option_map}
use Rattle.std.proofs.lemmas.Bool.{cases_lt}
use Rattle.std.proofs.lemmas.Option.{slice_get-get_or, slice_get_past}

-- Two tests of one pair of texts.
not_same : (s t : List ℕ) → (s ≡ t → ⊥) → bytes_eq s t ≡ false
not_same s t no_way = by (bytes_eq s t) refl where
  by : (b : Bool) → bytes_eq s t ≡ b → bytes_eq s t ≡ false
  by true e = elim (no_way ((bytes_eq-Decides s t).0 e)) [ ]
  by false e = e

-- The first place where a text stands is its number.
pub number_at : (text : List ℕ) (texts : List (List ℕ)) (n : ℕ) → ((k : ℕ) → k < n → get_or texts k [] ≡ text → ⊥)
    → n < length texts → get_or texts n [] ≡ text → number_of text texts ≡ Some n
number_at text [] n before h e = elim (let z : ⊥ = omega arith in z) [ ]
number_at text (t ∷ ts) zero before h e =
    ap (λ (b : Bool). cond b (Some 0) (later (number_of text ts))) ((bytes_eq-Decides t text).1 e)
number_at text (t ∷ ts) (suc n) before h e =
    ap (λ (b : Bool). cond b (Some 0) (later (number_of text ts))) (not_same t text (before 0 (omega arith)))
    ∙ ap later (number_at text ts n (λ k l. before (suc k) (omega arith)) (omega arith) e)

-- A text that stands nowhere has no number.
pub number_none : (text : List ℕ) (texts : List (List ℕ)) → ((k : ℕ) → k < length texts → get_or texts k [] ≡ text → ⊥)
    → number_of text texts ≡ None
number_none text [] absent = refl
number_none text (t ∷ ts) absent =
    ap (λ (b : Bool). cond b (Some 0) (later (number_of text ts))) (not_same t text (absent 0 (omega arith)))
    ∙ ap later (number_none text ts (λ k l. absent (suc k) (omega arith)))

-- The first number whose text it is, if any, among all numbers.
pub number_found : (text : List ℕ) (texts : List (List ℕ)) (count : ℕ) (o : Option ℕ) → count ≡ length texts
    → MatchOption o ((k : ℕ) → 0 ≤ k → k < count → get_or texts k [] ≡ text → ⊥) (λ n. (0 ≤ n) × (n < count) × (get_or texts n [] ≡ text) × ((k : ℕ) → 0 ≤ k → k < n → get_or texts k [] ≡ text → ⊥))
    → o ≡ number_of text texts
number_found text texts count None c f = sym (number_none text texts (λ k h. f k (omega arith) (omega arith)))
number_found text texts count (Some n) c w = sym (number_at text texts n (λ k h. w.3 k (omega arith) h) (omega (arith, w.1)) w.2)

-- Where `==` says yes of a piece, it is the text; where it says no, it is not.
pub same_piece : (piece text held : List ℕ) → true ≡ pointwise eqb piece text → piece ≡ held → held ≡ text
same_piece piece text held e h = sym h ∙ (slice_eq-Decides Decides-eqb piece text true e).0 refl

pub other_piece : (piece text held : List ℕ) → false ≡ pointwise eqb piece text → piece ≡ held → held ≡ text → ⊥
other_piece piece text held e h s = clash ((slice_eq-Decides Decides-eqb piece text false e).1 (h ∙ s))

-- What a text's number says, where it has one.
abbrev Stands : List ℕ → List (List ℕ) → Option ℕ → Type 0
Stands text texts None = Unit {0}
Stands text texts (Some n) = (n < length texts) × (get_or texts n [] ≡ text)

stands_later : (text t : List ℕ) (ts : List (List ℕ)) (o : Option ℕ) → Stands text ts o → Stands text (t ∷ ts) (later o)
stands_later text t ts None h = tt
stands_later text t ts (Some n) h = (omega (arith, h.0), h.1)

stands : (text : List ℕ) (texts : List (List ℕ)) → Stands text texts (number_of text texts)
stands text [] = tt
stands text (t ∷ ts) = by (bytes_eq t text) refl (stands text ts) where
  by : (b : Bool) → bytes_eq t text ≡ b → Stands text ts (number_of text ts)
      → Stands text (t ∷ ts) (cond b (Some 0) (later (number_of text ts)))
  by true e h = (omega arith, (bytes_eq-Decides t text).0 e)
  by false e h = stands_later text t ts (number_of text ts) h

-- The number of a text reads back as the text.
pub number_reads : (text : List ℕ) (texts : List (List ℕ)) (n : ℕ) → number_of text texts ≡ Some n
    → (n < length texts) × (get_or texts n [] ≡ text)
number_reads text texts n e = subst (λ (o : Option ℕ). Stands text texts o) e (stands text texts)

later_none : (o : Option ℕ) → later o ≡ None → o ≡ None
later_none None e = refl
later_none (Some n) e = let z : ◌≡◌ {A = ℕ} 0 1 = cc in elim (let f : ⊥ = omega arith in f) [ ]

none_by : (b : Bool) (o : Option ℕ) → cond b (Some 0) (later o) ≡ None → (b ≡ false) × (o ≡ None)
none_by true o e = let z : ◌≡◌ {A = ℕ} 0 1 = cc in elim (let f : ⊥ = omega arith in f) [ ]
none_by false o e = (refl, later_none o e)

-- A text without a number stands nowhere.
pub none_absent : (text : List ℕ) (texts : List (List ℕ)) → number_of text texts ≡ None
    → (k : ℕ) → k < length texts → get_or texts k [] ≡ text → ⊥
none_absent text [] e k h s = omega arith
none_absent text (t ∷ ts) e zero h s =
    clash (sym (none_by (bytes_eq t text) (number_of text ts) e).0 ∙ (bytes_eq-Decides t text).1 s)
none_absent text (t ∷ ts) e (suc k) h s =
    none_absent text ts (none_by (bytes_eq t text) (number_of text ts) e).1 k (omega arith) s

apart_split : (o : Option ℕ) (d : Bool) → elim o [ None ↦ d | Some n ↦ false ] ≡ true → (o ≡ None) × (d ≡ true)
apart_split None d e = (refl, e)
apart_split (Some n) d e = elim (clash e) [ ]

-- In a list without repeats no two numbers have one text.
pub distinct_one_to_one : (texts : List (List ℕ)) → distinct texts ≡ true → OneToOne texts
distinct_one_to_one [] d m n h k e = elim (let f : ⊥ = omega arith in f) [ ]
distinct_one_to_one (t ∷ ts) d zero zero h k e = refl
distinct_one_to_one (t ∷ ts) d zero (suc n) h k e =
    elim (none_absent t ts (apart_split (number_of t ts) (distinct ts) d).0 n (omega arith) (sym e)) [ ]
distinct_one_to_one (t ∷ ts) d (suc m) zero h k e =
    elim (none_absent t ts (apart_split (number_of t ts) (distinct ts) d).0 m (omega arith) e) [ ]
distinct_one_to_one (t ∷ ts) d (suc m) (suc n) h k e =
    ap suc (distinct_one_to_one ts (apart_split (number_of t ts) (distinct ts) d).1 m n (omega arith) (omega arith) e)

pub number_append : (text : List ℕ) (texts : List (List ℕ)) (new : List ℕ) → number_of text texts ≡ None → (new ≡ text → ⊥)
    → number_of text (texts ++ (new ∷ [])) ≡ None
number_append text [] new e no_way =
    ap (λ (b : Bool). cond b (Some 0) None) (not_same new text no_way)
number_append text (t ∷ ts) new e no_way =
    let w = none_by (bytes_eq t text) (number_of text ts) e in
    ap (λ (b : Bool). cond b (Some 0) (later (number_of text (ts ++ (new ∷ []))))) w.0
    ∙ ap later (number_append text ts new w.1 no_way)

-- A text that stands nowhere makes no repeat.
pub distinct_more : (texts : List (List ℕ)) (new : List ℕ) → distinct texts ≡ true → number_of new texts ≡ None
    → distinct (texts ++ (new ∷ [])) ≡ true
distinct_more [] new d e = refl
distinct_more (t ∷ ts) new d e =
    let w = apart_split (number_of t ts) (distinct ts) d in
    let v = none_by (bytes_eq t new) (number_of new ts) e in
    let n = number_append t ts new w.0 (λ s. clash (sym v.0 ∙ (bytes_eq-Decides t new).1 (sym s))) in
    ap (λ (o : Option ℕ). elim o [ None ↦ distinct (ts ++ (new ∷ [])) | Some k ↦ false ]) n
    ∙ distinct_more ts new w.1 v.1

-- What reading answers, by the text of the number.
pub text_read : (texts : List (List ℕ)) (n : ℕ) → text_answer texts n ≡ ok_or (slice_get texts n) (UnknownName n)
text_read texts n =
    elim (cases_lt n (length texts)) [
      | inl h ↦ ap (λ (b : Bool). cond b (Ok (get_or texts n [])) (Err (UnknownName n))) (lt-ltb n (length texts) h)
          ∙ sym (ap (λ (o : Option (List ℕ)). ok_or o (UnknownName n)) (slice_get-get_or texts n [] h))
      | inr h ↦ ap (λ (b : Bool). cond b (Ok (get_or texts n [])) (Err (UnknownName n))) (le-ltb n (length texts) h)
          ∙ sym (ap (λ (o : Option (List ℕ)). ok_or o (UnknownName n)) (slice_get_past texts n h))
    ]

-- The same, of a text that is lent.
pub text_lent : (texts : List (List ℕ)) (n : ℕ) (o : Option (Bor (List ℕ))) → option_map (λ x. x.now) o ≡ slice_get texts n
    → lent (ok_or o (record { number = n })) ≡ text_answer texts n
text_lent texts n None e = sym (text_read texts n ∙ sym (ap (λ (o : Option (List ℕ)). ok_or o (UnknownName n)) e))
text_lent texts n (Some x) e = sym (text_read texts n ∙ sym (ap (λ (o : Option (List ℕ)). ok_or o (UnknownName n)) e))
