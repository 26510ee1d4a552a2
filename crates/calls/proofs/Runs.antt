-- The law of a list of calls, one call more at a time.
use Rattle.std.proofs.Common.{◌≡◌, ℕ, zero, suc, ◌+◌, ◌≤◌, ◌<◌, Bool, true, false, ltb, List, [], ◌∷◌, ◌++◌, ◌⊎◌, inl, inr, length, take, drop, set, map, Some, Result, sym, refl, ap, ◌∙◌, subst, arith}
use Rattle.std.proofs.lemmas.Bool.{ltb-true, ltb-false}
use Rattle.std.proofs.lemmas.List.{take-append-le, take_all, length_push, take_more_set, map-append, drop-set-lt}
use Rattle.std.proofs.lemmas.Grind.{drop_more_same}
use Rattle.std.specs.List.{slice_get}
use Rattle.refusals.specs.declared.refusal.Refusal.{Refusal}
use Rattle.clauses.specs.Book.{Clause, same_clause}
use Rattle.names.specs.Names.{Limits}
use Rattle.policy_set.proofs.Lookups.{no_some, some_same}
use Rattle.calls.specs.declared.call.Call.{Call}
use Rattle.calls.specs.Model.{Told, State, answered, step, after, answers}
use Rattle.calls.specs.Law.{Tallies, fed, tallied, TakesLatest, BothShow, OneCall, Throughout, Ran}

-- what stands at a place of a list with one more at its end
pushed_at : {X : Type 0} (xs : List X) (x y : X) (n : ℕ) → slice_get (xs ++ x ∷ []) n ≡ Some y → ((n < length xs) × (slice_get xs n ≡ Some y)) ⊎ ((n ≡ length xs) × (x ≡ y))
pushed_at [] x y zero e = inr (refl, some_same x y e)
pushed_at [] x y (suc n) e = no_some y e
pushed_at (z ∷ xs) x y zero e = inl (omega arith, e)
pushed_at (z ∷ xs) x y (suc n) e = elim (pushed_at xs x y n e) [ inl h ↦ inl (omega (arith, h.0), h.1) | inr h ↦ inr (ap suc h.0, h.1) ]

module _ {C : Type 0} (limits : Limits) (equal : C → C → Bool) (cs : List (Clause C)) where
  after_more : (w : State) (xs : List Call) (c : Call) → after limits equal cs w (xs ++ c ∷ []) ≡ step limits equal cs (after limits equal cs w xs) c
  after_more w [] c = refl
  after_more w (x ∷ xs) c = after_more (step limits equal cs w x) xs c

  answers_more : (w : State) (xs : List Call) (c : Call)
      → answers limits equal cs w (xs ++ c ∷ []) ≡ answers limits equal cs w xs ++ answered limits equal cs (after limits equal cs w xs) c ∷ []
  answers_more w [] c = refl
  answers_more w (x ∷ xs) c = ap (λ (rs : List (Result Told Refusal)). answered limits equal cs w x ∷ rs) (answers_more (step limits equal cs w x) xs c)

  as_many : (w : State) (xs : List Call) → length (answers limits equal cs w xs) ≡ length xs
  as_many w [] = refl
  as_many w (x ∷ xs) = ap suc (as_many (step limits equal cs w x) xs)

  tallied_more : (t : Tallies) (xs : List Call) (rs : List (Result Told Refusal)) (c : Call) (a : Result Told Refusal) → length rs ≡ length xs
      → tallied (same_clause equal cs) t (xs ++ c ∷ []) (rs ++ a ∷ []) ≡ fed (same_clause equal cs) (tallied (same_clause equal cs) t xs rs) c a
  tallied_more t [] [] c a e = refl
  tallied_more t [] (b ∷ rs) c a e = absurd (omega (arith, e))
  tallied_more t (x ∷ xs) [] c a e = absurd (omega (arith, e))
  tallied_more t (x ∷ xs) (b ∷ rs) c a e = tallied_more (fed (same_clause equal cs) t x b) xs rs c a (omega (arith, e))

  -- what was shown after so many calls
  abbrev AfterSome : Tallies → State → List Call → List (Result Told Refusal) → ℕ → Type 0
  AfterSome t w xs rs n = BothShow equal cs (tallied (same_clause equal cs) t (take n xs) (take n rs)) (after limits equal cs w (take n xs))

  before_shown : (t : Tallies) (w : State) (xs : List Call) (rs : List (Result Told Refusal)) → length rs ≡ length xs → Throughout equal cs limits t w xs rs
      → BothShow equal cs (tallied (same_clause equal cs) t xs rs) (after limits equal cs w xs)
  before_shown t w xs rs e h =
      subst (λ (bs : List (Result Told Refusal)). BothShow equal cs (tallied (same_clause equal cs) t xs bs) (after limits equal cs w xs)) (take_all (length xs) rs (omega (arith, e)))
      (subst (λ (ys : List Call). BothShow equal cs (tallied (same_clause equal cs) t ys (take (length xs) rs)) (after limits equal cs w ys)) (take_all (length xs) xs (omega arith))
      (h.shows (length xs) (omega arith)))

  throughout_more : (t : Tallies) (w : State) (xs : List Call) (rs : List (Result Told Refusal)) (c : Call) (a : Result Told Refusal) → length rs ≡ length xs → Throughout equal cs limits t w xs rs
      → OneCall equal cs (after limits equal cs w xs) (step limits equal cs (after limits equal cs w xs) c) c a
      → Throughout equal cs limits t w (xs ++ c ∷ []) (rs ++ a ∷ [])
  throughout_more t w xs rs c a e h one = record { shows = λ n l. show n l (ltb n (length xs + 1)) refl; takes = λ n d b p q. takes n d b (pushed_at xs c d n p) (pushed_at rs a b n q) }
    where
      early : (n : ℕ) → n ≤ length xs → (take n (xs ++ c ∷ []) ≡ take n xs) × (take n (rs ++ a ∷ []) ≡ take n rs)
      early n l = (take-append-le n xs (c ∷ []) l, take-append-le n rs (a ∷ []) (omega (arith, l, e)))

      show : (n : ℕ) → n ≤ length (xs ++ c ∷ []) → (b : Bool) → ltb n (length xs + 1) ≡ b → AfterSome t w (xs ++ c ∷ []) (rs ++ a ∷ []) n
      show n l true d =
          let s : n ≤ length xs = omega (arith, ltb-true n (length xs + 1) d) in
          let p = early n s in
          rw (p.0, p.1) (h.shows n s)
      show n l false d =
          let s = ltb-false n (length xs + 1) d in
          let p : take n (xs ++ c ∷ []) ≡ xs ++ c ∷ [] = take_all n (xs ++ c ∷ []) (omega (arith, s, length_push xs c)) in
          let q : take n (rs ++ a ∷ []) ≡ rs ++ a ∷ [] = take_all n (rs ++ a ∷ []) (omega (arith, s, e, length_push rs a)) in
          rw (p, q, tallied_more t xs rs c a e, after_more w xs c) (one.shows (tallied (same_clause equal cs) t xs rs) (before_shown t w xs rs e h))

      takes : (n : ℕ) (d : Call) (b : Result Told Refusal) → ((n < length xs) × (slice_get xs n ≡ Some d)) ⊎ ((n ≡ length xs) × (c ≡ d))
          → ((n < length rs) × (slice_get rs n ≡ Some b)) ⊎ ((n ≡ length rs) × (a ≡ b))
          → TakesLatest (same_clause equal cs) (tallied (same_clause equal cs) t (take n (xs ++ c ∷ [])) (take n (rs ++ a ∷ []))) d b
      takes n d b (inl p) (inl q) = let r = early n (omega (arith, p.0)) in rw (r.0, r.1) (h.takes n d b p.1 q.1)
      takes n d b (inl p) (inr q) = absurd (omega (arith, p.0, q.0, e))
      takes n d b (inr p) (inl q) = absurd (omega (arith, p.0, q.0, e))
      takes n d b (inr p) (inr q) =
          let r = early n (omega (arith, p.0)) in
          let x : take n xs ≡ xs = take_all n xs (omega (arith, p.0)) in
          let y : take n rs ≡ rs = take_all n rs (omega (arith, q.0)) in
          rw (r.0, r.1, x, y, ← p.1, ← q.1) (one.takes (tallied (same_clause equal cs) t xs rs) (before_shown t w xs rs e h))

  -- no call was made
  pub ran_none : (w : State) → Ran equal cs limits w w [] []
  ran_none w = record { answers = refl; left = refl; law = λ t h. record { shows = λ n l. none t h n; takes = λ n c a p q. no_some c p } }
    where
      none : (t : Tallies) → BothShow equal cs t w → (n : ℕ) → AfterSome t w [] [] n
      none t h zero = h
      none t h (suc n) = h

  -- one call more was made, on a book of the same limits
  pub ran_more : (now : Limits) → now ≡ limits → (w end new : State) (xs ys : List Call) (rs ss : List (Result Told Refusal)) (c : Call) (a : Result Told Refusal) → Ran equal cs limits w end xs rs
      → a ≡ answered now equal cs end c → new ≡ step now equal cs end c → OneCall equal cs end new c a
      → ys ≡ xs ++ c ∷ [] → ss ≡ rs ++ a ∷ [] → Ran equal cs limits w new ys ss
  ran_more now l w end new xs ys rs ss c a h e f one p q =
      subst (λ (zs : List Call). Ran equal cs limits w new zs ss) (sym p) (subst (λ (ts : List (Result Told Refusal)). Ran equal cs limits w new (xs ++ c ∷ []) ts) (sym q) record {
        answers = ap (λ (b : Result Told Refusal). rs ++ b ∷ []) (e ∙ (ap (λ (k : Limits). answered k equal cs end c) l ∙ ap (λ (x : State). answered limits equal cs x c) h.left))
            ∙ (ap (λ (bs : List (Result Told Refusal)). bs ++ answered limits equal cs (after limits equal cs w xs) c ∷ []) h.answers ∙ sym (answers_more w xs c));
        left = made ∙ (ap (λ (x : State). step limits equal cs x c) h.left ∙ sym (after_more w xs c));
        law = λ t g. throughout_more t w xs rs c a (ap length h.answers ∙ as_many w xs) (h.law t g)
            (subst (λ (x : State). OneCall equal cs x (step limits equal cs x c) c a) h.left (subst (λ (x : State). OneCall equal cs end x c a) made one));
      })
    where
      made : new ≡ step limits equal cs end c
      made = f ∙ ap (λ (k : Limits). step k equal cs end c) l

-- the calls and answers so far, and what is left of the answers, one place further on
pub places_more : {X Y : Type 0} (f : X → Y) (xs ys : List X) (i : ℕ) (x : X) → i < length xs → drop i xs ≡ drop i ys
    → (map f (take (i + 1) (set xs i x)) ≡ map f (take i xs) ++ f x ∷ []) × (drop (i + 1) (set xs i x) ≡ drop (i + 1) ys)
places_more f xs ys i x l e = (
  ap (map f) (take_more_set xs i x l) ∙ map-append f (take i xs) (x ∷ []),
  drop-set-lt (i + 1) xs i x (omega arith) ∙ drop_more_same xs ys i e,
)
