-- Where both sets bind only names of the book, the search for a new name always ends with one.
use Rattle.std.proofs.Common.{◌≡◌, unwrap_or, ℕ, zero, suc, ◌+◌, ◌-◌, ◌^◌, ◌<◌, ◌≤◌, Bool, true, false, cond, ◌||◌, eqb, List, [], ◌∷◌, ◌++◌, length, is_some, Some, None, Option, sym, refl, ap, ◌∙◌, subst, inl, inr, arith, length-append}
use Rattle.std.proofs.lemmas.Bool.{eqb-true, or_cases, or_right}
use Rattle.names.specs.Names.{number_of}
use Rattle.policy_set.specs.declared.rows.Renaming.{Renaming}
use Rattle.policy_set.specs.declared.merge.attempt.Try.{Try}
use Rattle.policy_set.specs.Tables.{lookup, erase}
use Rattle.policy_set.specs.Rows.{template_id, policy_id}
use Rattle.policy_set.specs.Maps.{Maps, bound}
use Rattle.policy_set.specs.Merge.{among}
use Rattle.policy_set.specs.Choice.{candidate, attempt, first_free, after_these, pair, choose, taken_by}
use Rattle.policy_set.proofs.Lookups.{no_some, some_same}
use Rattle.policy_set.proofs.Sounds.{no_true}
use Rattle.policy_set.proofs.Gathered.{itself}
use Rattle.policy_set.proofs.NewNames.{number_apart}

-- an id that is there leaves one fewer when it is erased, and the others stay
pub length_less : (m : ℕ) (xs : List ℕ) → among m xs ≡ true → suc (length (erase itself m xs)) ≡ length xs
length_less m [] e = no_true e
length_less m (x ∷ xs) e = go (length_less m xs) (eqb x m) e
  where
    go : (among m xs ≡ true → suc (length (erase itself m xs)) ≡ length xs) → (c : Bool) → (c || among m xs) ≡ true → suc (length (cond c xs (x ∷ erase itself m xs))) ≡ suc (length xs)
    go ih true q = refl
    go ih false q = ap suc (ih q)

pub among-rest : (m j : ℕ) (xs : List ℕ) → (j ≡ m → ⊥) → among j xs ≡ true → among j (erase itself m xs) ≡ true
among-rest m j [] ne e = e
among-rest m j (x ∷ xs) ne e = go (among-rest m j xs ne) (eqb x m) (eqb x j) refl refl e
  where
    go : (among j xs ≡ true → among j (erase itself m xs) ≡ true) → (c d : Bool) → eqb x m ≡ c → eqb x j ≡ d → (d || among j xs) ≡ true
        → among j (cond c xs (x ∷ erase itself m xs)) ≡ true
    go ih true true p q h = absurd (ne (sym (eqb-true x j q) ∙ eqb-true x m p))
    go ih true false p q h = h
    go ih false true p q h = rw q
    go ih false false p q h = rw q (ih h)

-- the numbers that are taken from the counter c on are among these
Covers : List (List ℕ) → (ℕ → Bool) → ℕ → ℕ → List ℕ → Type 0
Covers texts taken limit c rest = (d m : ℕ) → c ≤ d → d < limit → number_of (candidate d) texts ≡ Some m → taken m ≡ true → among m rest ≡ true

module _ (texts : List (List ℕ)) (taken : ℕ → Bool) (limit : ℕ) (small : limit ≤ 2 ^ 64) (own : (k : ℕ) → taken k ≡ true → k < length texts) where
  record Found (tries fresh c : ℕ) (rest : List ℕ) : Type 0 where
    try : Try
    is : first_free texts taken tries fresh c ≡ Some try
    left : List ℕ
    covers : Covers texts taken limit try.counter left
    room : try.counter + length left ≤ c + 1 + length rest

  finds : (tries fresh c : ℕ) (rest : List ℕ) → c + tries ≤ limit → length rest < tries → Covers texts taken limit c rest → Found tries fresh c rest
  unfolding Covers
  finds zero fresh c rest in-limit lt cov = absurd (omega arith)
  finds (suc tries) fresh c rest in-limit lt cov =
      go (next (λ r l v. finds tries fresh (c + 1) r (omega arith) l v)) (taken (attempt texts fresh c).name) (number_of (candidate c) texts) refl refl
    where
      next : ((r : List ℕ) → length r < tries → Covers texts taken limit (c + 1) r → Found tries fresh (c + 1) r)
          → (m : ℕ) → number_of (candidate c) texts ≡ Some m → taken m ≡ true → Found tries fresh (c + 1) (erase itself m rest)
      next ih m p q =
          let h : among m rest ≡ true = cov c m (omega arith) (omega arith) p q in
          let l = length_less m rest h in
          ih (erase itself m rest) (omega (arith, l, lt))
          (λ d j low high e t. among-rest m j rest
          (λ z. let u : d ≡ c = number_apart texts d c m (omega arith) (omega arith) (e ∙ ap Some z) p in absurd (omega (arith, low, u)))
          (cov d j (omega (arith, low)) high e t))

      go : ((m : ℕ) → number_of (candidate c) texts ≡ Some m → taken m ≡ true → Found tries fresh (c + 1) (erase itself m rest))
          → (x : Bool) (o : Option ℕ) → taken (attempt texts fresh c).name ≡ x → number_of (candidate c) texts ≡ o → Found (suc tries) fresh c rest
      go nx false o p q = record {
        try = attempt texts fresh c;
        is = rw p;
        left = rest;
        covers = λ d m low high e t. cov d m (omega (arith, low)) high e t;
        room = omega arith;
      }
      go nx true None p q =
          let w : taken (length texts + fresh) ≡ true = subst (λ (o : Option ℕ). taken (unwrap_or o (length texts + fresh)) ≡ true) q p in
          absurd (omega (arith, own (length texts + fresh) w))
      go nx true (Some m) p q =
          let w : taken m ≡ true = subst (λ (o : Option ℕ). taken (unwrap_or o (length texts + fresh)) ≡ true) q p in
          let g = nx m q w in
          record {
            try = g.try;
            is = rw p g.is;
            left = g.left;
            covers = g.covers;
            room = omega (arith, g.room, length_less m rest (cov c m (omega arith) (omega arith) q w));
          }

  chooses_all : (fresh c : ℕ) (is rest : List ℕ) → c + (length is + length rest) ≤ limit → Covers texts taken limit c rest → is_some (choose texts taken limit fresh c is) ≡ true
  unfolding Covers
  chooses_all fresh c [] rest le cov = refl
  chooses_all fresh c (i ∷ is) rest le cov =
      let g = finds (limit - c) fresh c rest (omega arith) (omega (arith, le)) cov in
      at_try (first_free texts taken (limit - c) fresh c) g.try g.is
      (kept g.try.name (choose texts taken limit g.try.fresh g.try.counter is) (chooses_all g.try.fresh g.try.counter is g.left (omega (arith, le, g.room)) g.covers))
    where
      kept : (k : ℕ) (o : Option (List Renaming)) → is_some o ≡ true → is_some (after_these (pair i k ∷ []) o) ≡ true
      kept k None h = h
      kept k (Some x) h = refl

      at_try : (o : Option Try) (t : Try) → o ≡ Some t → is_some (after_these (pair i t.name ∷ []) (choose texts taken limit t.fresh t.counter is)) ≡ true
          → is_some {T = List Renaming} (elim o [ None ↦ None | Some u ↦ after_these (pair i u.name ∷ []) (choose texts taken limit u.fresh u.counter is) ]) ≡ true
      at_try None t e h = no_some t e
      at_try (Some u) t e h =
          subst (λ (v : Try). is_some (after_these (pair i v.name ∷ []) (choose texts taken limit v.fresh v.counter is)) ≡ true) (sym (some_same u t e)) h

-- the keys of rows
abbrev pub keys : {X : Type 0} → (X → ℕ) → List X → List ℕ
keys key [] = []
keys key (x ∷ xs) = key x ∷ keys key xs

pub length_keys : {X : Type 0} (key : X → ℕ) (xs : List X) → length (keys key xs) ≡ length xs
length_keys key [] = refl
length_keys key (x ∷ xs) = ap suc (length_keys key xs)

pub among-left : (k : ℕ) (xs ys : List ℕ) → among k xs ≡ true → among k (xs ++ ys) ≡ true
among-left k [] ys e = no_true e
among-left k (x ∷ xs) ys e = go (among-left k xs ys) (eqb x k) e
  where
    go : (among k xs ≡ true → among k (xs ++ ys) ≡ true) → (c : Bool) → (c || among k xs) ≡ true → (c || among k (xs ++ ys)) ≡ true
    go ih true h = refl
    go ih false h = ih h

pub among_right : (k : ℕ) (xs ys : List ℕ) → among k ys ≡ true → among k (xs ++ ys) ≡ true
among_right k [] ys e = e
among_right k (x ∷ xs) ys e = or_right (eqb x k) (among k (xs ++ ys)) (among_right k xs ys e)

pub among_keys : {X : Type 0} (key : X → ℕ) (k : ℕ) (xs : List X) → is_some (lookup key k xs) ≡ true → among k (keys key xs) ≡ true
among_keys key k [] e = e
among_keys {X} key k (x ∷ xs) e = go (among_keys key k xs) (eqb (key x) k) e
  where
    go : (is_some (lookup key k xs) ≡ true → among k (keys key xs) ≡ true) → (c : Bool) → is_some (cond c (Some x) (lookup key k xs)) ≡ true → (c || among k (keys key xs)) ≡ true
    go ih true h = refl
    go ih false h = ih h

-- all ids of a set
abbrev pub ids_of : Maps → List ℕ
ids_of m = keys template_id m.templates ++ keys policy_id m.policies

pub length_ids : (m : Maps) → length (ids_of m) ≡ length m.templates + length m.policies
length_ids m = length-append (keys template_id m.templates) (keys policy_id m.policies) ∙ (λ i. length_keys template_id m.templates i + length_keys policy_id m.policies i)

pub among_ids : (m : Maps) (k : ℕ) → bound m k ≡ true → among k (ids_of m) ≡ true
among_ids m k e = elim (or_cases (is_some (lookup template_id k m.templates)) (is_some (lookup policy_id k m.policies)) e) [
  | inl h ↦ among-left k (keys template_id m.templates) (keys policy_id m.policies) (among_keys template_id k m.templates h)
  | inr h ↦ among_right k (keys template_id m.templates) (keys policy_id m.policies) (among_keys policy_id k m.policies h)
]

-- every gathered id gets a new one, where the counter may try as often as there are ids
pub names_found : (texts : List (List ℕ)) (limit : ℕ) → limit ≤ 2 ^ 64 → (live incoming : Maps) (ids : List ℕ)
    → ((k : ℕ) → taken_by live incoming k ≡ true → k < length texts)
    → length ids + (length (ids_of live) + length (ids_of incoming)) ≤ limit
    → is_some (choose texts (taken_by live incoming) limit 0 0 ids) ≡ true
unfolding Covers
names_found texts limit small live incoming ids own le =
    chooses_all texts (taken_by live incoming) limit small own 0 0 ids (ids_of live ++ ids_of incoming)
    (omega (arith, le, length-append (ids_of live) (ids_of incoming)))
    (λ d m low high e t. elim (or_cases (bound live m) (bound incoming m) t) [
      | inl h ↦ among-left m (ids_of live) (ids_of incoming) (among_ids live m h)
      | inr h ↦ among_right m (ids_of live) (ids_of incoming) (among_ids incoming m h)
    ])
