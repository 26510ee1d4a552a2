-- The texts that enter the book with the new ids.
use Rattle.std.proofs.Common.{◌≡◌, ℕ, ◌+◌, ◌-◌, ◌^◌, ◌<◌, ◌≤◌, Bool, true, false, cond, eqb, ltb, leb, List, [], ◌∷◌, ◌++◌, length, get_or, Some, None, Ok, Err, codes, decimal, Option, sym, refl, ap, ◌∙◌, subst, arith, length-append}
use Rattle.std.specs.List.{sum_by}
use Rattle.std.proofs.lemmas.List.Sums.{sum_by-cons}
use Rattle.std.proofs.lemmas.Bool.{eqb-true, lt-ltb, le-ltb, leb-true, le-leb, and_parts, and_from, cond-true, cond-false}
use Rattle.std.proofs.lemmas.List.{append_assoc, append-nil, length_push, get_or_at, get_or_append_left}
use Rattle.std.proofs.lemmas.Fmt.{length-decimal-le}
use Rattle.refusals.specs.declared.refusal.Refusal.TheVariants.{TooLong, BookFull}
use Rattle.names.specs.Names.{Limits, number_of, bytes_in, fits, room_for, enter_answer, found_or, name_answer, with_new, name_after}
use Rattle.names.proofs.Names.{number_reads, number_append}
use Rattle.policy_set.specs.declared.rows.Renaming.{Renaming}
use Rattle.policy_set.specs.declared.merge.attempt.Try.{Try}
use Rattle.policy_set.specs.Tables.{lookup}
use Rattle.policy_set.specs.Merge.{new_id}
use Rattle.policy_set.specs.Choice.{candidate, candidates, first_free, after_these, pair, choose, new_text, new_texts, enter_all, ReadsBack}
use Rattle.policy_set.proofs.Lookups.{no_some, some_same}
use Rattle.policy_set.proofs.NewNames.{Got, got, Kind, kind, same_candidate}
use Rattle.policy_set.proofs.NewNames.Kind.{present, new}

-- a try leaves its counter exactly where its text is new
text_none : (fresh : ℕ) (t : Try) → t.fresh ≡ fresh → new_text fresh t ≡ []
text_none fresh t e = cond-false (ltb fresh t.fresh) ((t.counter - 1) ∷ []) [] (le-ltb fresh t.fresh (omega arith))

text_one : (fresh at : ℕ) (t : Try) → t.fresh ≡ fresh + 1 → t.counter ≡ at + 1 → new_text fresh t ≡ at ∷ []
text_one fresh at t e f =
    let z : t.counter - 1 ≡ at = omega arith in
    cond-true (ltb fresh t.fresh) ((t.counter - 1) ∷ []) [] (lt-ltb fresh t.fresh (omega arith)) ∙ ap (λ k. k ∷ []) z

-- counters of texts that the book lacks, rising from c on
abbrev pub Rising : List (List ℕ) → ℕ → ℕ → List ℕ → Type 0
Rising texts limit c [] = Unit {0}
Rising texts limit c (d ∷ ds) = (c ≤ d) × (d < limit) × (number_of (candidate d) texts ≡ None) × Rising texts limit (d + 1) ds

rising_from : (texts : List (List ℕ)) (limit c d : ℕ) (ds : List ℕ) → c ≤ d → Rising texts limit d ds → Rising texts limit c ds
rising_from texts limit c d [] h r = tt
rising_from texts limit c d (e ∷ ds) h r = (omega (arith, r.0), r.1, r.2, r.3)

module _ (texts : List (List ℕ)) (taken : ℕ → Bool) (limit : ℕ) where
  pub texts_rising : (fresh c : ℕ) (is : List ℕ) → Rising texts limit c (new_texts texts taken limit fresh c is)
  texts_rising fresh c [] = tt
  texts_rising fresh c (i ∷ is) = go (λ t. texts_rising t.fresh t.counter is) (first_free texts taken (limit - c) fresh c) refl
    where
      step : (t : Try) (at : ℕ) → c ≤ at → at < c + (limit - c) → Kind texts fresh at t → Rising texts limit t.counter (new_texts texts taken limit t.fresh t.counter is)
          → Rising texts limit c (new_text fresh t ++ new_texts texts taken limit t.fresh t.counter is)
      step t at low high (present p q r) h =
          subst (λ (ns : List ℕ). Rising texts limit c (ns ++ new_texts texts taken limit t.fresh t.counter is)) (sym (text_none fresh t r))
          (rising_from texts limit c t.counter (new_texts texts taken limit t.fresh t.counter is) (omega arith) h)
      step t at low high (new p n q r) h =
          subst (λ (ns : List ℕ). Rising texts limit c (ns ++ new_texts texts taken limit t.fresh t.counter is)) (sym (text_one fresh at t r q))
          (low, omega arith, p, rising_from texts limit (at + 1) t.counter (new_texts texts taken limit t.fresh t.counter is) (omega arith) h)

      go : ((t : Try) → Rising texts limit t.counter (new_texts texts taken limit t.fresh t.counter is)) → (o : Option Try) → first_free texts taken (limit - c) fresh c ≡ o
          → Rising texts limit c (elim o [ None ↦ [] | Some t ↦ new_text fresh t ++ new_texts texts taken limit t.fresh t.counter is ])
      go ih None e = tt
      go ih (Some t) e = let g = got texts taken (limit - c) fresh c t e in step t g.at g.low g.high (kind texts fresh g.at t g.is) (ih t)

  -- each new id reads as its text in the book with the new texts
  record Base (fresh : ℕ) (base : List (List ℕ)) : Type 0 where
    long : length base ≡ length texts + fresh
    old : (m : ℕ) → m < length texts → get_or base m [] ≡ get_or texts m []

  Reads : List (List ℕ) → ℕ → Type 0
  Reads all k = (d : ℕ) × (k < length all) × (get_or all k [] ≡ candidate d)

  base_more : (fresh : ℕ) (base : List (List ℕ)) (t : List ℕ) → Base fresh base → Base (fresh + 1) (base ++ t ∷ [])
  base_more fresh base t b = record {
    long = omega (arith, length_push base t, b.long);
    old = λ m h. get_or_append_left base (t ∷ []) [] m (omega (arith, b.long)) ∙ b.old m h;
  }

  reads_old : (base more : List (List ℕ)) (fresh c m : ℕ) → Base fresh base → number_of (candidate c) texts ≡ Some m → Reads (base ++ more) m
  unfolding Reads
  reads_old base more fresh c m b p =
      let r = number_reads (candidate c) texts m p in
      let l : m < length base = omega (arith, r.0, b.long) in
      (c, omega (arith, length-append base more), get_or_append_left base more [] m l ∙ (b.old m r.0 ∙ r.1))

  reads_new : (base more : List (List ℕ)) (fresh c : ℕ) → Base fresh base → Reads (base ++ (candidate c ∷ more)) (length texts + fresh)
  unfolding Reads
  reads_new base more fresh c b = (
    c,
    omega (arith, length-append base (candidate c ∷ more), b.long),
    subst (λ k. get_or (base ++ (candidate c ∷ more)) k [] ≡ candidate c) b.long (get_or_at base (candidate c) more [] (length base) refl),
  )

  -- one choice before the others
  reads_more : (fresh at i k : ℕ) (t : Try) (qs : List Renaming) (ns : List ℕ) (base : List (List ℕ)) (p : Renaming) → Base fresh base → Kind texts fresh at t
      → ((bs : List (List ℕ)) → Base t.fresh bs → lookup new_id k qs ≡ Some p → Reads (bs ++ candidates ns) k)
      → (x : Bool) → eqb t.name k ≡ x → cond x (Some (pair i t.name)) (lookup new_id k qs) ≡ Some p
      → Reads (base ++ candidates (new_text fresh t ++ ns)) k
  reads_more fresh at i k t qs ns base p b (present q n r) rest x e h =
      subst (λ (ms : List ℕ). Reads (base ++ candidates (ms ++ ns)) k) (sym (text_none fresh t r)) (go x e h)
    where
      go : (x : Bool) → eqb t.name k ≡ x → cond x (Some (pair i t.name)) (lookup new_id k qs) ≡ Some p → Reads (base ++ candidates ns) k
      go true d g = subst (Reads (base ++ candidates ns)) (eqb-true t.name k d) (reads_old base (candidates ns) fresh at t.name b q)
      go false d g = rest base (subst (λ f. Base f base) (sym r) b) g
  reads_more fresh at i k t qs ns base p b (new q m n r) rest x e h =
      subst (λ (ms : List ℕ). Reads (base ++ candidates (ms ++ ns)) k) (sym (text_one fresh at t r n)) (go x e h)
    where
      go : (x : Bool) → eqb t.name k ≡ x → cond x (Some (pair i t.name)) (lookup new_id k qs) ≡ Some p → Reads (base ++ (candidate at ∷ candidates ns)) k
      go true d g = subst (Reads (base ++ (candidate at ∷ candidates ns))) (sym m ∙ eqb-true t.name k d) (reads_new base (candidates ns) fresh at b)
      go false d g =
          subst (λ (bs : List (List ℕ)). Reads bs k) (append_assoc base (candidate at ∷ []) (candidates ns))
          (rest (base ++ (candidate at ∷ [])) (subst (λ f. Base f (base ++ (candidate at ∷ []))) (sym r) (base_more fresh base (candidate at) b)) g)

  reads : (fresh c : ℕ) (is : List ℕ) (ps : List Renaming) (base : List (List ℕ)) → choose texts taken limit fresh c is ≡ Some ps → Base fresh base
      → (k : ℕ) (p : Renaming) → lookup new_id k ps ≡ Some p → Reads (base ++ candidates (new_texts texts taken limit fresh c is)) k
  reads fresh c [] ps base e b k p h = no_some p (ap (lookup new_id k) (some_same [] ps e) ∙ h)
  reads fresh c (i ∷ is) ps base e b k p h = go (λ t qs bs q bb g. reads t.fresh t.counter is qs bs q bb k p g) (first_free texts taken (limit - c) fresh c) refl e
    where
      next : (t : Try) → Got texts taken (limit - c) fresh c t
          → ((qs : List Renaming) (bs : List (List ℕ)) → choose texts taken limit t.fresh t.counter is ≡ Some qs → Base t.fresh bs → lookup new_id k qs ≡ Some p
          → Reads (bs ++ candidates (new_texts texts taken limit t.fresh t.counter is)) k)
          → (o : Option (List Renaming)) → choose texts taken limit t.fresh t.counter is ≡ o → after_these (pair i t.name ∷ []) o ≡ Some ps
          → Reads (base ++ candidates (new_text fresh t ++ new_texts texts taken limit t.fresh t.counter is)) k
      next t g ih None d q = no_some ps q
      next t g ih (Some qs) d q =
          reads_more fresh g.at i k t qs (new_texts texts taken limit t.fresh t.counter is) base p b (kind texts fresh g.at t g.is)
          (λ bs bb l. ih qs bs d bb l) (eqb t.name k) refl (ap (lookup new_id k) (some_same (pair i t.name ∷ qs) ps q) ∙ h)

      go : ((t : Try) (qs : List Renaming) (bs : List (List ℕ)) → choose texts taken limit t.fresh t.counter is ≡ Some qs → Base t.fresh bs → lookup new_id k qs ≡ Some p
          → Reads (bs ++ candidates (new_texts texts taken limit t.fresh t.counter is)) k)
          → (o : Option Try) → first_free texts taken (limit - c) fresh c ≡ o
          → elim o [ None ↦ None | Some t ↦ after_these (pair i t.name ∷ []) (choose texts taken limit t.fresh t.counter is) ] ≡ Some ps
          → Reads (base ++ candidates (elim o [ None ↦ [] | Some t ↦ new_text fresh t ++ new_texts texts taken limit t.fresh t.counter is ])) k
      go ih None q d = no_some ps d
      go ih (Some t) q d = next t (got texts taken (limit - c) fresh c t q) (ih t) (choose texts taken limit t.fresh t.counter is) refl d

  pub reads_back : (is : List ℕ) (ps : List Renaming) → choose texts taken limit 0 0 is ≡ Some ps → ReadsBack (texts ++ candidates (new_texts texts taken limit 0 0 is)) ps
  unfolding Reads
  reads_back is ps e k p h = reads 0 0 is ps texts e record { long = omega arith; old = λ m l. refl } k p h

-- naming a text that the book lacks, and has room for, puts it last
length-candidate : (c : ℕ) → c < 2 ^ 64 → length (candidate c) ≤ 64
unfolding candidate
length-candidate c h =
    let l = length-decimal-le 20 c (omega arith) (omega arith) h in
    omega (arith, length-append (codes "policy") (decimal c))

named_last : (limits : Limits) (base : List (List ℕ)) (c : ℕ) → c < 2 ^ 64 → number_of (candidate c) base ≡ None → fits limits base (candidate c) ≡ true
    → name_after limits base (candidate c) ≡ base ++ candidate c ∷ []
named_last limits base c h n f =
    let t = candidate c in
    let a : name_answer limits base t ≡ Ok (length base) =
    cond-false (ltb 64 (length t)) (Err (TooLong (length t))) (found_or (number_of t base) (enter_answer limits base t)) (le-ltb 64 (length t) (length-candidate c h))
    ∙ (ap (λ (o : Option ℕ). found_or o (enter_answer limits base t)) n ∙ cond-true (fits limits base t) (Ok (length base)) (Err BookFull) f) in
    ap (with_new base t) a ∙ cond-false (ltb (length base) (length base)) base (base ++ t ∷ []) (le-ltb (length base) (length base) (omega arith))

bytes_push : (base : List (List ℕ)) (t : List ℕ) → bytes_in (base ++ t ∷ []) ≡ bytes_in base + length t
bytes_push [] t = omega arith
bytes_push (x ∷ base) t = omega (arith, bytes_push base t)

module _ (limits : Limits) (texts : List (List ℕ)) (limit : ℕ) (small : limit ≤ 2 ^ 64) where
  -- so the new texts go in one after the other
  entered : (c : ℕ) (base : List (List ℕ)) (ns : List ℕ) → Rising texts limit c ns
      → ((d : ℕ) → c ≤ d → d < limit → number_of (candidate d) texts ≡ None → number_of (candidate d) base ≡ None)
      → room_for limits base (length ns) (bytes_in (candidates ns)) ≡ true
      → enter_all limits base ns ≡ base ++ candidates ns
  entered c base [] r lacks room = sym (append-nil base)
  entered c base (d ∷ ds) r lacks room =
      let n : number_of (candidate d) base ≡ None = lacks d r.0 r.1 r.2 in
      let w = and_parts (leb (length base + length (d ∷ ds)) limits.places) (leb (bytes_in base + bytes_in (candidates (d ∷ ds))) limits.room) room in
      let p = leb-true (length base + length (d ∷ ds)) limits.places w.0 in
      let q = leb-true (bytes_in base + bytes_in (candidates (d ∷ ds))) limits.room w.1 in
      let f : fits limits base (candidate d) ≡ true =
      and_from (leb (length base + 1) limits.places) (leb (bytes_in base + length (candidate d)) limits.room)
      (le-leb (length base + 1) limits.places (omega arith)) (le-leb (bytes_in base + length (candidate d)) limits.room (omega arith)) in
      let a = named_last limits base d (omega (arith, r.1)) n f in
      ap (λ (b : List (List ℕ)). enter_all limits b ds) a
      ∙ (entered (d + 1) (base ++ candidate d ∷ []) ds r.3
      (λ e low high m. number_append (candidate e) base (candidate d) (lacks e (omega (arith, low, r.0)) high m)
      (λ z. let u : d ≡ e = same_candidate d e (omega (arith, r.1)) (omega arith) z in omega (arith, low)))
      (and_from (leb (length (base ++ candidate d ∷ []) + length ds) limits.places) (leb (bytes_in (base ++ candidate d ∷ []) + bytes_in (candidates ds)) limits.room)
      (le-leb (length (base ++ candidate d ∷ []) + length ds) limits.places (omega (arith, length_push base (candidate d))))
      (le-leb (bytes_in (base ++ candidate d ∷ []) + bytes_in (candidates ds)) limits.room (omega (arith, bytes_push base (candidate d)))))
      ∙ append_assoc base (candidate d ∷ []) (candidates ds))

-- the book after the new texts were named in turn
pub enter_new : (limits : Limits) (texts : List (List ℕ)) (taken : ℕ → Bool) (limit : ℕ) → limit ≤ 2 ^ 64 → (is : List ℕ)
    → room_for limits texts (length (new_texts texts taken limit 0 0 is)) (bytes_in (candidates (new_texts texts taken limit 0 0 is))) ≡ true
    → enter_all limits texts (new_texts texts taken limit 0 0 is) ≡ texts ++ candidates (new_texts texts taken limit 0 0 is)
enter_new limits texts taken limit small is room =
    entered limits texts limit small 0 texts (new_texts texts taken limit 0 0 is) (texts_rising texts taken limit 0 0 is) (λ d low high n. n) room

-- the bytes of counters' texts, one by one
pub bytes_summed : (news : List ℕ) → sum_by (λ c. length (candidate c)) news ≡ bytes_in (candidates news)
bytes_summed [] = refl
bytes_summed (c ∷ news) = sum_by-cons (λ c. length (candidate c)) c news ∙ ap (λ n. length (candidate c) + n) (bytes_summed news)
