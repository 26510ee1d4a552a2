-- The index of a name book: what it is like at first, when a text enters, and when one is looked for.
use Rattle.std.proofs.Common.{◌≡◌, ℕ, suc, ◌+◌, ◌<◌, ◌≤◌, true, List, [], ◌∷◌, ◌++◌, length, get_or, set, replicate, None, Some, Option, sym, refl, ap, ◌∙◌, subst, inl, inr, arith}
use Rattle.std.proofs.lemmas.List.{get_or-replicate, get_or-set_same, get_or-set_other, get_or_append_left, length-append}
use Rattle.std.proofs.Math.Seq.{get_or-append_seam}
use Rattle.std.proofs.lemmas.Bool.{cases_lt}
use Rattle.names.specs.Names.{number_of, distinct}
use Rattle.names.specs.Index.{hash, hash_at, past, IsLatest, Indexes}
use Rattle.names.proofs.Names.{number_reads, none_absent, distinct_one_to_one}

-- An empty book has no numbers.
pub nothing_indexed : (last before : List (Option ℕ)) → last ≡ replicate 1024 None → Indexes [] last before
nothing_indexed last before e = record {
  last_of = λ h l. subst (λ o. IsLatest [] 0 h o) (sym (ap (λ (os : List (Option ℕ)). get_or os h None) e ∙ get_or-replicate 1024 h None None l)) none;
  before_of = λ n l. absurd (omega arith);
} where
  none : {h : ℕ} → IsLatest [] 0 h None
  none = (omega arith, λ n e. (let z : ◌≡◌ {A = ℕ} 0 1 = cc in absurd (omega arith)), λ k l e. absurd (omega arith))

-- What is known of a number on the way of a search: no number from one more than it on has the text.
abbrev pub Chain : List ℕ → List (List ℕ) → Option ℕ → Type 0
Chain text texts next =
    (past next ≤ length texts)
    × ((n : ℕ) → next ≡ Some n → hash_at texts n ≡ hash text)
    × ((k : ℕ) → past next ≤ k → k < length texts → get_or texts k [] ≡ text → ⊥)

-- A search begins with the last number of the hash.
pub first_link : (text : List ℕ) (texts : List (List ℕ)) (last before : List (Option ℕ)) → Indexes texts last before → hash text < 1024
    → Chain text texts (get_or last (hash text) None)
first_link text texts last before x l =
    let i = x.last_of (hash text) l in
    (i.0, i.1, λ k p q e. let z = i.2 k q (ap hash e) in omega (arith, z, p))

-- It goes on with the number before one that has another text.
pub next_link : (text : List ℕ) (texts : List (List ℕ)) (last before : List (Option ℕ)) (next : Option ℕ) (n : ℕ) → Indexes texts last before
    → Chain text texts next → next ≡ Some n → (get_or texts n [] ≡ text → ⊥) → Chain text texts (get_or before n None)
next_link text texts last before next n x c e other =
    let p : past next ≡ suc n = ap past e in
    let i = x.before_of n (omega (arith, p, c.0)) in (
      omega (arith, p, c.0, i.0),
      λ m q. i.1 m q ∙ c.1 n e,
      λ k q l h. elim (cases_lt k n) [
        | inl b ↦ let z = i.2 k b (ap hash h ∙ sym (c.1 n e)) in omega (arith, z, q)
        | inr b ↦ elim (cases_lt n k) [
          | inl d ↦ c.2 k (omega (arith, p, d)) l h
          | inr d ↦ other (subst (λ m. get_or texts m [] ≡ text) (let s : k ≡ n = omega arith in s) h)
        ]
      ],
    )

-- The number before is smaller.
pub next_less : (text : List ℕ) (texts : List (List ℕ)) (last before : List (Option ℕ)) (next : Option ℕ) (n : ℕ) → Indexes texts last before
    → Chain text texts next → next ≡ Some n → past (get_or before n None) < past next
next_less text texts last before next n x c e =
    let p : past next ≡ suc n = ap past e in
    let i = x.before_of n (omega (arith, p, c.0)) in
    omega (arith, p, i.0)

-- Of texts without repeats, a number whose text it is is the text's number.
pub number_distinct : (text : List ℕ) (texts : List (List ℕ)) (n : ℕ) → distinct texts ≡ true → n < length texts → get_or texts n [] ≡ text
    → number_of text texts ≡ Some n
number_distinct text texts n d l e = by (number_of text texts) refl where
  by : (o : Option ℕ) → number_of text texts ≡ o → o ≡ Some n
  by None q = absurd (none_absent text texts q n l e)
  by (Some m) q =
      let r = number_reads text texts m q in
      ap (λ (k : ℕ). Some k) (distinct_one_to_one texts d m n r.0 l (r.1 ∙ sym e))

-- A text enters: its number is the last of its hash, and the one that was the last stands before it.
module _ (texts : List (List ℕ)) (last before : List (Option ℕ)) (new : List ℕ) where
  abbrev after : List (List ℕ)
  after = texts ++ (new ∷ [])

  old_text : (k : ℕ) → k < length texts → get_or after k [] ≡ get_or texts k []
  old_text k l = get_or_append_left texts (new ∷ []) [] k l

  new_text : get_or after (length texts) [] ≡ new
  new_text = get_or-append_seam texts new [] []

  -- what is below a bound is as it was
  still : (bound h : ℕ) (o : Option ℕ) → bound ≤ length texts → IsLatest texts bound h o → IsLatest after bound h o
  still bound h o b i = (
    i.0,
    λ m q. ap hash (old_text m (let p : past o ≡ suc m = ap past q in omega (arith, p, i.0))) ∙ i.1 m q,
    λ k l e. i.2 k l (sym (ap hash (old_text k (omega arith))) ∙ e),
  )

  -- of another hash the last number stays the last
  other_hash : (h : ℕ) (o : Option ℕ) → (h ≡ hash new → ⊥) → IsLatest texts (length texts) h o → IsLatest after (length after) h o
  other_hash h o ne i =
      let s = still (length texts) h o (omega arith) i in
      let n : length after ≡ length texts + 1 = length-append texts (new ∷ []) in (
        omega (arith, n, i.0),
        s.1,
        λ k l e. elim (cases_lt k (length texts)) [
          | inl b ↦ s.2 k b e
          | inr b ↦ absurd (ne (sym e ∙ ap hash (ap (λ m. get_or after m []) (let z : k ≡ length texts = omega (arith, n) in z) ∙ new_text)))
        ],
      )

  -- of its own it is the last
  own_hash : IsLatest after (length after) (hash new) (Some (length texts))
  own_hash =
      let n : length after ≡ length texts + 1 = length-append texts (new ∷ []) in
      (omega (arith, n), λ m q. (let s : length texts ≡ m = cc in ap hash (ap (λ k. get_or after k []) (sym s) ∙ new_text)), λ k l e. omega (arith, n))

  pub entered : Indexes texts last before → length last ≡ 1024 → length before ≡ length texts → hash new < 1024
      → Indexes after (set last (hash new) (Some (length texts))) (before ++ (get_or last (hash new) None ∷ []))
  entered x ll lb small = record { last_of = last_of; before_of = before_of } where
    put : List (Option ℕ)
    put = set last (hash new) (Some (length texts))

    more : List (Option ℕ)
    more = before ++ (get_or last (hash new) None ∷ [])

    unequal : (h : ℕ) → (h ≡ hash new → ⊥) → h < 1024 → IsLatest after (length after) h (get_or put h None)
    unequal h ne l =
        subst (λ o. IsLatest after (length after) h o) (sym (get_or-set_other last (hash new) h (Some (length texts)) None ne))
        (other_hash h (get_or last h None) ne (x.last_of h l))

    last_of : (h : ℕ) → h < 1024 → IsLatest after (length after) h (get_or put h None)
    last_of h l = elim (cases_lt h (hash new)) [
      | inl b ↦ unequal h (λ e. omega (arith, e)) l
      | inr b ↦ elim (cases_lt (hash new) h) [
        | inl d ↦ unequal h (λ e. omega (arith, e)) l
        | inr d ↦ subst (λ k. IsLatest after (length after) k (get_or put k None)) (let s : hash new ≡ h = omega arith in s)
            (subst (λ o. IsLatest after (length after) (hash new) o) (sym (get_or-set_same last (hash new) (Some (length texts)) None (omega (arith, ll)))) own_hash)
      ]
    ]

    newest : IsLatest after (length texts) (hash_at after (length texts)) (get_or more (length texts) None)
    newest =
        subst (λ o. IsLatest after (length texts) (hash_at after (length texts)) o)
        (sym (ap (λ k. get_or more k None) (sym lb) ∙ get_or-append_seam before (get_or last (hash new) None) [] None))
        (subst (λ h. IsLatest after (length texts) h (get_or last (hash new) None)) (sym (ap hash new_text))
        (still (length texts) (hash new) (get_or last (hash new) None) (omega arith) (x.last_of (hash new) small)))

    older : (n : ℕ) → n < length texts → IsLatest after n (hash_at after n) (get_or more n None)
    older n b =
        subst (λ o. IsLatest after n (hash_at after n) o) (sym (get_or_append_left before (get_or last (hash new) None ∷ []) None n (omega (arith, lb))))
        (subst (λ h. IsLatest after n h (get_or before n None)) (sym (ap hash (old_text n b)))
        (still n (hash_at texts n) (get_or before n None) (omega arith) (x.before_of n b)))

    before_of : (n : ℕ) → n < length after → IsLatest after n (hash_at after n) (get_or more n None)
    before_of n l = elim (cases_lt n (length texts)) [
      | inl b ↦ older n b
      | inr b ↦ subst (λ k. IsLatest after k (hash_at after k) (get_or more k None))
          (let s : length texts ≡ n = omega (arith, length-append texts (new ∷ [])) in s) newest
    ]
