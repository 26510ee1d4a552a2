-- How many rows there are after a merge.
use Rattle.std.proofs.Common.{◌≡◌, ℕ, ◌+◌, ◌≤◌, Bool, true, false, cond, not, ◌&&◌, ◌||◌, List, [], ◌∷◌, ◌++◌, length, filter, map, is_some, Some, None, Option, sym, refl, ap, ◌∙◌, arith}
use Rattle.std.proofs.lemmas.List.{length_push}
use Rattle.std.proofs.lemmas.Bool.{false≢true, eq-eqb, ne_eqb, or_left, or_right, cond_both}
use Rattle.policy_set.specs.declared.rows.Renaming.{Renaming}
use Rattle.policy_set.specs.Tables.{one_if, lookup, erase, put_last, put_all, Once}
use Rattle.policy_set.specs.Rows.{template_id, policy_id, member_id}
use Rattle.policy_set.specs.Maps.{Maps, changed, row_at}
use Rattle.policy_set.specs.Sound.{Sound, member}
use Rattle.policy_set.specs.Merge.{among, noted, gather, gathered, final, origin, renamed_template, renamed_row, merged, is_more, rows_more}
use Rattle.policy_set.specs.MergeLaw.{clash, Chosen, FinalIds, RowsCounted}
use Rattle.policy_set.proofs.Lookups.{some_same, lookup-put, once_put, once_tail, once_head}
use Rattle.policy_set.proofs.Places.{erased_length}
use Rattle.policy_set.proofs.PutAll.{head_there, rest_there}
use Rattle.policy_set.proofs.Gathered.{gathers}
use Rattle.policy_set.proofs.FinalIds.{moves, final_ids, unbound}
use Rattle.policy_set.proofs.NameSearch.{length_less, among-rest, keys, length_keys, among_keys}

pub put-length : {X : Type 0} (key : X → ℕ) (x : X) (xs : List X) → length (put_last key x xs) ≡ length xs + one_if (not (is_some (lookup key (key x) xs)))
put-length key x xs = length_push (erase key (key x) xs) x ∙ go (is_some (lookup key (key x) xs)) (erased_length key (key x) xs)
  where
    go : (c : Bool) → length (erase key (key x) xs) + one_if c ≡ length xs → length (erase key (key x) xs) + 1 ≡ length xs + one_if (not c)
    go true h = omega (arith, h)
    go false h = omega (arith, h)

-- rows whose new key is not there
abbrev new_rows : {X : Type 0} → (X → ℕ) → (ℕ → ℕ) → List X → List X → ℕ
new_rows key f live [] = 0
new_rows key f live (x ∷ xs) = one_if (not (is_some (lookup key (f (key x)) live))) + new_rows key f live xs

-- a row that was put leaves the others new or not
new_put : {X : Type 0} (key : X → ℕ) (f : ℕ → ℕ) (y : X) (live xs : List X) → Once key live → ((i : ℕ) → is_some (lookup key i xs) ≡ true → key y ≡ f i → ⊥)
    → new_rows key f (put_last key y live) xs ≡ new_rows key f live xs
new_put key f y live [] h n = refl
new_put {X} key f y live (x ∷ xs) h n =
    let a : lookup key (f (key x)) (put_last key y live) ≡ lookup key (f (key x)) live =
    lookup-put key (f (key x)) live y h
    ∙ ap (λ c. cond c (Some y) (lookup key (f (key x)) live)) (ne_eqb (key y) (f (key x)) (n (key x) (head_there key x xs))) in
    ap (λ (o : Option X). one_if (not (is_some o)) + new_rows key f (put_last key y live) xs) a
    ∙ ap (λ m. one_if (not (is_some (lookup key (f (key x)) live))) + m) (new_put key f y live xs h (λ i e. n i (rest_there key i x xs e)))

all_length : {X : Type 0} (key : X → ℕ) (change : X → X) (f : ℕ → ℕ) (back : ℕ → Option ℕ) (live xs : List X)
    → ((x : X) → key (change x) ≡ f (key x))
    → ((i : ℕ) → is_some (lookup key i xs) ≡ true → back (f i) ≡ Some i)
    → Once key live → Once key xs
    → length (put_all key change live xs) ≡ length live + new_rows key f live xs
all_length key change f back live [] keeps return h g = omega arith
all_length {X} key change f back live (x ∷ xs) keeps return h g =
    all_length key change f back (put_last key (change x) live) xs keeps (λ i e. return i (rest_there key i x xs e)) (once_put key live (change x) h) (once_tail key x xs g)
    ∙ last (put-length key (change x) live) (new_put key f (change x) live xs h other)
  where
    other : (i : ℕ) → is_some (lookup key i xs) ≡ true → key (change x) ≡ f i → ⊥
    other i e p =
        let u : key x ≡ i =
        some_same (key x) i (sym (return (key x) (head_there key x xs)) ∙ (ap back (sym (keeps x) ∙ p) ∙ return i (rest_there key i x xs e))) in
        let z : lookup key i xs ≡ None = once_head key x xs i g (eq-eqb (key x) i u) in
        false≢true (sym (ap is_some z) ∙ e)

    last : length (put_last key (change x) live) ≡ length live + one_if (not (is_some (lookup key (key (change x)) live)))
        → new_rows key f (put_last key (change x) live) xs ≡ new_rows key f live xs
        → length (put_last key (change x) live) + new_rows key f (put_last key (change x) live) xs ≡ length live + (one_if (not (is_some (lookup key (f (key x)) live))) + new_rows key f live xs)
    last p q =
        let r : one_if (not (is_some (lookup key (key (change x)) live))) ≡ one_if (not (is_some (lookup key (f (key x)) live))) =
        ap (λ k. one_if (not (is_some (lookup key k live)))) (keeps x) in
        omega (arith, p, q, r)

-- the same count without the new names
more_rows : {X : Type 0} (key : X → ℕ) (f : ℕ → ℕ) (ids : List ℕ) (live xs : List X)
    → ((i : ℕ) → is_some (lookup key i xs) ≡ true → not (is_some (lookup key (f i) live)) ≡ (among i ids || not (is_some (lookup key i live))))
    → new_rows key f live xs ≡ rows_more key ids live xs
more_rows key f ids live [] h = refl
more_rows key f ids live (x ∷ xs) h =
    ap (λ b. one_if b + new_rows key f live xs) (h (key x) (head_there key x xs))
    ∙ ap (λ m. one_if (among (key x) ids || not (is_some (lookup key (key x) live))) + m) (more_rows key f ids live xs (λ i e. h i (rest_there key i x xs e)))

-- a renamed row finds no live row; any other keeps its key
same_test : {X : Type 0} (key : X → ℕ) (f : ℕ → ℕ) (ids : List ℕ) (live : List X) (i : ℕ) (c : Bool) → among i ids ≡ c
    → (c ≡ true → lookup key (f i) live ≡ None) → (c ≡ false → f i ≡ i)
    → not (is_some (lookup key (f i) live)) ≡ (among i ids || not (is_some (lookup key i live)))
same_test {X} key f ids live i true a new stays = ap (λ (o : Option X). not (is_some o)) (new refl) ∙ sym (or_left (among i ids) _ a)
same_test key f ids live i false a new stays =
    ap (λ k. not (is_some (lookup key k live))) (stays refl) ∙ sym (ap (λ b. b || not (is_some (lookup key i live))) a)

pub rows_counted : (same : ℕ → ℕ → Bool) (live incoming : Maps) (pairs : List Renaming) → Sound live → Sound incoming → Chosen same live incoming pairs
    → RowsCounted same live incoming (merged (final pairs) live incoming)
rows_counted same live incoming pairs sl si ch =
    let mv = moves same live incoming pairs sl si ch in
    record {
      templates = all_length template_id (renamed_template (final pairs)) (final pairs) (origin pairs) live.templates incoming.templates (λ x. refl)
          (λ i e. mv.return i (or_left _ _ e)) sl.templates_once si.templates_once
          ∙ ap (λ n. length live.templates + n) (more_rows template_id (final pairs) (gathered same live incoming) live.templates incoming.templates
          (λ i e. same_test template_id (final pairs) (gathered same live incoming) live.templates i (clash same live incoming i) (gathers same live incoming sl si i)
          (λ t. (unbound live (final pairs i) (ids.new i t).0).0) (ids.stays i)));
      policies = all_length policy_id (renamed_row (final pairs)) (final pairs) (origin pairs) live.policies incoming.policies (λ x. refl)
          (λ i e. mv.return i (or_right _ _ e)) sl.policies_once si.policies_once
          ∙ ap (λ n. length live.policies + n) (more_rows policy_id (final pairs) (gathered same live incoming) live.policies incoming.policies
          (λ i e. same_test policy_id (final pairs) (gathered same live incoming) live.policies i (clash same live incoming i) (gathers same live incoming sl si i)
          (λ t. (unbound live (final pairs i) (ids.new i t).0).1) (ids.stays i)));
    }
  where
    ids : FinalIds same live incoming (final pairs)
    ids = final_ids same live incoming pairs sl si ch

-- rows of distinct keys that are all among these are no more than these
pigeon : {X : Type 0} (key : X → ℕ) (xs : List X) (ys : List ℕ) → Once key xs → ((k : ℕ) → is_some (lookup key k xs) ≡ true → among k ys ≡ true) → length xs ≤ length ys
pigeon key [] ys h w = omega arith
pigeon key (x ∷ xs) ys h w =
    let l = length_less (key x) ys (w (key x) (head_there key x xs)) in
    let ih = pigeon key xs (erase (λ k. k) (key x) ys) (once_tail key x xs h)
    (λ k e. among-rest (key x) k ys
    (λ z. false≢true (sym (ap is_some (once_head key x xs k h (eq-eqb (key x) k (sym z)))) ∙ e)) (w k (rest_there key k x xs e))) in
    omega (arith, l, ih)

-- there are no more members than policies
pub few_members : (m : Maps) → Sound m → length m.members ≤ length m.policies
few_members m so =
    let p = pigeon member_id m.members (keys policy_id m.policies) so.members_once
    (λ k e. among_keys policy_id k m.policies (there (row_at m k) (ap is_some (sym (so.members k)) ∙ e))) in
    omega (arith, p, length_keys policy_id m.policies)
  where
    there : (o : Option _) → is_some (changed member o) ≡ true → is_some o ≡ true
    there None e = e
    there (Some r) e = refl

-- a pass adds at most one id for each row
pub noted-length : (w : Bool) (k : ℕ) (ids : List ℕ) → (length ids ≤ length (noted w k ids)) × (length (noted w k ids) ≤ length ids + 1)
noted-length w k ids =
    cond_both (w && not (among k ids)) (ids ++ k ∷ []) ids (λ (zs : List ℕ). (length ids ≤ length zs) × (length zs ≤ length ids + 1))
    (λ t. let l = length_push ids k in (omega arith, omega arith)) (λ t. (omega arith, omega arith))

pub gather-length : {X : Type 0} (key : X → ℕ) (test : X → Bool) (ids : List ℕ) (xs : List X)
    → (length ids ≤ length (gather key test ids xs)) × (length (gather key test ids xs) ≤ length ids + length xs)
gather-length key test ids [] = (omega arith, omega arith)
gather-length key test ids (x ∷ xs) =
    let n = noted-length (test x) (key x) ids in
    let g = gather-length key test (noted (test x) (key x) ids) xs in
    (omega (arith, n.0, g.0), omega (arith, n.1, g.1))

-- counting the rows that pass the test counts the rows more
pub more_passed : {X : Type 0} (key : X → ℕ) (ids : List ℕ) (live xs : List X) → length (filter (is_more key ids live) (map key xs)) ≡ rows_more key ids live xs
more_passed key ids live [] = refl
more_passed key ids live (x ∷ xs) = by (is_more key ids live (key x)) (more_passed key ids live xs) where
  by : (b : Bool) → length (filter (is_more key ids live) (map key xs)) ≡ rows_more key ids live xs
      → length (cond b (key x ∷ filter (is_more key ids live) (map key xs)) (filter (is_more key ids live) (map key xs))) ≡ one_if b + rows_more key ids live xs
  by true h = omega (arith, h)
  by false h = omega (arith, h)
