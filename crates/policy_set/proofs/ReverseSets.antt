-- Putting members into the one list of them acts on each reverse set as putting into that set.
use Rattle.std.proofs.Common.{◌≡◌, ℕ, Bool, true, false, cond, eqb, List, [], ◌∷◌, ◌++◌, Some, filter, Option, sym, refl, ap, ◌∙◌, inl, inr}
use Rattle.std.proofs.lemmas.Bool.{eqb-true, eqb-false, eq-eqb, ne_eqb}
use Rattle.std.proofs.lemmas.List.{append-nil}
use Rattle.std.proofs.lemmas.List.Elements.{filter-append}
use Rattle.policy.specs.declared.template.Template.{Template}
use Rattle.policy_set.specs.declared.rows.PolicyRow.{PolicyRow}
use Rattle.policy_set.specs.declared.rows.Member.{Member}
use Rattle.policy_set.specs.Tables.{lookup, erase, put_last, put_all, Once}
use Rattle.policy_set.specs.Rows.{template_id, member_id}
use Rattle.policy_set.specs.Maps.{Maps, template_at, row_at, member_at, present, whole}
use Rattle.policy_set.specs.Sound.{Sound, member}
use Rattle.policy_set.specs.Answers.{is_under, reverse_set}
use Rattle.policy_set.specs.Merge.{renamed_member, merged}
use Rattle.policy_set.specs.MergeLaw.{ReverseAfter}
use Rattle.policy_set.proofs.Lookups.{no_some, some_same, lookup_key, lookup-put, once_put, once_tail, once_head}
use Rattle.policy_set.proofs.Sounds.{no_true, template_of}
use Rattle.policy_set.proofs.Equals.{SamePolicy}
use Rattle.policy_set.proofs.FinalIds.{Moves}
use Rattle.policy_set.proofs.NamedAfter.{Alike, alike, changed_some, row_bound, template_bound, equal_renamed}
use Rattle.policy_set.proofs.NamedAfter.Alike.{two_templates, two_links, two_statics}

kept_none : (ms : List Member) → filter (λ m. false) ms ≡ []
kept_none [] = refl
kept_none (m ∷ ms) = kept_none ms

-- a member that the test keeps is erased in the list and in what is kept
erase-kept : (w : Member → Bool) (p : ℕ) (ms : List Member) → ((y : Member) → lookup member_id p ms ≡ Some y → w y ≡ true)
    → filter w (erase member_id p ms) ≡ erase member_id p (filter w ms)
erase-kept w p [] h = refl
erase-kept w p (x ∷ ms) h = go (erase-kept w p ms) (eqb x.policy p) (w x) refl refl h
  where
    go : (((y : Member) → lookup member_id p ms ≡ Some y → w y ≡ true) → filter w (erase member_id p ms) ≡ erase member_id p (filter w ms))
        → (c d : Bool) → eqb x.policy p ≡ c → w x ≡ d
        → ((y : Member) → cond c (Some x) (lookup member_id p ms) ≡ Some y → w y ≡ true)
        → filter w (cond c ms (x ∷ erase member_id p ms)) ≡ erase member_id p (cond d (x ∷ filter w ms) (filter w ms))
    go ih true true e f g = rw e
    go ih true false e f g = no_true (sym f ∙ g x refl)
    go ih false true e f g = rw (e, f) (ap (λ (l : List Member). x ∷ l) (ih g))
    go ih false false e f g = rw f (ih g)

-- any other is erased in the list alone
erase_other : (w : Member → Bool) (p : ℕ) (ms : List Member) → ((y : Member) → lookup member_id p ms ≡ Some y → w y ≡ false)
    → filter w (erase member_id p ms) ≡ filter w ms
erase_other w p [] h = refl
erase_other w p (x ∷ ms) h = go (erase_other w p ms) (eqb x.policy p) (w x) refl h
  where
    go : (((y : Member) → lookup member_id p ms ≡ Some y → w y ≡ false) → filter w (erase member_id p ms) ≡ filter w ms) → (c d : Bool) → w x ≡ d
        → ((y : Member) → cond c (Some x) (lookup member_id p ms) ≡ Some y → w y ≡ false)
        → filter w (cond c ms (x ∷ erase member_id p ms)) ≡ cond d (x ∷ filter w ms) (filter w ms)
    go ih true true f g = no_true (sym (g x refl) ∙ f)
    go ih true false f g = refl
    go ih false true f g = rw f (ap (λ (l : List Member). x ∷ l) (ih g))
    go ih false false f g = rw f (ih g)

tail_in : (x : Member) (xs : List Member) (i : ℕ) (y : Member) → Once member_id (x ∷ xs) → lookup member_id i xs ≡ Some y → lookup member_id i (x ∷ xs) ≡ Some y
tail_in x xs i y h e = go (eqb x.policy i) refl
  where
    go : (c : Bool) → eqb x.policy i ≡ c → cond c (Some x) (lookup member_id i xs) ≡ Some y
    go true d = no_some y (sym (once_head member_id x xs i h d) ∙ e)
    go false d = e

head_in : (x : Member) (xs : List Member) → lookup member_id x.policy (x ∷ xs) ≡ Some x
head_in x xs = rw (eq-eqb x.policy x.policy refl)

-- one reverse set after all members were put in: w says which incoming members come into it
put_under : (f : ℕ → ℕ) (back : ℕ → Option ℕ) (k : ℕ) (w : Member → Bool) (live xs : List Member)
    → ((i : ℕ) (x : Member) → lookup member_id i xs ≡ Some x → eqb (f x.template) k ≡ w x)
    → ((i : ℕ) (x y : Member) → lookup member_id i xs ≡ Some x → lookup member_id (f i) live ≡ Some y → y.template ≡ f x.template)
    → ((i : ℕ) (x : Member) → lookup member_id i xs ≡ Some x → back (f i) ≡ Some i)
    → Once member_id live → Once member_id xs
    → filter (is_under k) (put_all member_id (renamed_member f) live xs) ≡ put_all member_id (renamed_member f) (filter (is_under k) live) (filter w xs)
put_under f back k w live [] c1 c2 c3 h g = refl
put_under f back k w live (x ∷ xs) c1 c2 c3 h g =
    put_under f back k w (put_last member_id (renamed_member f x) live) xs
    (λ i y e. c1 i y (tail_in x xs i y g e))
    (λ i y z e d. kept i y z e (eqb (f x.policy) (f i)) refl (sym (lookup-put member_id (f i) live (renamed_member f x) h) ∙ d))
    (λ i y e. c3 i y (tail_in x xs i y g e))
    (once_put member_id live (renamed_member f x) h) (once_tail member_id x xs g)
    ∙ step (w x) refl
  where
    kept : (i : ℕ) (y z : Member) → lookup member_id i xs ≡ Some y → (c : Bool) → eqb (f x.policy) (f i) ≡ c
        → cond c (Some (renamed_member f x)) (lookup member_id (f i) live) ≡ Some z → z.template ≡ f y.template
    kept i y z e true p q =
        let u : x.policy ≡ i =
        some_same x.policy i (sym (c3 x.policy x (head_in x xs)) ∙ (ap back (eqb-true (f x.policy) (f i) p) ∙ c3 i y (tail_in x xs i y g e))) in
        no_some y (sym (once_head member_id x xs i g (eq-eqb x.policy i u)) ∙ e)
    kept i y z e false p q = c2 i y z (tail_in x xs i y g e) q

    mine : eqb (f x.template) k ≡ w x
    mine = c1 x.policy x (head_in x xs)

    there : (y : Member) → lookup member_id (f x.policy) live ≡ Some y → is_under k y ≡ w x
    there y e = ap (λ t. eqb t k) (c2 x.policy x y (head_in x xs) e) ∙ mine

    put_one : (c : Bool) → eqb (f x.template) k ≡ c
        → filter (is_under k) (put_last member_id (renamed_member f x) live)
        ≡ filter (is_under k) (erase member_id (f x.policy) live) ++ cond c (renamed_member f x ∷ []) []
    put_one c t =
        filter-append (is_under k) (erase member_id (f x.policy) live) (renamed_member f x ∷ [])
        ∙ ap (λ d. filter (is_under k) (erase member_id (f x.policy) live) ++ cond d (renamed_member f x ∷ []) []) t

    step : (c : Bool) → w x ≡ c
        → put_all member_id (renamed_member f) (filter (is_under k) (put_last member_id (renamed_member f x) live)) (filter w xs)
        ≡ put_all member_id (renamed_member f) (filter (is_under k) live) (cond c (x ∷ filter w xs) (filter w xs))
    step true e =
        let a : filter (is_under k) (put_last member_id (renamed_member f x) live) ≡ put_last member_id (renamed_member f x) (filter (is_under k) live) =
        put_one true (mine ∙ e)
        ∙ ap (λ (l : List Member). l ++ renamed_member f x ∷ []) (erase-kept (is_under k) (f x.policy) live (λ y d. there y d ∙ e)) in
        ap (λ (l : List Member). put_all member_id (renamed_member f) l (filter w xs)) a
    step false e =
        let a : filter (is_under k) (put_last member_id (renamed_member f x) live) ≡ filter (is_under k) live =
        put_one false (mine ∙ e)
        ∙ (append-nil (filter (is_under k) (erase member_id (f x.policy) live))
        ∙ erase_other (is_under k) (f x.policy) live (λ y d. there y d ∙ e)) in
        ap (λ (l : List Member). put_all member_id (renamed_member f) l (filter w xs)) a

member_row : (m : Maps) → Sound m → (i : ℕ) (x : Member) → member_at m i ≡ Some x → (r : PolicyRow) × (row_at m i ≡ Some r) × (member r ≡ x)
member_row m so i x e = changed_some member (row_at m i) x (sym (so.members i) ∙ e)

module _ (same : ℕ → ℕ → Bool) (live incoming : Maps) (f : ℕ → ℕ) (back : ℕ → Option ℕ) (sl : Sound live) (si : Sound incoming) (mv : Moves same live incoming f back) where
  -- an equal policy is under the final id of its template
  same_under : (i : ℕ) → f i ≡ i → (q r : PolicyRow) → row_at incoming i ≡ Some q → row_at live i ≡ Some r → SamePolicy same (whole live r) (whole incoming q) → Alike same live incoming i
      → r.template ≡ f q.template
  same_under i fi q r v p c al =
      let t = template_of incoming si i q v in
      let s = template_of live sl i r p in
      let w : (present (template_at live r.template)).id ≡ f (present (template_at incoming q.template)).id =
      (equal_renamed same live incoming f back sl si mv i fi r q v c al).template.id in
      let z : s.0.id ≡ f t.0.id = rw (t.1, s.1) at w in
      sym (lookup_key template_id r.template live.templates s.0 s.1) ∙ (z ∙ ap f (lookup_key template_id q.template incoming.templates t.0 t.1))

  -- where the live set has a member of the final id already, it has it under the same template
  agrees : (i : ℕ) (x y : Member) → member_at incoming i ≡ Some x → member_at live (f i) ≡ Some y → y.template ≡ f x.template
  agrees i x y e d =
      let q = member_row incoming si i x e in
      let r = member_row live sl (f i) y d in
      elim (mv.apart i (row_bound incoming i q.0 q.1)) [
        | inl u ↦ no_true (sym u.0 ∙ row_bound live (f i) r.0 r.1)
        | inr u ↦
            ap (λ (m : Member). m.template) (sym r.2)
            ∙ (both u.0 q.0 r.0 q.1 (ap (row_at live) (sym u.0) ∙ r.1) (alike same live incoming sl si i u.1)
            ∙ ap (λ (m : Member). f m.template) q.2)
      ]
    where
      put : f i ≡ i → (q r q' r' : PolicyRow) → row_at incoming i ≡ Some q → row_at live i ≡ Some r → row_at incoming i ≡ Some q' → row_at live i ≡ Some r'
          → SamePolicy same (whole live r') (whole incoming q') → Alike same live incoming i → r.template ≡ f q.template
      put fi q r q' r' v p w c h al =
          ap (λ (n : PolicyRow). n.template) (some_same r r' (sym p ∙ c))
          ∙ (same_under i fi q' r' w c h al ∙ ap (λ (n : PolicyRow). f n.template) (some_same q' q (sym w ∙ v)))

      both : f i ≡ i → (q r : PolicyRow) → row_at incoming i ≡ Some q → row_at live i ≡ Some r → Alike same live incoming i → r.template ≡ f q.template
      both fi q r v p (two_templates s t a c u w h) = no_some q (sym w ∙ v)
      both fi q r v p (two_links r' q' a c u w h) = put fi q r q' r' v p w c h (two_links r' q' a c u w h)
      both fi q r v p (two_statics s t r' q' a c u w g h) = put fi q r q' r' v p w c h (two_statics s t r' q' a c u w g h)

  member_template : (i : ℕ) (x : Member) → member_at incoming i ≡ Some x → (t : Template) × (template_at incoming x.template ≡ Some t)
  member_template i x e =
      let q = member_row incoming si i x e in
      let t = template_of incoming si i q.0 q.1 in
      (t.0, ap (λ (m : Member). template_at incoming m.template) (sym q.2) ∙ t.1)

  returned : (i : ℕ) (x : Member) → member_at incoming i ≡ Some x → back (f i) ≡ Some i
  returned i x e = let q = member_row incoming si i x e in mv.return i (row_bound incoming i q.0 q.1)

  tests : (j : ℕ) (t : Template) → template_at incoming j ≡ Some t → (i : ℕ) (x : Member) → member_at incoming i ≡ Some x
      → (c : Bool) → eqb x.template j ≡ c → eqb (f x.template) (f j) ≡ c
  tests j t e i x d true p = eq-eqb (f x.template) (f j) (ap f (eqb-true x.template j p))
  tests j t e i x d false p =
      ne_eqb (f x.template) (f j) (λ z. let u = member_template i x d in
      eqb-false x.template j p
      (some_same x.template j (sym (mv.return x.template (template_bound incoming x.template u.0 u.1))
      ∙ (ap back z ∙ mv.return j (template_bound incoming j t e)))))

  pub reverse_after : ReverseAfter live incoming (merged f live incoming) f
  reverse_after = record {
    comes = λ j t e.
        put_under f back (f j) (is_under j) live.members incoming.members (λ i x d. tests j t e i x d (eqb x.template j) refl) agrees returned
        sl.members_once si.members_once;
    stays = λ k n.
        put_under f back k (λ m. false) live.members incoming.members
        (λ i x d. ne_eqb (f x.template) k (λ z. let u = member_template i x d in n x.template u.0 u.1 z)) agrees returned
        sl.members_once si.members_once
        ∙ ap (put_all member_id (renamed_member f) (reverse_set k live)) (kept_none incoming.members);
  }
