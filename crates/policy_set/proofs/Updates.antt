-- A change under one id keeps what a set keeps.
use Rattle.std.proofs.Common.{◌≡◌, ℕ, Bool, true, false, cond, not, ◌&&◌, eqb, List, Some, None, Option, sym, refl, ap, ◌∙◌, subst}
use Rattle.std.proofs.lemmas.Bool.{eqb-true, eq-eqb, and_from}
use Rattle.policy.specs.Binding.{value_slots}
use Rattle.policy.specs.declared.template.Template.{Template}
use Rattle.policy_set.specs.declared.rows.PolicyRow.{PolicyRow}
use Rattle.policy_set.specs.declared.rows.Member.{Member}
use Rattle.policy_set.specs.Maps.{Maps, template_at, row_at, member_at, changed, passes}
use Rattle.policy_set.specs.Sound.{has_slots, one_thing, valued, same_member, scoped, NamesOne, Valued, Scoped, SameMembers, member, Sound}
use Rattle.policy_set.specs.Rows.{template_id}
use Rattle.policy_set.proofs.Lookups.{lookup_key}
use Rattle.policy_set.proofs.Sounds.{has_slots_from, slotless_from, template_of}

-- `after` is `before` but for what stands under the id.
pub record Update (before after : Maps) (id : ℕ) (t : Option Template) (r : Option PolicyRow) (x : Option Member) : Type 0 where
  pub templates : (k : ℕ) → template_at after k ≡ cond (eqb id k) t (template_at before k)
  pub rows : (k : ℕ) → row_at after k ≡ cond (eqb id k) r (row_at before k)
  pub members : (k : ℕ) → member_at after k ≡ cond (eqb id k) x (member_at before k)
  -- a policy under another id keeps its template
  pub apart : (k : ℕ) (q : PolicyRow) → eqb id k ≡ false → row_at before k ≡ Some q → q.template ≡ id → t ≡ template_at before id

-- what stands under the id is sound
pub record Fits (after : Maps) (t : Option Template) (r : Option PolicyRow) (x : Option Member) : Type 0 where
  pub one : one_thing after t r ≡ true
  pub values : valued after r ≡ true
  pub scopes : scoped t ≡ true
  pub member : same_member x r ≡ true

-- what a set's type keeps
pub record Kept (m : Maps) : Type 0 where
  pub one : NamesOne m
  pub values : Valued m
  pub scopes : Scoped m
  pub members : SameMembers m

module _ (before after : Maps) (id : ℕ) (t : Option Template) (r : Option PolicyRow) (x : Option Member) (u : Update before after id t r x) where
  -- a policy under another id finds the template that it found
  pub same_template : (k : ℕ) (q : PolicyRow) → eqb id k ≡ false → row_at before k ≡ Some q → template_at after q.template ≡ template_at before q.template
  same_template k q n e = u.templates q.template ∙ go (eqb id q.template) refl
    where
      go : (b : Bool) → eqb id q.template ≡ b → cond b t (template_at before q.template) ≡ template_at before q.template
      go true h = let p = eqb-true _ _ h in u.apart k q n e (sym p) ∙ ap (template_at before) p
      go false h = refl

  pub other_template : (k : ℕ) → eqb id k ≡ false → template_at after k ≡ template_at before k
  other_template k n = u.templates k ∙ ap (λ b. cond b t (template_at before k)) n

  pub other_row : (k : ℕ) → eqb id k ≡ false → row_at after k ≡ row_at before k
  other_row k n = u.rows k ∙ ap (λ b. cond b r (row_at before k)) n

  pub other_member : (k : ℕ) → eqb id k ≡ false → member_at after k ≡ member_at before k
  other_member k n = u.members k ∙ ap (λ b. cond b x (member_at before k)) n

  pub here_template : (k : ℕ) → eqb id k ≡ true → template_at after k ≡ t
  here_template k h = u.templates k ∙ ap (λ b. cond b t (template_at before k)) h

  pub here_row : (k : ℕ) → eqb id k ≡ true → row_at after k ≡ r
  here_row k h = u.rows k ∙ ap (λ b. cond b r (row_at before k)) h

  pub here_member : (k : ℕ) → eqb id k ≡ true → member_at after k ≡ x
  here_member k h = u.members k ∙ ap (λ b. cond b x (member_at before k)) h

  names_one_kept : NamesOne before → Fits after t r x → NamesOne after
  names_one_kept one f k = go (eqb id k) refl
    where
      old : (o : Option Template) (p : Option PolicyRow) → row_at before k ≡ p → eqb id k ≡ false → one_thing before o p ≡ true → one_thing after o p ≡ true
      old None None e n h = h
      old (Some s) None e n h = h
      old None (Some q) e n h = ap (λ (o : Option Template). q.link && passes has_slots o) (same_template k q n e) ∙ h
      old (Some s) (Some q) e n h = h

      go : (b : Bool) → eqb id k ≡ b → one_thing after (template_at after k) (row_at after k) ≡ true
      go true h = rw (here_template k h, here_row k h) f.one
      go false h = rw (other_template k h, other_row k h) (old (template_at before k) (row_at before k) refl h (one k))

  valued_kept : Valued before → Fits after t r x → Valued after
  valued_kept val f k = go (eqb id k) refl
    where
      old : (p : Option PolicyRow) → row_at before k ≡ p → eqb id k ≡ false → valued before p ≡ true → valued after p ≡ true
      old None e n h = h
      old (Some q) e n h = ap (passes (λ (s : Template). eqb (value_slots q.values) s.slots.bits)) (same_template k q n e) ∙ h

      go : (b : Bool) → eqb id k ≡ b → valued after (row_at after k) ≡ true
      go true h = rw (here_row k h) f.values
      go false h = rw (other_row k h) (old (row_at before k) refl h (val k))

  scoped_kept : Scoped before → Fits after t r x → Scoped after
  scoped_kept sco f k = go (eqb id k) refl
    where
      go : (b : Bool) → eqb id k ≡ b → scoped (template_at after k) ≡ true
      go true h = rw (here_template k h) f.scopes
      go false h = rw (other_template k h) (sco k)

  same_members_kept : SameMembers before → Fits after t r x → SameMembers after
  same_members_kept mem f k = go (eqb id k) refl
    where
      go : (b : Bool) → eqb id k ≡ b → same_member (member_at after k) (row_at after k) ≡ true
      go true h = rw (here_member k h, here_row k h) f.member
      go false h = rw (other_member k h, other_row k h) (mem k)

  pub kept : Kept before → Fits after t r x → Kept after
  kept old f = record {
    one = names_one_kept old.one f;
    values = valued_kept old.values f;
    scopes = scoped_kept old.scopes f;
    members = same_members_kept old.members f;
  }

-- maps are equal where their lists are
pub maps_equal : (m : Maps) (ts : List Template) (ps : List PolicyRow) (ms : List Member) → ts ≡ m.templates → ps ≡ m.policies → ms ≡ m.members
    → record { templates = ts; policies = ps; members = ms } ≡ m
maps_equal m ts ps ms a b c =
    ap (λ (us : List Template). maps us ps ms) a
    ∙ (ap (λ (qs : List PolicyRow). maps m.templates qs ms) b
    ∙ ap (λ (xs : List Member). maps m.templates m.policies xs) c)
  where
    maps : List Template → List PolicyRow → List Member → Maps
    maps us qs xs = record { templates = us; policies = qs; members = xs }

-- the same of maps known by equations
pub kept_as : (m : Maps) (ts : List Template) (ps : List PolicyRow) (ms : List Member) → ts ≡ m.templates → ps ≡ m.policies → ms ≡ m.members
    → Kept m → Kept record { templates = ts; policies = ps; members = ms }
kept_as m ts ps ms a b c old = subst Kept (sym (maps_equal m ts ps ms a b c)) old

-- where every id finds what it found
pub kept_same : (before after : Maps) → ((k : ℕ) → template_at after k ≡ template_at before k) → ((k : ℕ) → row_at after k ≡ row_at before k)
    → ((k : ℕ) → member_at after k ≡ member_at before k) → Kept before → Kept after
kept_same before after ts ps ms old = record {
  one = λ k. rw (ts k, ps k) (things (template_at before k) (row_at before k) (old.one k));
  values = λ k. rw (ps k) (given (row_at before k) (old.values k));
  scopes = λ k. rw (ts k) (old.scopes k);
  members = λ k. rw (ms k, ps k) (old.members k);
}
  where
    things : (o : Option Template) (p : Option PolicyRow) → one_thing before o p ≡ true → one_thing after o p ≡ true
    things None None h = h
    things (Some s) None h = h
    things None (Some q) h = ap (λ (o : Option Template). q.link && passes has_slots o) (ts q.template) ∙ h
    things (Some s) (Some q) h = h

    given : (p : Option PolicyRow) → valued before p ≡ true → valued after p ≡ true
    given None h = h
    given (Some q) h = ap (passes (λ (s : Template). eqb (value_slots q.values) s.slots.bits)) (ts q.template) ∙ h

-- what is kept, from what each id names
pub kept_of : (m : Maps) → Sound m → Kept m
kept_of m s = record {
  one = λ k. things k (template_at m k) (row_at m k) refl refl;
  values = λ k. given k (row_at m k) refl;
  scopes = λ k. scopes k (template_at m k) refl;
  members = λ k. under (member_at m k) (row_at m k) (s.members k);
}
  where
    things : (k : ℕ) (o : Option Template) (p : Option PolicyRow) → template_at m k ≡ o → row_at m k ≡ p → one_thing m o p ≡ true
    things k None None e f = refl
    things k (Some t) None e f = has_slots_from t (s.alone k t e f)
    things k None (Some r) e f =
        let l = s.link k r e f in
        and_from r.link (passes has_slots (template_at m r.template)) l.0 (ap (passes has_slots) l.1.1 ∙ has_slots_from l.1.0 l.1.2)
    things k (Some t) (Some r) e f =
        let h = s.static k t r e f in
        and_from (not r.link) (eqb r.template t.id && not (has_slots t)) (ap not h.1)
        (and_from (eqb r.template t.id) (not (has_slots t)) (eq-eqb r.template t.id (h.0 ∙ sym (lookup_key template_id k m.templates t e))) (slotless_from t h.2))

    given : (k : ℕ) (p : Option PolicyRow) → row_at m k ≡ p → valued m p ≡ true
    given k None f = refl
    given k (Some r) f =
        let t = template_of m s k r f in
        ap (passes (λ (u : Template). eqb (value_slots r.values) u.slots.bits)) t.1 ∙ eq-eqb (value_slots r.values) t.0.slots.bits (s.values k r t.0 f t.1)

    scopes : (k : ℕ) (o : Option Template) → template_at m k ≡ o → scoped o ≡ true
    scopes k None e = refl
    scopes k (Some t) e = s.scopes k t e

    under : (x : Option Member) (p : Option PolicyRow) → x ≡ changed member p → same_member x p ≡ true
    under x None e = ap (λ (y : Option Member). same_member y None) e
    under x (Some r) e = ap (λ (y : Option Member). same_member y (Some r)) e ∙ eq-eqb r.template r.template refl
