-- The answers and the law of a book whose clauses are made from their contents.
-- These are lemmas, and no reader has to believe them: they stand in specs/ since the impl of `ClauseBook` names `lawful_by`.
use Rattle.std.specs.Prelude.{◌≡◌, ℕ, zero, suc, ◌<◌, Bool, List, [], ◌∷◌, Some, None, Option, refl}
use Rattle.std.proofs.Common.{sym, ◌∙◌, ap, arith}
use Rattle.std.specs.List.{slice_get}
use Rattle.std.specs.Option.{option_map}
use Rattle.clauses.specs.Book.{Clause, Lawful, Same, at, slots_of, constant_of, listing}

module _ {C : Type 0} (make : C → Clause C) where
  -- The clause of a number is made from the content of that number.
  pub at_listing : (ts : List C) (n : ℕ) → at (listing make ts) n ≡ option_map make (slice_get ts n)
  at_listing [] n = refl
  at_listing (t ∷ ts) zero = refl
  at_listing (t ∷ ts) (suc n) = at_listing ts n

  -- Where a clause keeps its content, clauses of equal content are equal.
  module _ (keeps : (t : C) → (make t).content ≡ t) where
    -- The same of contents that may be absent, where the clauses made from them are there.
    from_content : (s t : Option C) (c d : Clause C) → option_map make s ≡ Some c → option_map make t ≡ Some d → c.content ≡ d.content → option_map make s ≡ option_map make t
    from_content None t c d p q e = let z : ◌≡◌ {A = ℕ} 0 1 = cc in absurd (omega arith)
    from_content (Some s) None c d p q e = let z : ◌≡◌ {A = ℕ} 0 1 = cc in absurd (omega arith)
    from_content (Some s) (Some t) c d p q e =
        let a : make s ≡ c = cc in
        let b : make t ≡ d = cc in
        let content = λ (x : Clause C). x.content in
        ap (λ (x : C). Some (make x)) (sym (keeps s) ∙ ap content a ∙ e ∙ sym (ap content b) ∙ keeps t)

    -- Clauses of two numbers with equal contents are equal.
    alike : (ts : List C) (a b : ℕ) → Same (listing make ts) a b → at (listing make ts) a ≡ at (listing make ts) b
    alike ts a b s =
        at_listing ts a
        ∙ from_content (slice_get ts a) (slice_get ts b) s.left s.right (sym (at_listing ts a) ∙ s.left_at) (sym (at_listing ts b) ∙ s.right_at) s.alike
        ∙ sym (at_listing ts b)

    -- The slots of a clause that may be absent are two bits.
    small : ((t : C) → (make t).slots < 4) → (o : Option C) → slots_of (option_map make o) < 4
    small f None = omega arith
    small f (Some t) = f t

    -- A clause that may be absent has no slot where it is a constant.
    slotless : ((t : C) (v : Bool) → (make t).constant ≡ Some v → (make t).slots ≡ 0) → (o : Option C) (v : Bool)
        → constant_of (option_map make o) ≡ Some v → slots_of (option_map make o) ≡ 0
    slotless f None v h = refl
    slotless f (Some t) v h = f t v h

    -- The law, from what holds of each content.
    pub lawful_by : ((t : C) → (make t).slots < 4) → ((t : C) (v : Bool) → (make t).constant ≡ Some v → (make t).slots ≡ 0)
        → (ts : List C) → Lawful (listing make ts)
    lawful_by f g ts = record {
      bits = λ a. rw (at_listing ts a) (small f (slice_get ts a));
      same_slots = λ a b s. ap slots_of (alike ts a b s);
      same_constant = λ a b s. ap constant_of (alike ts a b s);
      constant_slotless = λ a v h. ap slots_of (at_listing ts a) ∙ slotless g (slice_get ts a) v (sym (ap constant_of (at_listing ts a)) ∙ h);
    }
