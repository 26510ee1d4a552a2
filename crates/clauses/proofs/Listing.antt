-- The clauses of a book whose clauses are made from their contents.
use Rattle.std.specs.Prelude.{◌≡◌, ℕ, suc, List, [], ◌∷◌, ◌++◌, length, Some, None, Ok, Err, Option, Result, refl}
use Rattle.std.proofs.Common.{sym, ◌∙◌, ap}
use Rattle.std.specs.List.{slice_get}
use Rattle.std.specs.Option.{option_map}
use Rattle.refusals.specs.declared.refusal.Refusal.{Refusal}
use Rattle.names.specs.Names.{with_entered}
use Rattle.clauses.specs.Book.{Clause, at, listing}
use Rattle.clauses.specs.Listing.{at_listing}

module _ {C : Type 0} (make : C → Clause C) where
  -- There are as many clauses as contents.
  pub length_listing : (ts : List C) → length (listing make ts) ≡ length ts
  length_listing [] = refl
  length_listing (t ∷ ts) = ap suc (length_listing ts)

  -- One content more at the end is one clause more at the end.
  listing_push : (ts : List C) (t : C) → listing make (ts ++ (t ∷ [])) ≡ listing make ts ++ (make t ∷ [])
  listing_push [] t = refl
  listing_push (u ∷ ts) t = ap (λ (l : List (Clause C)). make u ∷ l) (listing_push ts t)

  -- The same, for a content that is lent.
  pub at_lent : {Y : Type 0} (read : Y → C) (ts : List C) (n : ℕ) (lent : Option Y) → option_map read lent ≡ slice_get ts n
      → at (listing make ts) n ≡ option_map (λ (y : Y). make (read y)) lent
  at_lent read ts n None e = at_listing make ts n ∙ sym (ap (option_map make) e)
  at_lent read ts n (Some y) e = at_listing make ts n ∙ sym (ap (option_map make) e)

  -- The clauses after an answer are those of the contents after it.
  pub listing_entered : (r : Result ℕ Refusal) (before after : List C) (t : C) → after ≡ with_entered r before t
      → listing make after ≡ with_entered r (listing make before) (make t)
  listing_entered (Ok n) before after t e = ap (listing make) e ∙ listing_push before t
  listing_entered (Err refusal) before after t e = ap (listing make) e
