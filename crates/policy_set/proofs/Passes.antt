-- What a chain over the rows of a table gives.
use Rattle.std.proofs.Common.{◌≡◌, Bool, true, false, cond, not, ◌||◌, List, [], ◌∷◌, Some, None, filter, Option, refl, ap, ◌∙◌}
use Rattle.std.specs.List.{list_any}
use Rattle.std.specs.Option.{MatchOption, IsSomeAnd, option_map}
use Rattle.policy_set.specs.Answers.{no_rows}

-- what `map` gives of what may be there, read by v
pub mapped : {A X Y : Type 0} (v : A → X) (f : X → Y) (o : Option A) (r : Option Y) (s : Option X) (P : A → Y → Type 0)
    → MatchOption o (r ≡ None) (λ x. IsSomeAnd r (P x)) → ((x : A) (y : Y) → P x y → y ≡ f (v x)) → option_map v o ≡ s → r ≡ option_map f s
mapped v f None r s P c k e = c ∙ ap (option_map f) e
mapped v f (Some x) None s P c k e = absurd c
mapped v f (Some x) (Some y) s P c k e = ap Some (k x y c) ∙ ap (option_map f) e

-- a row passes where some row is kept
pub any_kept : {X : Type 0} (test : X → Bool) (xs : List X) → list_any test xs ≡ not (no_rows (filter test xs))
any_kept test [] = refl
any_kept test (x ∷ xs) = go (test x) (any_kept test xs)
  where
    go : (b : Bool) → list_any test xs ≡ not (no_rows (filter test xs))
        → (b || list_any test xs) ≡ not (no_rows (cond b (x ∷ filter test xs) (filter test xs)))
    go true ih = refl
    go false ih = ih
