-- A set that its tally shows, and what a merge of two leaves.
use Rattle.std.specs.Prelude.{◌≡◌, ℕ, Bool, true, List}
use Rattle.policy.specs.declared.template.Template.{Template}
use Rattle.policy_set.specs.declared.rows.Renaming.{Renaming}
use Rattle.policy_set.specs.Maps.{Maps}
use Rattle.policy_set.specs.Sound.{Sound}
use Rattle.policy_set.specs.Merge.{final, renamed_template, merged}
use Rattle.policy_set.specs.Tally.{Tally, Shows, AllFit, merge_tally}

-- A set and its tally: each id names one thing, the accounts agree with the set, and its templates are fit.
pub record Holds (same : ℕ → ℕ → Bool) (Fit : Template → Type 0) (m : Maps) (tally : Tally) : Type 0 where
  pub sound : Sound m
  pub shows : Shows same tally m
  pub fits : AllFit Fit m

-- Comparing clauses is symmetric and transitive.
pub record Comparing (same : ℕ → ℕ → Bool) : Type 0 where
  pub symmetric : (m n : ℕ) → same m n ≡ true → same n m ≡ true
  pub transitive : (l m n : ℕ) → same l m ≡ true → same m n ≡ true → same l n ≡ true

-- Fitness does not depend on a template's id.
abbrev pub Idless : (Template → Type 0) → Type 0
Idless Fit = (f : ℕ → ℕ) (t : Template) → Fit t → Fit (renamed_template f t)

-- The live set and its tally after a merge.
abbrev pub HoldsAfter : (ℕ → ℕ → Bool) → (Template → Type 0) → Maps → Maps → Tally → Tally → List Renaming → Type 0
HoldsAfter same Fit live incoming tl ti pairs = Holds same Fit (merged (final pairs) live incoming) (merge_tally same pairs tl ti)
