-- Tallies: for each id what was granted and taken back, told from the calls and their answers alone.
use Rattle.std.specs.Prelude.{◌≡◌, ℕ, ◌+◌, Bool, true, false, cond, List, is_some, Some, None, Option, nat_lt}
use Rattle.policy.specs.declared.template.Template.{Template}
use Rattle.policy.specs.Arity.{Parts}
use Rattle.policy_set.specs.declared.rows.Renaming.{Renaming}
use Rattle.policy_set.specs.Tables.{one_if}
use Rattle.policy_set.specs.Maps.{Maps, template_at, in_force, passes}
use Rattle.policy_set.specs.Merge.{parts_equal, final, origin, renamed_policy}

-- The account of an id: how often a policy was granted under it and taken back, and the one granted last.
pub record Account : Type 0 where
  pub grants : ℕ
  pub takebacks : ℕ
  pub latest : Parts

-- An account for each id.
abbrev pub Tally : Type 0
Tally = ℕ → Account

-- The policy that an account holds: the latest grant, while grants exceed take-backs.
abbrev pub held : Account → Option Parts
held a = cond (nat_lt a.takebacks a.grants) (Some a.latest) None

-- The account after a grant.
abbrev pub grant : Account → Parts → Account
grant a p = record { grants = a.grants + 1; takebacks = a.takebacks; latest = p }

-- What is held is equal to the policy. Clauses are compared by `same`, here and below.
abbrev pub holds_equal : (ℕ → ℕ → Bool) → Parts → Option Parts → Bool
holds_equal same p o = passes (λ q. parts_equal same q p) o

-- The account after a merge that brings in what may be held, where the live tally holds `mine` under the incoming id.
abbrev pub merged_account : (ℕ → ℕ → Bool) → (ℕ → ℕ) → Account → Option Parts → Option Parts → Account
merged_account same f a mine None = a
merged_account same f a mine (Some p) = cond (holds_equal same p mine) a (grant a (renamed_policy f p))

-- The account of a final id k after a merge, where i is the incoming id that it comes from, if any.
abbrev pub granted_from : (ℕ → ℕ → Bool) → (ℕ → ℕ) → Tally → Tally → ℕ → Option ℕ → Account
granted_from same f live incoming k None = live k
granted_from same f live incoming k (Some i) = merged_account same f (live k) (held (live i)) (held (incoming i))

-- The live tally after a merge: under each final id, what the incoming tally holds under the id that it comes from is granted,
-- unless the live tally holds an equal of it under that id.
abbrev pub merge_tally : (ℕ → ℕ → Bool) → List Renaming → Tally → Tally → Tally
merge_tally same pairs live incoming k = granted_from same (final pairs) live incoming k (origin pairs k)

-- The same by two rules; that the tally above follows them is the lemma `grants_after` of proofs/Tallies.antt.
pub record GrantsAfter (same : ℕ → ℕ → Bool) (f : ℕ → ℕ) (live incoming after : Tally) : Type 0 where
  -- what the incoming tally holds, and the live one holds no equal of under that id, is granted under its final ids
  pub granted : (i : ℕ) (p : Parts) → held (incoming i) ≡ Some p → holds_equal same p (held (live i)) ≡ false
      → after (f i) ≡ grant (live (f i)) (renamed_policy f p)
  -- and nothing else
  pub others : (k : ℕ) → ((i : ℕ) (p : Parts) → f i ≡ k → held (incoming i) ≡ Some p → holds_equal same p (held (live i)) ≡ true)
      → after k ≡ live k

-- An account agrees with what is in force under its id: grants are take-backs and what is in force, which equals the latest grant.
pub record Agrees (same : ℕ → ℕ → Bool) (a : Account) (now : Option Parts) : Type 0 where
  pub balance : a.grants ≡ a.takebacks + one_if (is_some now)
  pub latest : (p : Parts) → now ≡ Some p → parts_equal same p a.latest ≡ true

-- Every account agrees with the set.
abbrev pub Shows : (ℕ → ℕ → Bool) → Tally → Maps → Type 0
Shows same tally m = (k : ℕ) → Agrees same (tally k) (in_force m k)

-- Each template of the set is fit.
abbrev pub AllFit : (Template → Type 0) → Maps → Type 0
AllFit Fit m = (k : ℕ) (t : Template) → template_at m k ≡ Some t → Fit t
