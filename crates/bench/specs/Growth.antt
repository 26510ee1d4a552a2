-- How a set grows as it is filled.
use Rattle.std.specs.Prelude.{◌≡◌, ◌==◌, ℕ, ◌+◌, ◌%◌, suc, zero, Bool, List, [], ◌∷◌, ◌++◌, length, map, take, drop}
use Rattle.policy.specs.declared.template.Template.{Template}
use Rattle.policy.specs.Arity.{Exact}
use Rattle.policy_set.specs.declared.rows.PolicyRow.{PolicyRow}
use Rattle.policy_set.specs.Maps.{Maps}
use Rattle.policy_set.specs.Answers.{with_policy}

-- So many templates, `t`, and so many policies, `p`, more.
pub record Grows (before after : Maps) (t p : ℕ) : Type 0 where
  pub templates : length after.templates ≡ length before.templates + t
  pub policies : length after.policies ≡ length before.policies + p

-- A link of the template more, last, with values for exactly the template's slots.
pub record Links (t : Template) (before after : Maps) : Type 0 where
  pub row : PolicyRow
  pub of_template : row.template ≡ t.id
  pub exact : Exact t.slots row.values
  pub last : after ≡ with_policy row before

-- The templates of the policies, in the policies' order.
abbrev pub templates_of : Maps → List ℕ
templates_of m = map (λ r. r.template) m.policies

-- The ids of so many templates, in turn.
abbrev pub in_turn : List Template → ℕ → List ℕ
in_turn ts zero = []
in_turn ts (suc n) = in_turn ts n ++ map (λ t. t.id) (take 1 (drop (n % length ts) ts))

-- No and yes by turns, so many in all.
abbrev pub by_turns : ℕ → List Bool
by_turns zero = []
by_turns (suc n) = by_turns n ++ (n % 2 == 1) ∷ []
