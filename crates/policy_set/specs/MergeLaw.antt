-- What a merge does, in terms of what ids name.
use Rattle.std.specs.Prelude.{◌≡◌, ℕ, ◌+◌, Bool, true, false, not, ◌&&◌, ◌⊎◌, List, [], ◌∷◌, length, take, Some, Result, MatchResult, ◌≢◌}
use Rattle.refusals.specs.declared.refusal.Refusal.{Refusal}
use Rattle.policy.specs.declared.template.Template.{Template}
use Rattle.policy_set.specs.declared.rows.PolicyRow.{PolicyRow}
use Rattle.policy_set.specs.declared.rows.Renaming.{Renaming}
use Rattle.policy_set.specs.Tables.{lookup, Once, put_all}
use Rattle.policy_set.specs.Rows.{template_id, policy_id, member_id}
use Rattle.policy_set.specs.Maps.{Maps, template_at, row_at, bound, named}
use Rattle.policy_set.specs.Sound.{Sound}
use Rattle.policy_set.specs.Answers.{reverse_set}
use Rattle.policy_set.specs.Merge.{things_equal, among, gathered, new_id, final, renamed_template, renamed_row, renamed_member, renamed_thing, rows_more}

-- Both sets bind the id, and it names unequal things in them.
abbrev pub clash : (ℕ → ℕ → Bool) → Maps → Maps → ℕ → Bool
clash same live incoming k = bound live k && (bound incoming k && not (things_equal same (named live k) (named incoming k)))

-- An id is gathered exactly when both sets bind it and it names unequal things.
abbrev pub GathersClashes : (ℕ → ℕ → Bool) → Maps → Maps → Type 0
GathersClashes same live incoming = (k : ℕ) → among k (gathered same live incoming) ≡ clash same live incoming k

-- The old ids of pairs, in order.
abbrev pub old_ids : List Renaming → List ℕ
old_ids [] = []
old_ids (p ∷ ps) = p.old ∷ old_ids ps

-- The gathered ids, in their order, have new ids that are distinct and bound in neither set.
pub record Chosen (same : ℕ → ℕ → Bool) (live incoming : Maps) (pairs : List Renaming) : Type 0 where
  pub olds : old_ids pairs ≡ gathered same live incoming
  pub distinct : Once new_id pairs
  pub free : (k : ℕ) (p : Renaming) → lookup new_id k pairs ≡ Some p → (bound live k ≡ false) × (bound incoming k ≡ false)

-- What the final ids of the incoming ids are like; f gives the final id of each.
pub record FinalIds (same : ℕ → ℕ → Bool) (live incoming : Maps) (f : ℕ → ℕ) : Type 0 where
  -- distinct incoming ids have distinct final ids
  pub distinct : (i j : ℕ) → bound incoming i ≡ true → bound incoming j ≡ true → f i ≡ f j → i ≡ j
  -- an id that names unequal things goes in under one that neither set binds
  pub new : (i : ℕ) → clash same live incoming i ≡ true → (bound live (f i) ≡ false) × (bound incoming (f i) ≡ false)
  -- any other id stays
  pub stays : (i : ℕ) → clash same live incoming i ≡ false → f i ≡ i

-- What each id names afterwards.
pub record NamesAfter (same : ℕ → ℕ → Bool) (live incoming after : Maps) (f : ℕ → ℕ) : Type 0 where
  -- each incoming thing has gone in under its final id
  pub comes : (i : ℕ) → bound incoming i ≡ true → named after (f i) ≡ renamed_thing f (named incoming i)
  -- each live id names what it named, or an equal thing
  pub stays : (k : ℕ) → bound live k ≡ true → (named after k ≡ named live k) ⊎ (things_equal same (named live k) (named after k) ≡ true)
  -- and no other id names anything
  pub others : (k : ℕ) → bound after k ≡ true → (bound live k ≡ true) ⊎ ((i : ℕ) × (bound incoming i ≡ true) × (f i ≡ k))

-- Where the rows come from.
pub record RowsAfter (live incoming after : Maps) (f : ℕ → ℕ) : Type 0 where
  -- each template is a live one, or an incoming one under its final id
  pub templates : (k : ℕ) (t : Template) → template_at after k ≡ Some t
      → (template_at live k ≡ Some t) ⊎ ((i : ℕ) × (u : Template) × (template_at incoming i ≡ Some u) × (t ≡ renamed_template f u))
  -- each policy is a live one, or an incoming one under its final ids
  pub policies : (k : ℕ) (r : PolicyRow) → row_at after k ≡ Some r
      → (row_at live k ≡ Some r) ⊎ ((i : ℕ) × (q : PolicyRow) × (row_at incoming i ≡ Some q) × (r ≡ renamed_row f q))

-- The reverse sets afterwards.
pub record ReverseAfter (live incoming after : Maps) (f : ℕ → ℕ) : Type 0 where
  -- the reverse set of an incoming template has gone in, in its order, among that of the template's final id
  pub comes : (j : ℕ) (t : Template) → template_at incoming j ≡ Some t
      → reverse_set (f j) after ≡ put_all member_id (renamed_member f) (reverse_set (f j) live) (reverse_set j incoming)
  -- the others stay
  pub stays : (k : ℕ) → ((j : ℕ) (t : Template) → template_at incoming j ≡ Some t → f j ≢ k) → reverse_set k after ≡ reverse_set k live

-- How many templates and policies there are afterwards, whatever the new ids: those of one id count once.
pub record RowsCounted (same : ℕ → ℕ → Bool) (live incoming after : Maps) : Type 0 where
  pub templates : length after.templates ≡ length live.templates + rows_more template_id (gathered same live incoming) live.templates incoming.templates
  pub policies : length after.policies ≡ length live.policies + rows_more policy_id (gathered same live incoming) live.policies incoming.policies

-- What a merge has done: the pairs say which ids were renamed, and `after` is the live set afterwards.
pub record Merges (same : ℕ → ℕ → Bool) (live incoming after : Maps) (pairs : List Renaming) : Type 0 where
  pub gathers : GathersClashes same live incoming
  pub chosen : Chosen same live incoming pairs
  pub ids : FinalIds same live incoming (final pairs)
  pub names : NamesAfter same live incoming after (final pairs)
  pub rows : RowsAfter live incoming after (final pairs)
  pub reverse : ReverseAfter live incoming after (final pairs)
  pub counts : RowsCounted same live incoming after
  pub sound : Sound after

-- The law of a merge by its answer: accepted, the first pairs of the buffer say what was renamed; refused, the set is as it was.
abbrev pub Merging : (ℕ → ℕ → Bool) → Maps → Maps → Maps → List Renaming → Result ℕ Refusal → Type 0
Merging same live incoming after buffer answer = MatchResult answer (λ n. Merges same live incoming after (take n buffer)) (λ _. after ≡ live)
