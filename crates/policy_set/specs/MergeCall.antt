-- What `merge_policyset` answers, and what it leaves of the set, the buffer and the book.
use Rattle.std.specs.Prelude.{◌≡◌, ℕ, ◌+◌, ◌<◌, ◌≤◌, Bool, true, false, cond, not, ◌&&◌, List, ◌++◌, length, drop, Some, None, Ok, Err, Option, Result, nat_lt, slice_index}
use Rattle.refusals.specs.declared.refusal.Refusal.{Refusal}
use Rattle.refusals.specs.declared.refusal.Refusal.TheVariants.{BookFull, Occupied, ShortBuffer, Full}
use Rattle.refusals.specs.declared.refusal.Table.TheVariants.{Templates, Policies}
use Rattle.names.specs.Names.{Limits, bytes_in, room_for}
use Rattle.policy.specs.Known.{and_then}
use Rattle.policy_set.specs.declared.rows.Renaming.{Renaming}
use Rattle.policy_set.specs.declared.merge.plan.Plan.{Plan}
use Rattle.policy_set.specs.Rows.{template_id, policy_id}
use Rattle.policy_set.specs.Maps.{Maps}
use Rattle.policy_set.specs.Sound.{NamesOne, Valued, Scoped, SameMembers}
use Rattle.policy_set.specs.Answers.{refuse_if}
use Rattle.policy_set.specs.Merge.{gathered, final, merged, rows_more}
use Rattle.policy_set.specs.Choice.{candidates, choose, new_texts, taken_by}

-- The table would have more rows than it holds.
abbrev pub too_many : {X : Type 0} → (X → ℕ) → ℕ → List ℕ → List X → List X → Bool
too_many key most ids live incoming = nat_lt most (length live + rows_more key ids live incoming)

-- Refusals 10 (the first gathered id, where none may be renamed), 24 and 27, over the gathered ids.
abbrev pub merge_tests : Maps → Maps → List ℕ → Bool → ℕ → Result (Unit {0}) Refusal
merge_tests live incoming ids rename room =
    and_then (refuse_if (not rename && nat_lt 0 (length ids)) (Occupied (slice_index ids 0)))
    (and_then (refuse_if (nat_lt room (length ids)) (ShortBuffer (length ids)))
    (and_then (refuse_if (too_many template_id 64 ids live.templates incoming.templates) (Full Templates))
    (refuse_if (too_many policy_id 256 ids live.policies incoming.policies) (Full Policies))))

-- The new ids, where one was found for each id and the book has room for their texts; else refusal 4.
abbrev pub named_pairs : Limits → List (List ℕ) → List ℕ → Option (List Renaming) → Result (List Renaming) Refusal
named_pairs limits texts news None = Err BookFull
named_pairs limits texts news (Some pairs) = cond (room_for limits texts (length news) (bytes_in (candidates news))) (Ok pairs) (Err BookFull)

-- The counters of the texts that are new to the book.
abbrev pub news_for : List (List ℕ) → (ℕ → ℕ → Bool) → Maps → Maps → List ℕ
news_for texts same live incoming = new_texts texts (taken_by live incoming) 65536 0 0 (gathered same live incoming)

-- The pairs of the ids, or why there is no merge.
abbrev pub pairs_for : Limits → List (List ℕ) → Maps → Maps → List ℕ → Bool → ℕ → Result (List Renaming) Refusal
pairs_for limits texts live incoming ids rename room =
    and_then (merge_tests live incoming ids rename room)
    (named_pairs limits texts (new_texts texts (taken_by live incoming) 65536 0 0 ids) (choose texts (taken_by live incoming) 65536 0 0 ids))

-- The pairs of a merge, or why it is refused.
abbrev pub merge_outcome : Limits → List (List ℕ) → (ℕ → ℕ → Bool) → Maps → Maps → Bool → ℕ → Result (List Renaming) Refusal
merge_outcome limits texts same live incoming rename room = pairs_for limits texts live incoming (gathered same live incoming) rename room

-- The answer: how many pairs.
abbrev pub merge_answer : Result (List Renaming) Refusal → Result ℕ Refusal
merge_answer (Ok pairs) = Ok (length pairs)
merge_answer (Err e) = Err e

-- The live maps afterwards.
abbrev pub merge_after : Result (List Renaming) Refusal → Maps → Maps → Maps
merge_after (Ok pairs) live incoming = merged (final pairs) live incoming
merge_after (Err e) live incoming = live

-- The buffer afterwards: the pairs stand first.
abbrev pub merge_buffer : Result (List Renaming) Refusal → List Renaming → List Renaming
merge_buffer (Ok pairs) buffer = pairs ++ drop (length pairs) buffer
merge_buffer (Err e) buffer = buffer

-- The texts of the book afterwards: the new texts stand last, in the order of choice.
abbrev pub merge_texts : Result (List Renaming) Refusal → List (List ℕ) → (ℕ → ℕ → Bool) → Maps → Maps → List (List ℕ)
merge_texts (Ok pairs) texts same live incoming = texts ++ candidates (new_texts texts (taken_by live incoming) 65536 0 0 (gathered same live incoming))
merge_texts (Err e) texts same live incoming = texts

-- The pairs that a plan has found.
abbrev pub planned : Result Plan Refusal → Result (List Renaming) Refusal
planned (Ok p) = Ok p.pairs.items
planned (Err e) = Err e

-- Maps that a set can hold: each table has room for its rows, and the facts of the set's type hold.
pub record Holdable (m : Maps) : Type 0 where
  pub templates : length m.templates ≤ 64
  pub policies : length m.policies ≤ 256
  pub members : length m.members ≤ 256
  pub names_one : NamesOne m
  pub valued : Valued m
  pub scoped : Scoped m
  pub same_members : SameMembers m

-- Both sets bind only names of the book.
abbrev pub OnBook : List (List ℕ) → Maps → Maps → Type 0
OnBook texts live incoming = (k : ℕ) → taken_by live incoming k ≡ true → k < length texts

-- The search for names never runs out for sets on their own book: 4 comes only where the book lacks room for the new texts.
abbrev pub FindsNames : Limits → List (List ℕ) → (ℕ → ℕ → Bool) → Maps → Maps → Result ℕ Refusal → Type 0
FindsNames limits texts same live incoming answer =
    OnBook texts live incoming → answer ≡ Err BookFull
    → room_for limits texts (length (news_for texts same live incoming)) (bytes_in (candidates (news_for texts same live incoming))) ≡ false
