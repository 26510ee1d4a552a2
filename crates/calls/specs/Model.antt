-- Two policy sets and their name book, and what each call on them answers and leaves.
use Rattle.std.specs.Prelude.{ℕ, Bool, List, [], ◌∷◌, length, Ok, Err, Result, nat_lt}
use Rattle.refusals.specs.declared.refusal.Refusal.{Refusal}
use Rattle.refusals.specs.declared.refusal.Refusal.TheVariants.{ShortBuffer}
use Rattle.names.specs.Names.{Limits, name_answer, name_after}
use Rattle.clauses.specs.Book.{Clause, same_clause}
use Rattle.policy.specs.Arity.{Parts, parts}
use Rattle.policy.specs.declared.template.Template.{Template}
use Rattle.policy_set.specs.declared.rows.Renaming.{Renaming}
use Rattle.policy_set.specs.Maps.{Maps}
use Rattle.policy_set.specs.Answers.{empty, refuse_if, add_template_answer, add_template_after, add_static_answer, add_static_after, add_answer, add_after, link_answer, link_after, unlink_answer, unlink_after, remove_static_answer, remove_static_after, remove_template_answer, remove_template_after}
use Rattle.policy_set.specs.MergeCall.{merge_outcome, merge_after, merge_texts}
use Rattle.calls.specs.declared.call.Side.{Side}
use Rattle.calls.specs.declared.call.Side.TheVariants.{A, B}
use Rattle.calls.specs.declared.call.Call.{Call}
use Rattle.calls.specs.declared.call.Call.TheVariants as call
use Rattle.calls.specs.declared.answer.Handed.{Handed}
use Rattle.calls.specs.declared.answer.Handed.TheVariants as hand
use Rattle.calls.specs.Pairs.{pairs_in}

-- What an accepted call hands back: nothing, a text's number, a policy by its parts, a template, or the pairs of a merge.
pub data Told : Type 0 where
  done : Told
  number : ℕ → Told
  policy : Parts → Told
  template : Template → Told
  pairs : List Renaming → Told

-- What is handed back, as told.
abbrev pub handed : Handed → Told
handed hand.Nothing = done
handed (hand.Name n) = number n
handed (hand.Policy p) = policy (parts p)
handed (hand.Template t) = template t
handed (hand.Pairs ps) = pairs (pairs_in ps)

-- An answer that tells something of what a call gives, or its refusal.
abbrev pub tell : {X : Type 0} → (X → Told) → Result X Refusal → Result Told Refusal
tell f (Ok x) = Ok (f x)
tell f (Err e) = Err e

-- An answer as told.
abbrev pub told : Result Handed Refusal → Result Told Refusal
told answer = tell handed answer

-- What a list of calls answers, with places for so many answers: refusal 24 where these are too few.
abbrev pub run_answer : ℕ → ℕ → Result (Unit {0}) Refusal
run_answer calls places = refuse_if (nat_lt places calls) (ShortBuffer calls)

-- How many answers a list of so many calls has given.
abbrev pub given : Result (Unit {0}) Refusal → ℕ → ℕ
given (Ok u) calls = calls
given (Err e) calls = 0

-- The maps of both sets, and the texts of the name book.
pub record State : Type 0 where
  pub a : Maps
  pub b : Maps
  pub texts : List (List ℕ)

-- Two empty sets on a name book.
abbrev pub empty_sets : List (List ℕ) → State
empty_sets texts = record { a = empty; b = empty; texts = texts }

-- The maps of one set.
abbrev pub maps_at : Side → State → Maps
maps_at A q = q.a
maps_at B q = q.b

-- The other set.
abbrev pub other : Side → Side
other A = B
other B = A

-- The state with other maps of one set.
abbrev pub with_maps : Side → Maps → State → State
with_maps A m q = record { a = m; b = q.b; texts = q.texts }
with_maps B m q = record { a = q.a; b = m; texts = q.texts }

-- The state with other texts.
abbrev pub with_texts : List (List ℕ) → State → State
with_texts ts q = record { a = q.a; b = q.b; texts = ts }

-- What calls answer and leave, for the limits of the name book, a test on clauses' contents and the clauses of the clause book.
module _ {C : Type 0} (limits : Limits) (equal : C → C → Bool) (cs : List (Clause C)) where
  -- The pairs of a merge into one set, or why it is refused.
  abbrev pub outcome : State → Side → Bool → ℕ → Result (List Renaming) Refusal
  outcome q s rename room = merge_outcome limits q.texts (same_clause equal cs) (maps_at s q) (maps_at (other s) q) rename room

  -- The answer of a call.
  abbrev pub answered : State → Call → Result Told Refusal
  answered q (call.Name text) = tell number (name_answer limits q.texts text.now)
  answered q (call.AddTemplate s t) = tell (λ _. done) (add_template_answer (length q.texts) cs (maps_at s q) t)
  answered q (call.AddStatic s p) = tell (λ _. done) (add_static_answer (length q.texts) cs (maps_at s q) p.body)
  answered q (call.Add s p) = tell (λ _. done) (add_answer (length q.texts) cs (same_clause equal cs) (maps_at s q) p)
  answered q (call.Link s t new values) = tell policy (link_answer (length q.texts) (maps_at s q) t new values)
  answered q (call.Unlink s id) = tell policy (unlink_answer (length q.texts) (maps_at s q) id)
  answered q (call.RemoveStatic s id) = tell policy (remove_static_answer (length q.texts) (maps_at s q) id)
  answered q (call.RemoveTemplate s id) = tell template (remove_template_answer (length q.texts) (maps_at s q) id)
  answered q (call.Merge s rename room) = tell pairs (outcome q s rename room)

  -- The state after a call.
  abbrev pub step : State → Call → State
  step q (call.Name text) = with_texts (name_after limits q.texts text.now) q
  step q (call.AddTemplate s t) = with_maps s (add_template_after (length q.texts) cs (maps_at s q) t) q
  step q (call.AddStatic s p) = with_maps s (add_static_after (length q.texts) cs (maps_at s q) p.body) q
  step q (call.Add s p) = with_maps s (add_after (length q.texts) cs (same_clause equal cs) (maps_at s q) p) q
  step q (call.Link s t new values) = with_maps s (link_after (length q.texts) (maps_at s q) t new values) q
  step q (call.Unlink s id) = with_maps s (unlink_after (length q.texts) (maps_at s q) id) q
  step q (call.RemoveStatic s id) = with_maps s (remove_static_after (length q.texts) (maps_at s q) id) q
  step q (call.RemoveTemplate s id) = with_maps s (remove_template_after (length q.texts) (maps_at s q) id) q
  step q (call.Merge s rename room) =
      with_texts (merge_texts (outcome q s rename room) q.texts (same_clause equal cs) (maps_at s q) (maps_at (other s) q))
      (with_maps s (merge_after (outcome q s rename room) (maps_at s q) (maps_at (other s) q)) q)

  -- The state after a list of calls.
  abbrev pub after : State → List Call → State
  after q [] = q
  after q (c ∷ calls) = after (step q c) calls

  -- The answers of a list of calls.
  abbrev pub answers : State → List Call → List (Result Told Refusal)
  answers q [] = []
  answers q (c ∷ calls) = answered q c ∷ answers (step q c) calls
