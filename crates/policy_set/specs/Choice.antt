-- Choosing new ids: `policy` and a decimal number, from a counter that is raised past every try.
use Rattle.std.specs.Prelude.{◌≡◌, ℕ, zero, suc, ◌+◌, ◌-◌, ◌<◌, ◌≤◌, Bool, cond, not, ◌||◌, List, [], ◌∷◌, ◌++◌, length, is_some, Some, None, codes, decimal, Option, nat_lt, slice_index_or, unwrap_or}
use Rattle.names.specs.Names.{Limits, number_of, name_after}
use Rattle.policy_set.specs.declared.rows.Renaming.{Renaming}
use Rattle.policy_set.specs.declared.merge.attempt.Try.{Try}
use Rattle.policy_set.specs.declared.merge.plan.Plan.{Plan}
use Rattle.policy_set.specs.Tables.{one_if, lookup}
use Rattle.policy_set.specs.Maps.{Maps, bound}
use Rattle.policy_set.specs.Merge.{new_id}

-- The text of a counter: `policy` and its decimal digits.
unfoldable pub candidate : ℕ → List ℕ
candidate c = codes "policy" ++ decimal c

-- The texts of counters, in order.
abbrev pub candidates : List ℕ → List (List ℕ)
candidates [] = []
candidates (c ∷ cs) = candidate c ∷ candidates cs

-- One try: a text of the book counts under its number, any other under the one that it would get after so many new texts.
abbrev pub attempt : List (List ℕ) → ℕ → ℕ → Try
attempt texts fresh c = record {
  name = unwrap_or (number_of (candidate c) texts) (length texts + fresh);
  counter = c + 1;
  fresh = fresh + one_if (not (is_some (number_of (candidate c) texts)));
}

-- A try leaves at most one new text more, and its counter is past its text.
pub record Next (fresh : ℕ) (t : Try) : Type 0 where
  pub low : fresh ≤ t.fresh
  pub high : t.fresh ≤ fresh + 1
  pub past : 1 ≤ t.counter

-- The first try from the counter c on whose number is not taken, of so many.
abbrev pub first_free : List (List ℕ) → (ℕ → Bool) → ℕ → ℕ → ℕ → Option Try
first_free texts taken zero fresh c = None
first_free texts taken (suc tries) fresh c =
    cond (taken (attempt texts fresh c).name) (first_free texts taken tries fresh (c + 1)) (Some (attempt texts fresh c))

-- What was chosen before, and what is chosen after.
abbrev pub after_these : List Renaming → Option (List Renaming) → Option (List Renaming)
after_these ps None = None
after_these ps (Some qs) = Some (ps ++ qs)

-- An old and a new id.
abbrev pub pair : ℕ → ℕ → Renaming
pair i k = record { old = i; new = k }

-- A new id for each id, in order; the counter stays below the limit.
abbrev pub choose : List (List ℕ) → (ℕ → Bool) → ℕ → ℕ → ℕ → List ℕ → Option (List Renaming)
choose texts taken limit fresh c [] = Some []
choose texts taken limit fresh c (i ∷ is) =
    elim (first_free texts taken (limit - c) fresh c) [
      | None ↦ None
      | Some t ↦ after_these (pair i t.name ∷ []) (choose texts taken limit t.fresh t.counter is)
    ]

-- The pairs, where every id got a new one.
abbrev pub pairs_of : Option Plan → Option (List Renaming)
pairs_of (Some p) = Some p.pairs.items
pairs_of None = None

-- The counter of a try whose text is new.
abbrev pub new_text : ℕ → Try → List ℕ
new_text fresh t = cond (nat_lt fresh t.fresh) ((t.counter - 1) ∷ []) []

-- The counters of the new texts, in the order of choice.
abbrev pub new_texts : List (List ℕ) → (ℕ → Bool) → ℕ → ℕ → ℕ → List ℕ → List ℕ
new_texts texts taken limit fresh c [] = []
new_texts texts taken limit fresh c (i ∷ is) =
    elim (first_free texts taken (limit - c) fresh c) [
      | None ↦ []
      | Some t ↦ new_text fresh t ++ new_texts texts taken limit t.fresh t.counter is
    ]

-- The texts of a book after the texts of counters were named in turn.
abbrev pub enter_all : Limits → List (List ℕ) → List ℕ → List (List ℕ)
enter_all limits texts [] = texts
enter_all limits texts (c ∷ cs) = enter_all limits (name_after limits texts (candidate c)) cs

-- Each new id is, in the book afterwards, the number of `policy` and a decimal number.
abbrev pub ReadsBack : List (List ℕ) → List Renaming → Type 0
ReadsBack texts pairs = (k : ℕ) (p : Renaming) → lookup new_id k pairs ≡ Some p → (c : ℕ) × (k < length texts) × (slice_index_or texts k [] ≡ candidate c)

-- Either set binds the id.
abbrev pub taken_by : Maps → Maps → ℕ → Bool
taken_by live incoming k = bound live k || bound incoming k
