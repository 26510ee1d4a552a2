-- The law over every list of calls: what both sets show, at first and after each call, against tallies of the calls and
-- their answers. A tally keeps an account for each id: grants, take-backs and the latest grant. It never sees a set.
use Rattle.std.specs.Prelude.{◌≡◌, ℕ, ◌+◌, ◌≤◌, Bool, true, false, cond, List, [], ◌∷◌, length, take, Some, None, Ok, Result, ◌==◌, slice_get}
use Rattle.refusals.specs.declared.refusal.Refusal.{Refusal}
use Rattle.clauses.specs.Book.{Clause, same_clause}
use Rattle.names.specs.Names.{Limits}
use Rattle.policy.specs.Arity.{Parts, parts, Exact}
use Rattle.policy.specs.Filling.{slotted, fill}
use Rattle.policy.specs.Known.{clause_known}
use Rattle.policy.specs.Mentions.{condition_slots}
use Rattle.policy.specs.declared.template.Template.{Template}
use Rattle.policy_set.specs.Tables.{one_if, times}
use Rattle.policy_set.specs.Rows.{member_id}
use Rattle.policy_set.specs.Maps.{Maps, template_at, passes, blank_template, in_force}
use Rattle.policy_set.specs.Sound.{has_slots, Sound}
use Rattle.policy_set.specs.Answers.{reverse_set, static_parts, id_of}
use Rattle.policy_set.specs.Merge.{parts_equal}
use Rattle.policy_set.specs.Tally.{Account, Tally, grant, merge_tally, Shows, AllFit}
use Rattle.calls.specs.declared.call.Side.{Side}
use Rattle.calls.specs.declared.call.Side.TheVariants.{A, B}
use Rattle.calls.specs.declared.call.Call.{Call}
use Rattle.calls.specs.declared.call.Call.TheVariants as call
use Rattle.calls.specs.Model.{Told, State, other, after, after as left, answers}
use Rattle.calls.specs.Model.Told.{done, policy, pairs}

-- The tallies of both sets.
pub record Tallies : Type 0 where
  pub a : Tally
  pub b : Tally

-- The tally of one set.
abbrev pub tally_at : Side → Tallies → Tally
tally_at A t = t.a
tally_at B t = t.b

-- The tallies with another one for one set.
abbrev pub with_tally : Side → Tally → Tallies → Tallies
with_tally A tally t = record { a = tally; b = t.b }
with_tally B tally t = record { a = t.a; b = tally }

-- An account without grants and take-backs.
abbrev pub no_account : Account
no_account = record { grants = 0; takebacks = 0; latest = static_parts blank_template }

-- The tallies at first.
abbrev pub blank : Tallies
blank = record { a = λ k. no_account; b = λ k. no_account }

-- The tally with another account for one id.
abbrev pub with_account : ℕ → Account → Tally → Tally
with_account id account tally k = cond (id == k) account (tally k)

-- The tallies after a grant under an id of one set.
abbrev pub granted : Side → ℕ → Parts → Tallies → Tallies
granted s id p t = with_tally s (with_account id (grant (tally_at s t id) p) (tally_at s t)) t

-- The account after a take-back.
abbrev pub take_back : Account → Account
take_back a = record { grants = a.grants; takebacks = a.takebacks + 1; latest = a.latest }

-- The tallies after a take-back under an id of one set.
abbrev pub taken_back : Side → ℕ → Tallies → Tallies
taken_back s id t = with_tally s (with_account id (take_back (tally_at s t id)) (tally_at s t)) t

-- The tallies after a call, from its arguments and its answer. Policies are compared with clauses by `same`.
abbrev pub fed : (ℕ → ℕ → Bool) → Tallies → Call → Result Told Refusal → Tallies
fed same t (call.AddStatic s p) (Ok done) = granted s p.body.id (static_parts p.body) t
fed same t (call.Add s p) (Ok done) = granted s (id_of (parts p)) (parts p) t
fed same t (call.Link s tmpl new values) (Ok (policy p)) = granted s new p t
fed same t (call.Unlink s id) (Ok (policy p)) = taken_back s id t
fed same t (call.RemoveStatic s id) (Ok (policy p)) = taken_back s id t
fed same t (call.Merge s rename room) (Ok (pairs ps)) = with_tally s (merge_tally same ps (tally_at s t) (tally_at (other s) t)) t
fed same t c answer = t

-- The tallies after a list of calls, from these and their answers.
abbrev pub tallied : (ℕ → ℕ → Bool) → Tallies → List Call → List (Result Told Refusal) → Tallies
tallied same t [] answers = t
tallied same t (c ∷ calls) [] = t
tallied same t (c ∷ calls) (a ∷ answers) = tallied same (fed same t c a) calls answers

-- A policy that is taken back equals its latest grant.
abbrev pub TakesLatest : (ℕ → ℕ → Bool) → Tallies → Call → Result Told Refusal → Type 0
TakesLatest same t (call.Unlink s id) (Ok (policy p)) = parts_equal same p (tally_at s t id).latest ≡ true
TakesLatest same t (call.RemoveStatic s id) (Ok (policy p)) = parts_equal same p (tally_at s t id).latest ≡ true
TakesLatest same t c answer = Unit {0}

-- The one thing that an id names, if it is bound.
pub data OneThing (m : Maps) (id : ℕ) : Type 0 where
  -- nothing
  nothing : template_at m id ≡ None → in_force m id ≡ None → OneThing m id
  -- a template with slots
  template : (t : Template) → template_at m id ≡ Some t → in_force m id ≡ None → t.id ≡ id → has_slots t ≡ true → OneThing m id
  -- a link of a template with slots
  link : (p : Parts) → template_at m id ≡ None → in_force m id ≡ Some p → p.link ≡ Some id → has_slots p.template ≡ true
      → template_at m p.template.id ≡ Some p.template → OneThing m id
  -- a static policy, whose body stands among the templates
  static : (p : Parts) → template_at m id ≡ Some p.template → in_force m id ≡ Some p → p.link ≡ None → p.template.id ≡ id
      → has_slots p.template ≡ false → OneThing m id

-- A policy binds exactly the slots of its template's condition, and its filled scope has none left.
pub record Binds {C : Type 0} (cs : List (Clause C)) (p : Parts) : Type 0 where
  pub exact : Exact (condition_slots cs p.template) p.values
  pub principal : slotted (fill p.values.principal p.template.principal) ≡ false
  pub resource : slotted (fill p.values.resource p.template.resource) ≡ false

-- A template's slots are those of its condition, and its clause is in the book.
pub record Fit {C : Type 0} (cs : List (Clause C)) (t : Template) : Type 0 where
  pub slots : t.slots.bits ≡ (condition_slots cs t).bits
  pub clause : clause_known cs t.clause ≡ Ok tt

module _ {C : Type 0} (equal : C → C → Bool) (cs : List (Clause C)) where
  -- What a set shows against its tally.
  pub record Shown (m : Maps) (tally : Tally) : Type 0 where
    -- (a) each id names one thing, no two rows have one id, and a reverse set lists exactly its template's policies, once each
    pub one_thing : (id : ℕ) → OneThing m id
    pub sound : Sound m
    pub reverse : (t id : ℕ) → times member_id id (reverse_set t m) ≡ one_if (passes (λ p. p.template.id == t) (in_force m id))
    -- (b) for each id, grants are take-backs, and one more while its policy is in force, which equals its latest grant
    pub agrees : Shows (same_clause equal cs) tally m
    -- (c) each policy in force binds exactly its slots; and what lets later links do so: each template is fit
    pub binds : (id : ℕ) (p : Parts) → in_force m id ≡ Some p → Binds cs p
    pub fits : AllFit (Fit cs) m

  -- Both sets show their tallies.
  pub record BothShow (t : Tallies) (q : State) : Type 0 where
    pub a : Shown q.a t.a
    pub b : Shown q.b t.b

  -- One call: from tallies that both sets show, those fed with it are shown, and what it takes back equals its latest grant.
  pub record OneCall (before after : State) (c : Call) (answer : Result Told Refusal) : Type 0 where
    pub shows : (t : Tallies) → BothShow t before → BothShow (fed (same_clause equal cs) t c answer) after
    pub takes : (t : Tallies) → BothShow t before → TakesLatest (same_clause equal cs) t c answer

  -- At first and after each call both sets show their tallies, and each policy taken back equals its latest grant.
  pub record Throughout (limits : Limits) (t : Tallies) (q : State) (calls : List Call) (told : List (Result Told Refusal)) : Type 0 where
    pub shows : (n : ℕ) → n ≤ length calls
        → BothShow (tallied (same_clause equal cs) t (take n calls) (take n told)) (after limits equal cs q (take n calls))
    pub takes : (n : ℕ) (c : Call) (answer : Result Told Refusal) → slice_get calls n ≡ Some c → slice_get told n ≡ Some answer
        → TakesLatest (same_clause equal cs) (tallied (same_clause equal cs) t (take n calls) (take n told)) c answer

  -- A list of calls was made: what they answered, what they left, and the law.
  pub record Ran (limits : Limits) (before after : State) (calls : List Call) (told : List (Result Told Refusal)) : Type 0 where
    pub answers : told ≡ answers limits equal cs before calls
    pub left : after ≡ left limits equal cs before calls
    pub law : (t : Tallies) → BothShow t before → Throughout limits t before calls told
