-- What the calls do to a set, in the subject's words.
use Rattle.std.specs.Prelude.{◌≡◌, ℕ, Bool, true, false, List, [], ◌∷◌, ◌++◌, Some, None, filter, Option, Result, MatchResult, ◌≢◌}
use Rattle.refusals.specs.Refusals.{number}
use Rattle.refusals.specs.declared.refusal.Refusal.{Refusal}
use Rattle.policy.specs.Arity.{Parts}
use Rattle.policy.specs.Equality.{template_equal}
use Rattle.policy.specs.declared.template.Template.{Template}
use Rattle.policy_set.specs.declared.rows.Member.{Member}
use Rattle.policy_set.specs.Tables.{erase, times}
use Rattle.policy_set.specs.Rows.{member_id}
use Rattle.policy_set.specs.Maps.{Maps, Thing, template_at, bound, named}
use Rattle.policy_set.specs.Maps.Thing.{template, policy}
use Rattle.policy_set.specs.Sound.{member}
use Rattle.policy_set.specs.Answers.{is_under, reverse_set, static_parts, id_of, row_for}

-- One thing fewer: the id named it, and is bound nowhere now; every other id names what it named.
pub record Removes (before after : Maps) (id : ℕ) (it : Thing) : Type 0 where
  pub named_it : named before id ≡ it
  pub unbound : bound after id ≡ false
  pub others : (k : ℕ) → (k ≢ id) → named after k ≡ named before k
  -- the id is in no reverse set, and the others in each keep their order
  pub in_no_reverse_set : (t : ℕ) → times member_id id (reverse_set t after) ≡ 0
  pub reverse_sets : (t : ℕ) → reverse_set t after ≡ erase member_id id (reverse_set t before)

-- One thing more: the id was bound nowhere, and names it now; every other id names what it named.
pub record Adds (before after : Maps) (id : ℕ) (it : Thing) (members : List Member) : Type 0 where
  pub unbound : bound before id ≡ false
  pub names_it : named after id ≡ it
  pub others : (k : ℕ) → (k ≢ id) → named after k ≡ named before k
  -- the new members stand last in their reverse sets
  pub reverse_sets : (t : ℕ) → reverse_set t after ≡ reverse_set t before ++ filter (is_under t) members

-- A refused call changes no map, but for 17, and no id names another thing.
pub record Refused (before after : Maps) (e : Refusal) : Type 0 where
  pub same : (number e ≢ 17) → after ≡ before
  pub names : (k : ℕ) → named after k ≡ named before k

-- The removal of a policy: what is handed back is gone; or no id names another thing, and but for 17 nothing has changed.
abbrev pub Removal : Maps → Maps → ℕ → Result Parts Refusal → Type 0
Removal before after id answer = MatchResult answer (λ p. Removes before after id (policy p)) (Refused before after)

-- The removal of a template: likewise.
abbrev pub TemplateRemoval : Maps → Maps → ℕ → Result Template Refusal → Type 0
TemplateRemoval before after id answer = MatchResult answer (λ t. Removes before after id (template t)) (Refused before after)

-- A link: the policy that is handed back is in force under the new id, last in its template's reverse set.
abbrev pub Linking : Maps → Maps → ℕ → ℕ → Result Parts Refusal → Type 0
Linking before after t new answer =
    MatchResult answer (λ p. Adds before after new (policy p) (record { policy = new; template = t } ∷ [])) (Refused before after)

-- A new template: its id names it.
abbrev pub TemplateAddition : Maps → Maps → Template → Result (Unit {0}) Refusal → Type 0
TemplateAddition before after t answer = MatchResult answer (λ _. Adds before after t.id (template t) []) (Refused before after)

-- A new static policy: its id names it, and it is its template's only member.
abbrev pub StaticAddition : Maps → Maps → Template → Result (Unit {0}) Refusal → Type 0
StaticAddition before after t answer =
    MatchResult answer (λ _. Adds before after t.id (policy (static_parts t)) (member (row_for (static_parts t)) ∷ [])) (Refused before after)

-- The record of a template that a set has, or the template where it has none.
abbrev pub kept_record : Option Template → Template → Template
kept_record None t = t
kept_record (Some s) t = s

-- A policy is granted.
pub record Grants (same : ℕ → ℕ → Bool) (before after : Maps) (p : Parts) : Type 0 where
  -- its id was bound nowhere, and names it now, with the record of its template that the set has
  pub unbound : bound before (id_of p) ≡ false
  pub names_it : named after (id_of p)
      ≡ policy record { template = kept_record (template_at before p.template.id) p.template; link = p.link; values = p.values }
  -- a record that the set has under its template's id is its template's equal
  pub equal : (s : Template) → template_at before p.template.id ≡ Some s → template_equal same s p.template ≡ true
  -- the template of a link comes along where its id was bound nowhere; else that id names what it named
  pub template_comes : (p.template.id ≢ id_of p) → bound before p.template.id ≡ false → named after p.template.id ≡ template p.template
  pub template_stays : (p.template.id ≢ id_of p) → bound before p.template.id ≡ true → named after p.template.id ≡ named before p.template.id
  -- every other id names what it named
  pub others : (k : ℕ) → (k ≢ id_of p) → (k ≢ p.template.id) → named after k ≡ named before k
  -- the policy stands last in its template's reverse set
  pub reverse_sets : (t : ℕ) → reverse_set t after ≡ reverse_set t before ++ filter (is_under t) (member (row_for p) ∷ [])

-- An addition: the policy is granted, or nothing has changed.
abbrev pub Addition : (ℕ → ℕ → Bool) → Maps → Maps → Parts → Result (Unit {0}) Refusal → Type 0
Addition same before after p answer = MatchResult answer (λ _. Grants same before after p) (Refused before after)
