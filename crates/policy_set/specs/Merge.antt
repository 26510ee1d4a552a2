-- Merging: which ids of the incoming set are renamed, and the maps of the live set afterwards.
use Rattle.std.specs.Prelude.{ℕ, ◌+◌, Bool, false, cond, not, ◌&&◌, ◌||◌, List, [], ◌∷◌, ◌++◌, is_some, Some, None, Option, ◌==◌, nat_eq}
use Rattle.policy.specs.declared.template.Template.{Template}
use Rattle.policy.specs.Equality.{option_equal, template_equal, values_equal}
use Rattle.policy.specs.Arity.{Parts}
use Rattle.policy_set.specs.declared.rows.PolicyRow.{PolicyRow}
use Rattle.policy_set.specs.declared.rows.Member.{Member}
use Rattle.policy_set.specs.declared.rows.Renaming.{Renaming}
use Rattle.policy_set.specs.Tables.{one_if, lookup, put_all}
use Rattle.policy_set.specs.Rows.{template_id, policy_id, member_id}
use Rattle.policy_set.specs.Maps.{Maps, template_at, row_at, changed, in_force, Thing}
use Rattle.policy_set.specs.Maps.Thing.{nothing, template, policy}
use Rattle.policy_set.specs.Sound.{has_slots}
use Rattle.policy_set.specs.Answers.{other_template}

-- Two policies are equal when their templates, link ids and values are. Clauses are compared by `same`, here and below.
abbrev pub parts_equal : (ℕ → ℕ → Bool) → Parts → Parts → Bool
parts_equal same p q =
    template_equal same p.template q.template
    && (option_equal nat_eq p.link q.link && values_equal p.values q.values)

-- Two ids name equal things: two equal templates or two equal policies.
abbrev pub things_equal : (ℕ → ℕ → Bool) → Thing → Thing → Bool
things_equal same nothing nothing = false
things_equal same nothing (template t) = false
things_equal same nothing (policy q) = false
things_equal same (template s) nothing = false
things_equal same (template s) (template t) = template_equal same s t
things_equal same (template s) (policy q) = false
things_equal same (policy p) nothing = false
things_equal same (policy p) (template t) = false
things_equal same (policy p) (policy q) = parts_equal same p q

-- Both are there, and they are unequal.
abbrev pub unequal : {X : Type 0} → (X → X → Bool) → Option X → Option X → Bool
unequal equal None b = false
unequal equal (Some a) None = false
unequal equal (Some a) (Some b) = not (equal a b)

-- Unequal policies are in force under the policy's id.
abbrev pub unequal_policy : (ℕ → ℕ → Bool) → Maps → Maps → PolicyRow → Bool
unequal_policy same live incoming r = unequal (parts_equal same) (in_force live r.id) (in_force incoming r.id)

-- The template has slots, and a policy is live under its id.
abbrev pub template_on_policy : Maps → Template → Bool
template_on_policy live t = has_slots t && is_some (row_at live t.id)

-- The policy is a link, and a template is live under its id.
abbrev pub link_on_template : Maps → PolicyRow → Bool
link_on_template live r = r.link && is_some (template_at live r.id)

-- An id is in a list of ids.
abbrev pub among : ℕ → List ℕ → Bool
among k [] = false
among k (x ∷ xs) = x == k || among k xs

-- An id that is wanted and not there yet is appended.
abbrev pub noted : Bool → ℕ → List ℕ → List ℕ
noted wanted k ids = cond (wanted && not (among k ids)) (ids ++ k ∷ []) ids

-- One pass over rows: the key of each that passes the test is noted.
abbrev pub gather : {X : Type 0} → (X → ℕ) → (X → Bool) → List ℕ → List X → List ℕ
gather key test ids [] = ids
gather key test ids (x ∷ xs) = gather key test (noted (test x) (key x) ids) xs

-- The ids to rename, by four passes over the incoming set: templates unequal under one id; policies likewise;
-- templates with slots against live policies; links against live templates.
abbrev pub gathered : (ℕ → ℕ → Bool) → Maps → Maps → List ℕ
gathered same live incoming =
    gather policy_id (link_on_template live)
    (gather template_id (template_on_policy live)
    (gather policy_id (unequal_policy same live incoming)
    (gather template_id (other_template same live) [] incoming.templates)
    incoming.policies)
    incoming.templates)
    incoming.policies

-- The id that is renamed.
abbrev pub old_id : Renaming → ℕ
old_id p = p.old

-- The id that it goes in under.
abbrev pub new_id : Renaming → ℕ
new_id p = p.new

-- The new id of a pair, or the id itself where there is no pair.
abbrev pub new_or : ℕ → Option Renaming → ℕ
new_or i None = i
new_or i (Some p) = p.new

-- The final id of an incoming id: its new id if it is renamed, else itself.
abbrev pub final : List Renaming → ℕ → ℕ
final pairs i = new_or i (lookup old_id i pairs)

-- The old id of a pair, or what is given where there is no pair.
abbrev pub old_or : Option ℕ → Option Renaming → Option ℕ
old_or o None = o
old_or o (Some p) = Some p.old

-- The incoming id that a final id can come from: none where the id is renamed and is not a new id itself.
abbrev pub origin : List Renaming → ℕ → Option ℕ
origin pairs k = old_or (cond (is_some (lookup old_id k pairs)) None (Some k)) (lookup new_id k pairs)

-- A template under other ids: all fields stay but its id.
abbrev pub renamed_template : (ℕ → ℕ) → Template → Template
renamed_template f t = record {
  id = f t.id;
  effect = t.effect;
  principal = t.principal;
  action = t.action;
  resource = t.resource;
  clause = t.clause;
  slots = t.slots;
}

-- A policy's row under other ids.
abbrev pub renamed_row : (ℕ → ℕ) → PolicyRow → PolicyRow
renamed_row f r = record { id = f r.id; template = f r.template; link = r.link; values = r.values }

-- A member under other ids.
abbrev pub renamed_member : (ℕ → ℕ) → Member → Member
renamed_member f m = record { policy = f m.policy; template = f m.template }

-- A policy under other ids: its template's id and its link id.
abbrev pub renamed_policy : (ℕ → ℕ) → Parts → Parts
renamed_policy f p = record { template = renamed_template f p.template; link = changed f p.link; values = p.values }

-- A thing under other ids.
abbrev pub renamed_thing : (ℕ → ℕ) → Thing → Thing
renamed_thing f nothing = nothing
renamed_thing f (template t) = template (renamed_template f t)
renamed_thing f (policy p) = policy (renamed_policy f p)

-- The live maps after a merge: each incoming row goes in last, under its final ids, and a row with its id goes out.
abbrev pub merged : (ℕ → ℕ) → Maps → Maps → Maps
merged f live incoming = record {
  templates = put_all template_id (renamed_template f) live.templates incoming.templates;
  policies = put_all policy_id (renamed_row f) live.policies incoming.policies;
  members = put_all member_id (renamed_member f) live.members incoming.members;
}

-- A row with the key is a row more: its id is among those to rename, or is not live.
abbrev pub is_more : {X : Type 0} → (X → ℕ) → List ℕ → List X → ℕ → Bool
is_more key ids live k = among k ids || not (is_some (lookup key k live))

-- How many incoming rows are rows more.
abbrev pub rows_more : {X : Type 0} → (X → ℕ) → List ℕ → List X → List X → ℕ
rows_more key ids live [] = 0
rows_more key ids live (x ∷ xs) = one_if (is_more key ids live (key x)) + rows_more key ids live xs
