-- What each call on a policy set answers, and the maps after it: `count` is the name book's count, `cs` are the clauses of
-- the clause book, `same` is its test for equal contents.
use Rattle.std.specs.Prelude.{ℕ, Bool, true, false, cond, not, ◌&&◌, List, [], ◌∷◌, ◌++◌, is_some, Some, None, Ok, Err, filter, Option, Result, ◌==◌}
use Rattle.refusals.specs.declared.refusal.Refusal.{Refusal}
use Rattle.refusals.specs.declared.refusal.Refusal.TheVariants.{SlotCacheMismatch, Occupied, NoSuchTemplate, PolicyIdConflict, NotLinkError, UnlinkingError, RemovePolicyNoLinkError, RemovePolicyNoTemplateError, NotTemplateError, RemoveTemplateNoTemplateError, RemoveTemplateWithLinksError, Slotless, Crossed, Full}
use Rattle.refusals.specs.declared.refusal.Table.TheVariants.{Templates, Policies}
use Rattle.policy.specs.Known.{and_then, names_known, values_names, template_known, policy_known}
use Rattle.policy.specs.Equality.{template_equal}
use Rattle.policy.specs.Mentions.{condition_slots}
use Rattle.clauses.specs.Book.{Clause}
use Rattle.policy.specs.Arity.{Parts, parts, bindable}
use Rattle.policy.specs.declared.bound.Policy.{Policy}
use Rattle.policy.specs.declared.values.SlotEnv.{SlotEnv}
use Rattle.policy.specs.declared.template.Template.{Template}
use Rattle.policy_set.specs.declared.rows.PolicyRow.{PolicyRow}
use Rattle.policy_set.specs.declared.rows.Member.{Member}
use Rattle.policy_set.specs.Tables.{erase, moved_last, or_inserted, has_room}
use Rattle.policy_set.specs.Rows.{template_id, policy_id, member_id}
use Rattle.policy_set.specs.Maps.{Maps, template_at, row_at, passes, in_force, bound}
use Rattle.policy_set.specs.Sound.{has_slots, member}

-- A refusal where a test says yes.
abbrev pub refuse_if : Bool → Refusal → Result (Unit {0}) Refusal
refuse_if b e = cond b (Err e) (Ok tt)

-- What is there goes on; else a refusal.
abbrev pub found_then : {X Y : Type 0} → Refusal → Option X → (X → Result Y Refusal) → Result Y Refusal
found_then e None answer = Err e
found_then e (Some x) answer = answer x

-- The maps after a call that changes them only where it accepts.
abbrev pub if_accepted : {X : Type 0} → Result X Refusal → Maps → Maps → Maps
if_accepted (Ok x) after before = after
if_accepted (Err e) after before = before

-- The member is one of the template.
abbrev pub is_under : ℕ → Member → Bool
is_under t x = x.template == t

-- The reverse set of a template: the members under it, in order.
abbrev pub reverse_set : ℕ → Maps → List Member
reverse_set t m = filter (is_under t) m.members

-- `new`: no rows in any map.
abbrev pub empty : Maps
empty = record { templates = []; policies = []; members = [] }

-- Whether a list is empty.
abbrev pub no_rows : {X : Type 0} → List X → Bool
no_rows [] = true
no_rows (x ∷ xs) = false

-- `is_empty`: neither a template nor a policy.
abbrev pub is_empty : Maps → Bool
is_empty m = no_rows m.templates && no_rows m.policies

-- `get`: the policy of an id.
abbrev pub get_answer : ℕ → Maps → ℕ → Result (Option Parts) Refusal
get_answer count m id = and_then (names_known count (id ∷ [])) (Ok (in_force m id))

-- `get_template`: the template of an id.
abbrev pub get_template_answer : ℕ → Maps → ℕ → Result (Option Template) Refusal
get_template_answer count m id = and_then (names_known count (id ∷ [])) (Ok (template_at m id))

-- Refusal 9 of a template whose slots are not its condition's.
abbrev pub slots_cached : {C : Type 0} → List (Clause C) → Template → Result (Unit {0}) Refusal
slots_cached cs t = refuse_if (not (t.slots.bits == (condition_slots cs t).bits)) (SlotCacheMismatch t.id)

-- What a template and a static body are refused for alike: 1 and 2, 9 and 10.
abbrev pub can_enter_answer : {C : Type 0} → ℕ → List (Clause C) → Maps → Template → Result (Unit {0}) Refusal
can_enter_answer count cs m t = and_then (template_known count cs t) (and_then (slots_cached cs t) (refuse_if (bound m t.id) (Occupied t.id)))

-- `add_template`: 1 and 2, 9, 10, 25 and 27.
abbrev pub add_template_answer : {C : Type 0} → ℕ → List (Clause C) → Maps → Template → Result (Unit {0}) Refusal
add_template_answer count cs m t =
    and_then (can_enter_answer count cs m t)
    (and_then (refuse_if (not (has_slots t)) (Slotless t.id))
    (refuse_if (not (has_room 64 m.templates)) (Full Templates)))

-- The maps with one template more, last among the templates.
abbrev pub with_template : Template → Maps → Maps
with_template t m = record { templates = m.templates ++ t ∷ []; policies = m.policies; members = m.members }

-- The maps after `add_template`.
abbrev pub add_template_after : {C : Type 0} → ℕ → List (Clause C) → Maps → Template → Maps
add_template_after count cs m t = if_accepted (add_template_answer count cs m t) (with_template t m) m

-- The maps with one policy more, last among the policies and among the members.
abbrev pub with_policy : PolicyRow → Maps → Maps
with_policy r m = record {
  templates = m.templates;
  policies = m.policies ++ r ∷ [];
  members = m.members ++ member r ∷ [];
}

-- `add_static`: 1 and 2, 9, 10 and 27.
abbrev pub add_static_answer : {C : Type 0} → ℕ → List (Clause C) → Maps → Template → Result (Unit {0}) Refusal
add_static_answer count cs m t =
    and_then (can_enter_answer count cs m t)
    (and_then (refuse_if (not (has_room 64 m.templates)) (Full Templates))
    (refuse_if (not (has_room 256 m.policies)) (Full Policies)))

-- The policy that a static policy is.
abbrev pub static_parts : Template → Parts
static_parts t = record { template = t; link = None; values = record { principal = None; resource = None } }

-- The id of a policy: its link id, or its template's.
abbrev pub id_of : Parts → ℕ
id_of p = elim p.link [ None ↦ p.template.id | Some id ↦ id ]

-- The row of a policy.
abbrev pub row_for : Parts → PolicyRow
row_for p = record { id = id_of p; template = p.template.id; link = is_some p.link; values = p.values }

-- The maps after `add_static`.
abbrev pub add_static_after : {C : Type 0} → ℕ → List (Clause C) → Maps → Template → Maps
add_static_after count cs m t = if_accepted (add_static_answer count cs m t) (with_policy (row_for (static_parts t)) (with_template t m)) m

-- An unequal template has the template's id; clauses are compared by `same`.
abbrev pub other_template : (ℕ → ℕ → Bool) → Maps → Template → Bool
other_template same m t = passes (λ s. not (template_equal same s t)) (template_at m t.id)

-- Of a link, 25 and 26: the link id is its template's; a new template's id is a policy's; the link id is a template's.
abbrev pub link_fits : Maps → Template → Option ℕ → Result (Unit {0}) Refusal
link_fits m t None = Ok tt
link_fits m t (Some id) =
    and_then (refuse_if (not (has_slots t)) (Slotless t.id))
    (and_then (refuse_if (id == t.id) (Crossed id))
    (and_then (refuse_if (not (is_some (template_at m t.id)) && is_some (row_at m t.id)) (Crossed t.id))
    (refuse_if (is_some (template_at m id)) (Crossed id))))

-- 27: a new template and a policy have a place.
abbrev pub rows_fit : Maps → Template → Result (Unit {0}) Refusal
rows_fit m t =
    and_then (refuse_if (not (is_some (template_at m t.id)) && not (has_room 64 m.templates)) (Full Templates))
    (refuse_if (not (has_room 256 m.policies)) (Full Policies))

-- `add`: 1 and 2, 9, 10 of the template and of the policy, 25 and 26 of a link, 27.
abbrev pub add_answer : {C : Type 0} → ℕ → List (Clause C) → (ℕ → ℕ → Bool) → Maps → Policy → Result (Unit {0}) Refusal
add_answer count cs same m p =
    and_then (policy_known count cs p)
    (and_then (slots_cached cs p.template)
    (and_then (refuse_if (other_template same m p.template) (Occupied p.template.id))
    (and_then (refuse_if (is_some (row_at m (id_of (parts p)))) (Occupied (id_of (parts p))))
    (and_then (link_fits m p.template p.link)
    (rows_fit m p.template)))))

-- The maps with a template, last among the templates where its id is new.
abbrev pub with_or_inserted : Template → Maps → Maps
with_or_inserted t m = record { templates = or_inserted template_id t m.templates; policies = m.policies; members = m.members }

-- The maps after `add`.
abbrev pub add_after : {C : Type 0} → ℕ → List (Clause C) → (ℕ → ℕ → Bool) → Maps → Policy → Maps
add_after count cs same m p = if_accepted (add_answer count cs same m p) (with_policy (row_for (parts p)) (with_or_inserted p.template m)) m

-- The link of a template: 12, 13, 25 and 27; else the new policy.
abbrev pub linked_answer : Maps → ℕ → SlotEnv → Template → Result Parts Refusal
linked_answer m new values t =
    and_then (bindable t.slots values)
    (and_then (refuse_if (bound m new) (PolicyIdConflict new))
    (and_then (refuse_if (not (has_slots t)) (Slotless t.id))
    (and_then (refuse_if (not (has_room 256 m.policies)) (Full Policies))
    (Ok (record { template = t; link = Some new; values = values })))))

-- `link`: 1 and 11, then those of the link; else the new policy.
abbrev pub link_answer : ℕ → Maps → ℕ → ℕ → SlotEnv → Result Parts Refusal
link_answer count m template new values =
    and_then (names_known count (template ∷ new ∷ values_names values))
    (found_then (NoSuchTemplate template) (template_at m template) (linked_answer m new values))

-- The row of a link.
abbrev pub link_row : ℕ → ℕ → SlotEnv → PolicyRow
link_row template new values = record { id = new; template = template; link = true; values = values }

-- The maps after `link`.
abbrev pub link_after : ℕ → Maps → ℕ → ℕ → SlotEnv → Maps
link_after count m template new values = if_accepted (link_answer count m template new values) (with_policy (link_row template new values) m) m

-- `unlink`: 1, 14 and 15; else the policy.
abbrev pub unlink_answer : ℕ → Maps → ℕ → Result Parts Refusal
unlink_answer count m id =
    and_then (names_known count (id ∷ []))
    (and_then (refuse_if (is_some (template_at m id)) (NotLinkError id))
    (found_then (UnlinkingError id) (in_force m id) Ok))

-- The maps without a policy.
abbrev pub without_policy : ℕ → Maps → Maps
without_policy id m = record {
  templates = m.templates;
  policies = erase policy_id id m.policies;
  members = erase member_id id m.members;
}

-- The maps after `unlink`.
abbrev pub unlink_after : ℕ → Maps → ℕ → Maps
unlink_after count m id = if_accepted (unlink_answer count m id) (without_policy id m) m

-- A policy whose id is a template's too: 16 and 17 where it is not one.
abbrev pub static_policy : ℕ → Option Parts → Bool → Result Parts Refusal
static_policy id None in-templates = Err (RemovePolicyNoLinkError id)
static_policy id (Some p) in-templates = cond in-templates (Ok p) (Err (RemovePolicyNoTemplateError id))

-- `remove_static`: 1, 16 and 17; else the policy.
abbrev pub remove_static_answer : ℕ → Maps → ℕ → Result Parts Refusal
remove_static_answer count m id = and_then (names_known count (id ∷ [])) (static_policy id (in_force m id) (is_some (template_at m id)))

-- The maps without a template.
abbrev pub without_template : ℕ → Maps → Maps
without_template id m = record { templates = erase template_id id m.templates; policies = m.policies; members = m.members }

-- The maps with a policy moved last.
abbrev pub policy_last : ℕ → Maps → Maps
policy_last id m = record { templates = m.templates; policies = moved_last policy_id id m.policies; members = m.members }

-- What removing a static policy leaves. A link is put back, 17, and so stands last among the policies.
abbrev pub static_removed : ℕ → Option Parts → Bool → Maps → Maps
static_removed id None in-templates m = m
static_removed id (Some p) in-templates m = cond in-templates (without_template id (without_policy id m)) (policy_last id m)

-- The maps after `remove_static`: they change at 17 too.
abbrev pub remove_static_after : ℕ → Maps → ℕ → Maps
remove_static_after count m id = if_accepted (names_known count (id ∷ [])) (static_removed id (in_force m id) (is_some (template_at m id)) m) m

-- `remove_template`: 1, 18, 19 and 20; else the template.
abbrev pub remove_template_answer : ℕ → Maps → ℕ → Result Template Refusal
remove_template_answer count m id =
    and_then (names_known count (id ∷ []))
    (and_then (refuse_if (is_some (row_at m id)) (NotTemplateError id))
    (found_then (RemoveTemplateNoTemplateError id) (template_at m id)
    (λ t. cond (no_rows (reverse_set id m)) (Ok t) (Err (RemoveTemplateWithLinksError id)))))

-- The maps after `remove_template`.
abbrev pub remove_template_after : ℕ → Maps → ℕ → Maps
remove_template_after count m id = if_accepted (remove_template_answer count m id) (without_template id m) m
