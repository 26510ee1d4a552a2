-- Listings: what stands at each place, counted from 0. `count` is the name book's count.
use Rattle.std.specs.Prelude.{◌≡◌, ℕ, Bool, true, not, List, [], ◌∷◌, is_some, Some, Ok, filter, Option, Result}
use Rattle.std.specs.List.{slice_get}
use Rattle.refusals.specs.declared.refusal.Refusal.{Refusal}
use Rattle.refusals.specs.declared.refusal.Refusal.TheVariants.{MissingTemplate}
use Rattle.policy_set.specs.declared.rows.PolicyRow.{PolicyRow}
use Rattle.policy_set.specs.Tables.{lookup}
use Rattle.policy_set.specs.Rows.{template_id, policy_id, member_id}
use Rattle.policy_set.specs.Maps.{Maps, changed, template_at}
use Rattle.policy_set.specs.Sound.{has_slots}
use Rattle.policy_set.specs.Answers.{refuse_if, is_under, reverse_set}
use Rattle.policy.specs.Known.{and_then, names_known}

-- A policy that is no link.
abbrev pub is_static : PolicyRow → Bool
is_static r = not r.link

-- A policy's id and its template's.
abbrev pub both_ids : PolicyRow → ℕ × ℕ
both_ids r = (r.id, r.template)

-- `policies`: all policies in order.
abbrev pub policies_answer : Maps → ℕ → Option (ℕ × ℕ)
policies_answer m place = changed both_ids (slice_get m.policies place)

-- `static_policies`: the static ones in order.
abbrev pub static_policies_answer : Maps → ℕ → Option (ℕ × ℕ)
static_policies_answer m place = changed both_ids (slice_get (filter is_static m.policies) place)

-- `templates`: those with slots, in order.
abbrev pub templates_answer : Maps → ℕ → Option ℕ
templates_answer m place = changed template_id (slice_get (filter has_slots m.templates) place)

-- `all_templates`: all, the bodies of static policies among them, in order.
abbrev pub all_templates_answer : Maps → ℕ → Option ℕ
all_templates_answer m place = changed template_id (slice_get m.templates place)

-- The policy at a place of a template's reverse set.
abbrev pub linked_at : Maps → ℕ → ℕ → Option ℕ
linked_at m id place = changed member_id (slice_get (reverse_set id m) place)

-- `get_linked_policies`: 1 and 21; else what stands at the place.
abbrev pub get_linked_policies_answer : ℕ → Maps → ℕ → ℕ → Result (Option ℕ) Refusal
get_linked_policies_answer count m id place =
    and_then (names_known count (id ∷ []))
    (and_then (refuse_if (not (is_some (template_at m id))) (MissingTemplate id)) (Ok (linked_at m id place)))

-- The id of a pair of ids.
abbrev pub first_id : ℕ × ℕ → ℕ
first_id p = p.0

-- The law of a listing: it lists the ids of exactly the rows that the test passes, each at one place.
pub record Lists {X : Type 0} (key : X → ℕ) (test : X → Bool) (rows : List X) (at : ℕ → Option ℕ) : Type 0 where
  -- every such row is listed
  pub every : (k : ℕ) (x : X) → lookup key k rows ≡ Some x → test x ≡ true → (place : ℕ) × (at place ≡ Some k)
  -- and no other
  pub only : (place k : ℕ) → at place ≡ Some k → (x : X) × (lookup key k rows ≡ Some x) × (test x ≡ true)
  -- at one place only
  pub once : (p q k : ℕ) → at p ≡ Some k → at q ≡ Some k → p ≡ q

-- Any row.
abbrev pub any_row : {X : Type 0} → X → Bool
any_row x = true

-- The law for all policies.
abbrev pub ListsPolicies : Maps → Type 0
ListsPolicies m = Lists policy_id any_row m.policies (λ place. changed first_id (policies_answer m place))

-- The law for the static policies.
abbrev pub ListsStatic : Maps → Type 0
ListsStatic m = Lists policy_id is_static m.policies (λ place. changed first_id (static_policies_answer m place))

-- The law for the templates with slots.
abbrev pub ListsTemplates : Maps → Type 0
ListsTemplates m = Lists template_id has_slots m.templates (templates_answer m)

-- The law for all templates.
abbrev pub ListsAllTemplates : Maps → Type 0
ListsAllTemplates m = Lists template_id any_row m.templates (all_templates_answer m)

-- The law for the policies of one template: those of the members that stand under it.
abbrev pub ListsLinked : Maps → ℕ → Type 0
ListsLinked m id = Lists member_id (is_under id) m.members (linked_at m id)
