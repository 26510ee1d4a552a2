-- What every policy set keeps: each id names one thing, and the reverse sets hold exactly the policies.
use Rattle.std.specs.Prelude.{◌≡◌, ℕ, Bool, true, false, not, ◌&&◌, Some, None, Option, ◌==◌, ◌≢◌, nat_eq}
use Rattle.policy.specs.Binding.{value_slots}
pub use Rattle.policy.specs.Filled.{scopes_within}
use Rattle.policy.specs.declared.template.Template.{Template}
use Rattle.policy_set.specs.declared.rows.PolicyRow.{PolicyRow}
use Rattle.policy_set.specs.declared.rows.Member.{Member}
use Rattle.policy_set.specs.Tables.{Once}
use Rattle.policy_set.specs.Rows.{template_id, policy_id, member_id}
use Rattle.policy_set.specs.Maps.{Maps, template_at, row_at, member_at, changed, passes}

-- The template has slots.
abbrev pub has_slots : Template → Bool
has_slots t = not (t.slots.bits == 0)

-- What stands under one id in the templates and in the policies is one thing: nothing; a template with slots;
-- a link of a template with slots; or a static policy, whose template has its id and no slots.
abbrev pub one_thing : Maps → Option Template → Option PolicyRow → Bool
one_thing m None None = true
one_thing m (Some t) None = has_slots t
one_thing m None (Some r) = r.link && passes has_slots (template_at m r.template)
one_thing m (Some t) (Some r) = not r.link && (r.template == t.id && not (has_slots t))

-- The values of a policy are those of its template's slots.
abbrev pub valued : Maps → Option PolicyRow → Bool
valued m None = true
valued m (Some r) = passes (λ t. nat_eq (value_slots r.values) t.slots.bits) (template_at m r.template)

-- The scopes of a template that may be absent keep to its slots.
abbrev pub scoped : Option Template → Bool
scoped None = true
scoped (Some t) = scopes_within t

-- A member is a policy, under that policy's template.
abbrev pub same_member : Option Member → Option PolicyRow → Bool
same_member None None = true
same_member None (Some r) = false
same_member (Some x) None = false
same_member (Some x) (Some r) = x.template == r.template

-- Each id names one thing.
abbrev pub NamesOne : Maps → Type 0
NamesOne m = (k : ℕ) → one_thing m (template_at m k) (row_at m k) ≡ true

-- Each policy has values for exactly its template's slots.
abbrev pub Valued : Maps → Type 0
Valued m = (k : ℕ) → valued m (row_at m k) ≡ true

-- Each template's scopes keep to its slots.
abbrev pub Scoped : Maps → Type 0
Scoped m = (k : ℕ) → scoped (template_at m k) ≡ true

-- The members are exactly the policies, each under its template.
abbrev pub SameMembers : Maps → Type 0
SameMembers m = (k : ℕ) → same_member (member_at m k) (row_at m k) ≡ true

-- The member that a policy is.
abbrev pub member : PolicyRow → Member
member r = record { policy = r.id; template = r.template }

-- What every policy set keeps, in words.
pub record Sound (m : Maps) : Type 0 where
  pub templates_once : Once template_id m.templates
  pub policies_once : Once policy_id m.policies
  pub members_once : Once member_id m.members
  -- an id among the templates alone is that of a template with slots
  pub alone : (k : ℕ) (t : Template) → template_at m k ≡ Some t → row_at m k ≡ None → t.slots.bits ≢ 0
  -- an id among both is that of a static policy
  pub static : (k : ℕ) (t : Template) (r : PolicyRow) → template_at m k ≡ Some t → row_at m k ≡ Some r
      → (r.template ≡ k) × (r.link ≡ false) × (t.slots.bits ≡ 0)
  -- an id among the policies alone is that of a link of a template with slots
  pub link : (k : ℕ) (r : PolicyRow) → template_at m k ≡ None → row_at m k ≡ Some r
      → (r.link ≡ true) × ((t : Template) × (template_at m r.template ≡ Some t) × (t.slots.bits ≢ 0))
  -- the members are the policies, each under its template
  pub members : (k : ℕ) → member_at m k ≡ changed member (row_at m k)
  -- each policy has values for exactly its template's slots
  pub values : (k : ℕ) (r : PolicyRow) (t : Template) → row_at m k ≡ Some r → template_at m r.template ≡ Some t
      → value_slots r.values ≡ t.slots.bits
  -- each template's scopes keep to its slots
  pub scopes : (k : ℕ) (t : Template) → template_at m k ≡ Some t → scopes_within t ≡ true
