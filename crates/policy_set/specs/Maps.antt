-- The three maps of a policy set, and what an id names.
use Rattle.std.specs.Prelude.{ℕ, Bool, false, ◌||◌, List, is_some, Some, None, Option}
use Rattle.std.specs.Bool.{then_some}
use Rattle.std.specs.Option.{option_map}
use Rattle.std.proofs.Common.{lit<}
use Rattle.policy.specs.declared.constraint.Effect.TheVariants.{Permit}
use Rattle.policy.specs.declared.constraint.PrincipalOrResourceConstraint.TheVariants as scope
use Rattle.policy.specs.declared.action.ActionIn.TheVariants as action
use Rattle.policy.specs.declared.template.Template.{Template}
use Rattle.policy.specs.Arity.{Parts}
use Rattle.policy_set.specs.declared.rows.PolicyRow.{PolicyRow}
use Rattle.policy_set.specs.declared.rows.Member.{Member}
use Rattle.policy_set.specs.Tables.{lookup}
use Rattle.policy_set.specs.Rows.{template_id, policy_id, member_id}

-- A policy set as three maps, each in its order. The reverse sets stand in one list: that of a template is the
-- members under it.
pub record Maps : Type 0 where
  pub templates : List Template
  pub policies : List PolicyRow
  pub members : List Member

-- The template with an id.
abbrev pub template_at : Maps → ℕ → Option Template
template_at m k = lookup template_id k m.templates

-- The row of the policy with an id.
abbrev pub row_at : Maps → ℕ → Option PolicyRow
row_at m k = lookup policy_id k m.policies

-- The member with an id.
abbrev pub member_at : Maps → ℕ → Option Member
member_at m k = lookup member_id k m.members

-- What may be there, changed.
abbrev pub changed : {X Y : Type 0} → (X → Y) → Option X → Option Y
changed f o = option_map f o

-- A test of what may be there.
abbrev pub passes : {X : Type 0} → (X → Bool) → Option X → Bool
passes test None = false
passes test (Some x) = test x

-- The template that stands in an unused place.
abbrev pub blank_template : Template
blank_template = record {
  id = 0;
  effect = Permit;
  principal = scope.Any;
  action = action.Any;
  resource = scope.Any;
  clause = None;
  slots = record { bits = 0; two_bits = lit< tt };
}

-- The template that is there, or the blank one.
abbrev pub present : Option Template → Template
present None = blank_template
present (Some t) = t

-- The link id of a row.
abbrev pub link_of : PolicyRow → Option ℕ
link_of r = then_some r.link r.id

-- The policy of a row, with its template whole.
abbrev pub whole : Maps → PolicyRow → Parts
whole m r = record { template = present (template_at m r.template); link = link_of r; values = r.values }

-- The policy that is in force under an id.
abbrev pub in_force : Maps → ℕ → Option Parts
in_force m k = changed (whole m) (row_at m k)

-- The id is a template's or a policy's.
abbrev pub bound : Maps → ℕ → Bool
bound m k = is_some (template_at m k) || is_some (row_at m k)

-- What an id names: nothing, a template with slots, or a policy, which is a link or a static policy.
pub data Thing : Type 0 where
  nothing : Thing
  template : Template → Thing
  policy : Parts → Thing

-- What an id names, by the template and the policy under it: with both it is a static policy.
abbrev pub thing : Option Template → Option Parts → Thing
thing None None = nothing
thing (Some t) None = template t
thing None (Some p) = policy p
thing (Some t) (Some p) = policy p

-- What an id names in a set.
abbrev pub named : Maps → ℕ → Thing
named m k = thing (template_at m k) (in_force m k)
