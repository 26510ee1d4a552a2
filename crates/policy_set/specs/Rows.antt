-- The keys of the rows.
use Rattle.std.specs.Prelude.{ℕ}
use Rattle.policy.specs.declared.template.Template.{Template}
use Rattle.policy_set.specs.declared.rows.PolicyRow.{PolicyRow}
use Rattle.policy_set.specs.declared.rows.Member.{Member}

-- The id of a template.
abbrev pub template_id : Template → ℕ
template_id t = t.id

-- The id of a policy.
abbrev pub policy_id : PolicyRow → ℕ
policy_id r = r.id

-- The id of the policy that is a member.
abbrev pub member_id : Member → ℕ
member_id m = m.policy
