-- The laws of a set's listings.
use Rattle.std.proofs.Common.{filter, refl, ◌∙◌}
use Rattle.std.specs.List.{slice_get}
use Rattle.policy_set.specs.declared.set.PolicySet.{PolicySet}
use Rattle.policy_set.specs.Held.{rows_in}
use Rattle.policy_set.specs.Rows.{template_id, policy_id, member_id}
use Rattle.policy_set.specs.Sound.{has_slots}
use Rattle.policy_set.specs.Answers.{is_under}
use Rattle.policy_set.specs.Listing.{any_row, is_static, ListsPolicies, ListsStatic, ListsTemplates, ListsAllTemplates, ListsLinked}
use Rattle.policy_set.specs.Meaning.{maps_of}
use Rattle.policy_set.proofs.Listings.{lists, at_all, first_of_both}

module _ (s : PolicySet) where
  pub policies : ListsPolicies (maps_of s)
  policies = lists policy_id any_row (rows_in s.policies) _ s.policies.once
      (λ place. first_of_both (slice_get (rows_in s.policies) place) ∙ at_all policy_id (rows_in s.policies) place)

  pub static_policies : ListsStatic (maps_of s)
  static_policies = lists policy_id is_static (rows_in s.policies) _ s.policies.once
      (λ place. first_of_both (slice_get (filter is_static (rows_in s.policies)) place))

  pub templates : ListsTemplates (maps_of s)
  templates = lists template_id has_slots (rows_in s.templates) _ s.templates.once (λ place. refl)

  pub all_templates : ListsAllTemplates (maps_of s)
  all_templates = lists template_id any_row (rows_in s.templates) _ s.templates.once (at_all template_id (rows_in s.templates))

  pub linked_policies : (id : _) → ListsLinked (maps_of s) id
  linked_policies id = lists member_id (is_under id) (rows_in s.members) _ s.members.once (λ place. refl)
