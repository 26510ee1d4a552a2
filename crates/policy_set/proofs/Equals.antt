-- Equality of templates and of policies, field by field.
use Rattle.std.proofs.Common.{◌≡◌, ℕ, Bool, true, false, eqb, Some, None, sym, ap, ◌∙◌}
use Rattle.std.proofs.lemmas.Bool.{eqb-true, eq-eqb, and_parts, and_from}
use Rattle.std.specs.Bool.{then_some}
use Rattle.policy.specs.declared.template.Template.{Template}
use Rattle.policy.specs.Equality.{effect_equal, scope_equal, scopes_equal, action_equal, option_equal, template_equal, values_equal}
use Rattle.policy.proofs.Deciding.{numbers, effects, options, scopes, actions, environments}
use Rattle.policy.specs.Arity.{Parts}
use Rattle.policy_set.specs.declared.rows.PolicyRow.{PolicyRow}
use Rattle.policy_set.specs.Maps.{changed, link_of}
use Rattle.policy_set.specs.Merge.{parts_equal, renamed_template, renamed_policy}
use Rattle.policy_set.proofs.Lookups.{no_some}

pub record SameTemplate (same : ℕ → ℕ → Bool) (s t : Template) : Type 0 where
  pub id : s.id ≡ t.id
  pub effect : s.effect ≡ t.effect
  pub principal : s.principal ≡ t.principal
  pub action : s.action ≡ t.action
  pub resource : s.resource ≡ t.resource
  pub clause : option_equal same s.clause t.clause ≡ true
  pub slots : s.slots.bits ≡ t.slots.bits

pub record SamePolicy (same : ℕ → ℕ → Bool) (p q : Parts) : Type 0 where
  pub template : SameTemplate same p.template q.template
  pub link : p.link ≡ q.link
  pub values : p.values ≡ q.values

module _ (same : ℕ → ℕ → Bool) where
  pub same_template : (s t : Template) → template_equal same s t ≡ true → SameTemplate same s t
  same_template s t h =
      let p = and_parts (eqb s.id t.id) _ h in
      let q = and_parts (effect_equal s.effect t.effect) _ p.1 in
      let r = and_parts (scopes_equal s t) _ q.1 in
      let w = and_parts (option_equal same s.clause t.clause) (eqb s.slots.bits t.slots.bits) r.1 in
      let x = and_parts (scope_equal s.principal t.principal) _ r.0 in
      let y = and_parts (action_equal s.action t.action) (scope_equal s.resource t.resource) x.1 in
      record {
        id = eqb-true s.id t.id p.0;
        effect = effects.only s.effect t.effect q.0;
        principal = scopes.only s.principal t.principal x.0;
        action = actions.only s.action t.action y.0;
        resource = scopes.only s.resource t.resource y.1;
        clause = w.0;
        slots = eqb-true s.slots.bits t.slots.bits w.1;
      }

  pub is_template_equal : (s t : Template) → SameTemplate same s t → template_equal same s t ≡ true
  is_template_equal s t e =
      and_from (eqb s.id t.id) _ (eq-eqb s.id t.id e.id)
      (and_from (effect_equal s.effect t.effect) _ (effects.whenever s.effect t.effect e.effect)
      (and_from (scopes_equal s t) _
      (and_from (scope_equal s.principal t.principal) _ (scopes.whenever s.principal t.principal e.principal)
      (and_from (action_equal s.action t.action) (scope_equal s.resource t.resource)
      (actions.whenever s.action t.action e.action)
      (scopes.whenever s.resource t.resource e.resource)))
      (and_from (option_equal same s.clause t.clause) (eqb s.slots.bits t.slots.bits) e.clause
      (eq-eqb s.slots.bits t.slots.bits e.slots))))

  pub same_policy : (p q : Parts) → parts_equal same p q ≡ true → SamePolicy same p q
  same_policy p q h =
      let u = and_parts (template_equal same p.template q.template) _ h in
      let v = and_parts (option_equal eqb p.link q.link) (values_equal p.values q.values) u.1 in
      record {
        template = same_template p.template q.template u.0;
        link = (options eqb numbers).only p.link q.link v.0;
        values = environments.only p.values q.values v.1;
      }

  pub is_parts_equal : (p q : Parts) → SamePolicy same p q → parts_equal same p q ≡ true
  is_parts_equal p q e =
      and_from (template_equal same p.template q.template) _ (is_template_equal p.template q.template e.template)
      (and_from (option_equal eqb p.link q.link) (values_equal p.values q.values)
      ((options eqb numbers).whenever p.link q.link e.link)
      (environments.whenever p.values q.values e.values))

  -- an equal of a template keeps its ids under a renaming that keeps the template's
  pub same_renamed : (f : ℕ → ℕ) (s t : Template) → f t.id ≡ t.id → SameTemplate same s t → SameTemplate same s (renamed_template f t)
  same_renamed f s t e h = record {
    id = h.id ∙ sym e;
    effect = h.effect;
    principal = h.principal;
    action = h.action;
    resource = h.resource;
    clause = h.clause;
    slots = h.slots;
  }

  -- equal policies are equal under one renaming
  pub both_renamed : (f : ℕ → ℕ) (p q : Parts) → SamePolicy same p q → SamePolicy same (renamed_policy f p) (renamed_policy f q)
  both_renamed f p q h = record {
    template = record {
      id = ap f h.template.id;
      effect = h.template.effect;
      principal = h.template.principal;
      action = h.template.action;
      resource = h.template.resource;
      clause = h.template.clause;
      slots = h.template.slots;
    };
    link = ap (changed f) h.link;
    values = h.values;
  }

-- a link has its id as link id, and a static policy none
pub link_some : (r : PolicyRow) → r.link ≡ true → link_of r ≡ Some r.id
link_some r e = ap (λ b. then_some b r.id) e

pub link_none : (r : PolicyRow) → r.link ≡ false → link_of r ≡ None
link_none r e = ap (λ b. then_some b r.id) e

-- equal link ids are both there or both absent
pub linked_both : {R : Type 0} (q r : PolicyRow) → link_of q ≡ link_of r → q.link ≡ true → r.link ≡ false → R
linked_both q r e t f = no_some q.id (sym (link_none r f) ∙ (sym e ∙ link_some q t))
