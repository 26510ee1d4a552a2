use Rattle.std.proofs.Common.{◌≡◌, ℕ, List, ◌∷◌, ◌++◌, Result, ap, ◌∙◌}
use Rattle.refusals.specs.declared.refusal.Refusal.{Refusal}
use Rattle.names.specs.declared.entity.EntityUID.{EntityUID}
use Rattle.clauses.specs.NameChecks.{name_check}
use Rattle.policy.specs.declared.template.Template.{Template}
use Rattle.policy.specs.Scopes.{actions_of}
use Rattle.policy.specs.Known.{and_then, names_known, scope_names, entities_names, template_names}
use Rattle.policy.proofs.Testing.{broke, stops, passes, turn_three}
use Rattle.policy.proofs.known.known_names.Goals as goal

tested : (count : ℕ) (t : Template) (es : List EntityUID) → es ≡ actions_of t.action
    → and_then (name_check count t.id)
    (and_then (names_known count (scope_names t.principal))
    (and_then (names_known count (entities_names es)) (names_known count (scope_names t.resource))))
    ≡ names_known count (template_names t)
tested count t es e =
    ap (λ (r : Result (Unit {0}) Refusal). and_then (name_check count t.id) r)
    (turn_three (name_check count) (scope_names t.principal) (entities_names es) (scope_names t.resource))
    ∙ ap (λ (l : List EntityUID). names_known count (t.id ∷ (scope_names t.principal ++ (entities_names l ++ scope_names t.resource)))) e

pub returns-in_err-known_entities : goal.returns-in_err-known_entities
returns-in_err-known_entities c =
    broke c.from_residual-in_err-known_entities.result c.from_residual-in_err-known_entities.ensures.1
    ∙ stops _ c.in_err-known_entities.ensures
    ∙ passes _ c.in_ok-known_scope.ensures
    ∙ passes _ c.in_ok-known_name.ensures
    ∙ tested c.args.count c.args.t.now c.as_slice.result.now c.as_slice.ensures

pub returns : goal.returns
returns c =
    c.known_scope-2.ensures
    ∙ passes _ c.in_ok-known_entities.ensures
    ∙ passes _ c.in_ok-known_scope.ensures
    ∙ passes _ c.in_ok-known_name.ensures
    ∙ tested c.args.count c.args.t.now c.as_slice.result.now c.as_slice.ensures
