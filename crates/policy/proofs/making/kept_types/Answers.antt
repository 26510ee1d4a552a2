use Rattle.std.proofs.Common.{◌≡◌, ℕ, List, ◌++◌, ap, ◌∙◌}
use Rattle.names.specs.declared.entity.EntityUID.{EntityUID}
use Rattle.names.specs.Book.{texts}
use Rattle.policy.specs.declared.template.Template.{Template}
use Rattle.policy.specs.Scopes.{actions_of}
use Rattle.clauses.specs.NameChecks.{type_check}
use Rattle.policy.specs.Known.{and_then}
use Rattle.policy.specs.Making.{types_kept, scope_types, entities_types, template_types}
use Rattle.policy.proofs.Testing.{broke, stops, passes, turn_three}
use Rattle.policy.proofs.making.kept_types.Goals as goal

tested : (ts : List (List ℕ)) (t : Template) (es : List EntityUID) → es ≡ actions_of t.action
    → and_then (types_kept ts (scope_types t.principal))
    (and_then (types_kept ts (entities_types es)) (types_kept ts (scope_types t.resource)))
    ≡ types_kept ts (template_types t)
tested ts t es e =
    turn_three (type_check ts) (scope_types t.principal) (entities_types es) (scope_types t.resource)
    ∙ ap (λ (l : List EntityUID). types_kept ts (scope_types t.principal ++ (entities_types l ++ scope_types t.resource))) e

pub returns-in_err-kept_entities : goal.returns-in_err-kept_entities
returns-in_err-kept_entities c =
    broke c.from_residual-in_err-kept_entities.result c.from_residual-in_err-kept_entities.ensures.1
    ∙ stops _ c.in_err-kept_entities.ensures
    ∙ passes _ c.in_ok-kept_scope.ensures
    ∙ tested (texts c.args.names.now) c.args.t.now c.as_slice.result.now c.as_slice.ensures

pub returns : goal.returns
returns c =
    c.kept_scope-2.ensures
    ∙ passes _ c.in_ok-kept_entities.ensures
    ∙ passes _ c.in_ok-kept_scope.ensures
    ∙ tested (texts c.args.names.now) c.args.t.now c.as_slice.result.now c.as_slice.ensures
