use Rattle.std.proofs.Common.{◌≡◌, ℕ, [], ◌∷◌, Option, ◌∙◌}
use Rattle.clauses.specs.NameChecks.{name_check}
use Rattle.policy.specs.declared.values.SlotEnv.{SlotEnv}
use Rattle.policy.specs.declared.template.Template.{Template}
use Rattle.policy.specs.Known.{optional, names_known, and_then, template_names, values_names, parts_names}
use Rattle.policy.proofs.Testing.{broke, stops, passes, turn_three}
use Rattle.policy.proofs.known.known_parts.Goals as goal

tested : (count : ℕ) (t : Template) (link : Option ℕ) (env : SlotEnv)
    → and_then (names_known count (template_names t)) (and_then (names_known count (optional (λ n. n ∷ []) link)) (names_known count (values_names env)))
    ≡ names_known count (parts_names t link env)
tested count t link env = turn_three (name_check count) (template_names t) (optional (λ n. n ∷ []) link) (values_names env)

pub returns-in_err-known_names : goal.returns-in_err-known_names
returns-in_err-known_names c =
    broke c.from_residual.result c.from_residual.ensures.1
    ∙ stops _ c.in_err-known_names.ensures ∙ tested c.args.count c.args.template.now c.args.link c.args.values

pub returns-in_err-known_link : goal.returns-in_err-known_link
returns-in_err-known_link c =
    broke c.from_residual-in_err-known_link.result c.from_residual-in_err-known_link.ensures.1
    ∙ stops _ c.in_err-known_link.ensures
    ∙ passes _ c.in_ok-known_names.ensures
    ∙ tested c.args.count c.args.template.now c.args.link c.args.values

pub returns : goal.returns
returns c =
    c.known_values.ensures
    ∙ passes _ c.in_ok-known_link.ensures
    ∙ passes _ c.in_ok-known_names.ensures
    ∙ tested c.args.count c.args.template.now c.args.link c.args.values
