-- The parts of a template, as a line has them.
use Rattle.std.specs.Prelude.{ℕ, List, Option}
use Rattle.std.specs.Option.{option_and_then}
use Rattle.names.specs.Names.{Limits}
use Rattle.names.specs.declared.entity.EntityUID.{EntityUID}
use Rattle.policy.specs.declared.action.ActionIn.{ActionIn}
use Rattle.policy.specs.declared.constraint.Effect.{Effect}
use Rattle.policy.specs.declared.constraint.PrincipalOrResourceConstraint.{PrincipalOrResourceConstraint}
use Rattle.console.specs.Actions.{action_read, listed}
use Rattle.console.specs.Reader.{Reading, given, next, if_some, scope_read, effect_of, clause_of}
use Rattle.console.specs.Args.{rest, next_word}
use Rattle.console.specs.declared.body.Body.{Body}

-- The parts, the action's list by its items.
pub record TemplateParts : Type 0 where
  pub effect : Effect
  pub principal : PrincipalOrResourceConstraint
  pub action : ActionIn (List EntityUID)
  pub resource : PrincipalOrResourceConstraint
  pub clause : Option ℕ

-- The parts that were read.
abbrev pub parts_of : Body → TemplateParts
parts_of b = record { effect = b.effect; principal = b.principal; action = listed b.action; resource = b.resource; clause = b.clause }

-- EFFECT P A R CLAUSE
abbrev pub body : Limits → List (List ℕ) → List (List ℕ) → Reading TemplateParts
body limits texts words =
    if_some (option_and_then effect_of (next_word words)) texts (λ effect.
    if_some (next_word (rest words)) texts (λ p. next (scope_read limits texts p) (λ principal texts1.
    if_some (next_word (rest (rest words))) texts1 (λ a. next (action_read limits texts1 a) (λ action texts2.
    if_some (next_word (rest (rest (rest words)))) texts2 (λ r. next (scope_read limits texts2 r) (λ resource texts3.
    if_some (option_and_then clause_of (next_word (rest (rest (rest (rest words)))))) texts3 (λ clause.
    given record { effect = effect; principal = principal; action = action; resource = resource; clause = clause } texts3))))))))
