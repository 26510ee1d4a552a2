use Rattle.std.proofs.Common.{◌≡◌, ℕ, ◌+◌, ◌<◌, List, length, get_or, drop, Ok, Err, Result, sym, ap, ◌∙◌}
use Rattle.std.proofs.lemmas.List.{at_drop_more, at_drop_all}
use Rattle.refusals.specs.declared.refusal.Refusal.{Refusal}
use Rattle.names.specs.declared.entity.EntityUID.{EntityUID}
use Rattle.clauses.specs.NameChecks.{name_check}
use Rattle.policy.specs.Known.{names_known, entity_names, entities_names, and_then}
use Rattle.policy.proofs.Testing.{broke, turn_append}
use Rattle.policy.proofs.known.known_entities.Goals as goal

-- What is left from an entity on: its names, then the names of the rest.
onward : (count : ℕ) (list : List EntityUID) (i : ℕ) (r : Result (Unit {0}) Refusal) → i < length list
    → r ≡ names_known count (entity_names (get_or list i (record { ty = 0; eid = 0 })))
    → and_then r (names_known count (entities_names (drop (i + 1) list))) ≡ names_known count (entities_names (drop i list))
onward count list i r h e =
    ap (λ (x : Result (Unit {0}) Refusal). and_then x (names_known count (entities_names (drop (i + 1) list)))) e
    ∙ sym (turn_append (name_check count) (entity_names (get_or list i (record { ty = 0; eid = 0 }))) (entities_names (drop (i + 1) list)))
    ∙ sym (at_drop_more (λ (es : List EntityUID). names_known count (entities_names es)) list i (record { ty = 0; eid = 0 }) h)

pub returns-in_err-known_entity : goal.returns-in_err-known_entity
returns-in_err-known_entity c =
    broke c.from_residual.result c.from_residual.ensures.1
    ∙ onward c.args.count c.args.list.now c.loop-e.e-index (Err c.in_err-known_entity.field-0.0) c.loop-e-test.true c.in_err-known_entity.ensures
    ∙ c.loop-e.invariant

pub loop-e-preserved : goal.loop-e-preserved
loop-e-preserved c =
    onward c.args.count c.args.list.now c.loop-e.e-index (Ok tt) c.loop-e-test.true c.in_ok-known_entity.ensures
    ∙ c.loop-e.invariant

pub returns : goal.returns
returns c =
    sym (at_drop_all (λ (es : List EntityUID). names_known c.args.count (entities_names es)) c.args.list.now c.loop-e.e-index c.loop-e-test.false)
    ∙ c.loop-e.invariant
