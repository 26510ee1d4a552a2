use Rattle.std.proofs.Common.{◌≡◌, ℕ, ◌+◌, ◌<◌, List, length, get_or, drop, Ok, Err, Result, sym, ap, ◌∙◌}
use Rattle.std.proofs.lemmas.List.{at_drop_more, at_drop_all}
use Rattle.refusals.specs.declared.refusal.Refusal.{Refusal}
use Rattle.names.specs.declared.entity.EntityUID.{EntityUID}
use Rattle.names.specs.Book.{texts}
use Rattle.clauses.specs.NameChecks.{type_check}
use Rattle.policy.specs.Known.{and_then}
use Rattle.policy.specs.Making.{types_kept, entities_types}
use Rattle.policy.proofs.Testing.{broke}
use Rattle.policy.proofs.making.kept_entities.Goals as goal

-- What is left from an entity on: its type, then the types of the rest.
onward : (ts : List (List ℕ)) (list : List EntityUID) (i : ℕ) (r : Result (Unit {0}) Refusal) → i < length list
    → r ≡ type_check ts (get_or list i (record { ty = 0; eid = 0 })).ty
    → and_then r (types_kept ts (entities_types (drop (i + 1) list))) ≡ types_kept ts (entities_types (drop i list))
onward ts list i r h e =
    ap (λ (x : Result (Unit {0}) Refusal). and_then x (types_kept ts (entities_types (drop (i + 1) list)))) e
    ∙ sym (at_drop_more (λ (es : List EntityUID). types_kept ts (entities_types es)) list i (record { ty = 0; eid = 0 }) h)

pub returns-in_err-check_type : goal.returns-in_err-check_type
returns-in_err-check_type c =
    broke c.from_residual.result c.from_residual.ensures.1
    ∙ onward (texts c.args.names.now) c.args.list.now c.loop-e.e-index (Err c.in_err-check_type.field-0.0) c.loop-e-test.true c.in_err-check_type.ensures.answer
    ∙ c.loop-e.invariant

pub loop-e-preserved : goal.loop-e-preserved
loop-e-preserved c =
    onward (texts c.args.names.now) c.args.list.now c.loop-e.e-index (Ok tt) c.loop-e-test.true c.in_ok-check_type.ensures.answer
    ∙ c.loop-e.invariant

pub returns : goal.returns
returns c =
    sym (at_drop_all (λ (es : List EntityUID). types_kept (texts c.args.names.now) (entities_types es)) c.args.list.now c.loop-e.e-index c.loop-e-test.false)
    ∙ c.loop-e.invariant
