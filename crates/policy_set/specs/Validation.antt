-- Validating a set: no clause has a slot, and every action entity is of an action type.
use Rattle.std.specs.Prelude.{◌≡◌, ℕ, ◌+◌, ◌^◌, ◌<◌, Bool, false, cond, List, [], ◌∷◌, length, Some, None, Ok, Err, Option, Result, ◌==◌, nat_lt, slice_index_or}
use Rattle.refusals.specs.declared.slots.SlotId.{SlotId}
use Rattle.refusals.specs.declared.refusal.TemplateValidationError.{TemplateValidationError}
use Rattle.refusals.specs.declared.refusal.TemplateValidationError.TheVariants.{SlotsInConditionClause, InvalidActionType}
use Rattle.refusals.specs.declared.refusal.InvalidTemplate.{InvalidTemplate as Invalid}
use Rattle.refusals.specs.declared.refusal.Refusal.{Refusal}
use Rattle.refusals.specs.declared.refusal.Refusal.TheVariants.{InvalidTemplate}
use Rattle.names.specs.TypeName.{IsAction, is_action}
use Rattle.names.specs.declared.entity.EntityUID.{EntityUID}
use Rattle.clauses.specs.Book.{Clause, at, slots_of}
use Rattle.policy.specs.Scopes.{actions_of}
use Rattle.policy.specs.Slots.{first_slot, slots_where}
use Rattle.policy.specs.Mentions.{clause_has}
use Rattle.policy.specs.declared.template.Template.{Template}

-- Whether an entity's type is an action type of the name book; a number that the book lacks is none.
abbrev pub action_typed : List (List ℕ) → EntityUID → Bool
action_typed texts e = cond (nat_lt e.ty (length texts)) (is_action (slice_index_or texts e.ty [])) false

-- The bits, from bit k on, of the entities that are not of an action type.
abbrev pub mask_from : List (List ℕ) → ℕ → List EntityUID → ℕ
mask_from texts k [] = 0
mask_from texts k (e ∷ es) = cond (action_typed texts e) 0 (2 ^ k) + mask_from texts (k + 1) es

-- The slots of a clause that may be absent.
abbrev pub clause_slots : {C : Type 0} → List (Clause C) → Option ℕ → ℕ
clause_slots cs None = 0
clause_slots cs (Some n) = slots_of (at cs n)

-- Refusal 23, where a bit of the mask is set.
abbrev pub mask_fault : ℕ → Option TemplateValidationError
mask_fault mask = cond (mask == 0) None (Some (InvalidActionType mask))

-- Refusal 22 comes before it.
abbrev pub slot_fault : Option SlotId → Option TemplateValidationError → Option TemplateValidationError
slot_fault None other = other
slot_fault (Some slot) other = Some (SlotsInConditionClause slot)

-- What a template is refused for, if anything.
abbrev pub template_fault : {C : Type 0} → List (List ℕ) → List (Clause C) → Template → Option TemplateValidationError
template_fault texts cs t = slot_fault (first_slot (slots_where (clause_has cs t.clause))) (mask_fault (mask_from texts 0 (actions_of t.action)))

-- The fault with the template's id.
abbrev pub check_answer : ℕ → Option TemplateValidationError → Result (Unit {0}) Invalid
check_answer id None = Ok tt
check_answer id (Some fault) = Err (record { id = id; fault = fault })

-- The first fault stands, carried whole in the set's fault.
abbrev pub fault_or : Result (Unit {0}) Invalid → Result (Unit {0}) Refusal → Result (Unit {0}) Refusal
fault_or (Ok u) rest = rest
fault_or (Err invalid) rest = Err (InvalidTemplate invalid)

-- `try_validate`: the templates in order.
abbrev pub try_validate_answer : {C : Type 0} → List (List ℕ) → List (Clause C) → List Template → Result (Unit {0}) Refusal
try_validate_answer texts cs [] = Ok tt
try_validate_answer texts cs (t ∷ ts) = fault_or (check_answer t.id (template_fault texts cs t)) (try_validate_answer texts cs ts)

-- Every entity's type is in the name book and is an action type.
abbrev pub AllActions : List (List ℕ) → List EntityUID → Type 0
AllActions texts [] = Unit {0}
AllActions texts (e ∷ es) = ((e.ty < length texts) × IsAction (slice_index_or texts e.ty [])) × AllActions texts es

-- Every template's clause has no slot, and its action entities are of action types.
abbrev pub AllValid : {C : Type 0} → List (List ℕ) → List (Clause C) → List Template → Type 0
AllValid texts cs [] = Unit {0}
AllValid texts cs (t ∷ ts) = ((clause_slots cs t.clause ≡ 0) × AllActions texts (actions_of t.action)) × AllValid texts cs ts

-- The law: a set is accepted exactly when all its templates are valid.
pub record AcceptsValid {C : Type 0} (texts : List (List ℕ)) (cs : List (Clause C)) (ts : List Template) (answer : Result (Unit {0}) Refusal) : Type 0 where
  pub only : answer ≡ Ok tt → AllValid texts cs ts
  pub whenever : AllValid texts cs ts → answer ≡ Ok tt
