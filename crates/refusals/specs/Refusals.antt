-- The number and the values of each refusal: what every promise of the product says of a refusal.
use Rattle.std.specs.Prelude.{ℕ, List, [], ◌∷◌}
use Rattle.refusals.specs.declared.slots.SlotId.{SlotId}
use Rattle.refusals.specs.declared.slots.SlotId.TheVariants.{Principal, Resource}
use Rattle.refusals.specs.declared.refusal.Table.{Table}
use Rattle.refusals.specs.declared.refusal.Table.TheVariants.{Templates, Policies}
use Rattle.refusals.specs.declared.refusal.TemplateValidationError.{TemplateValidationError}
use Rattle.refusals.specs.declared.refusal.TemplateValidationError.TheVariants.{SlotsInConditionClause, InvalidActionType}
use Rattle.refusals.specs.declared.refusal.Refusal.{Refusal}
use Rattle.refusals.specs.declared.refusal.Refusal.TheVariants.{UnknownName, UnknownClause, TooLong, BookFull, BadTypeName, TooManyActions, BadClause, UnexpectedSlot, SlotCacheMismatch, Occupied, NoSuchTemplate, ArityError, PolicyIdConflict, NotLinkError, UnlinkingError, RemovePolicyNoLinkError, RemovePolicyNoTemplateError, NotTemplateError, RemoveTemplateNoTemplateError, RemoveTemplateWithLinksError, MissingTemplate, InvalidTemplate, ShortBuffer, Slotless, Crossed, Full}

-- The bit of a slot in a slot set.
abbrev pub slot_bit : SlotId → ℕ
slot_bit Principal = 1
slot_bit Resource = 2

-- The tables by number.
abbrev pub table_number : Table → ℕ
table_number Templates = 0
table_number Policies = 1

-- The number of a template's fault.
abbrev pub fault_number : TemplateValidationError → ℕ
fault_number (SlotsInConditionClause s) = 22
fault_number (InvalidActionType m) = 23

-- The value of a template's fault: the slot's bit, or the mask of the actions.
abbrev pub fault_value : TemplateValidationError → ℕ
fault_value (SlotsInConditionClause s) = slot_bit s
fault_value (InvalidActionType m) = m

-- The number of a refusal.
abbrev pub number : Refusal → ℕ
number (UnknownName n) = 1
number (UnknownClause n) = 2
number (TooLong length) = 3
number BookFull = 4
number (BadTypeName name) = 5
number (TooManyActions count) = 6
number (BadClause place) = 7
number (UnexpectedSlot slot) = 8
number (SlotCacheMismatch id) = 9
number (Occupied id) = 10
number (NoSuchTemplate id) = 11
number (ArityError unbound extra) = 12
number (PolicyIdConflict id) = 13
number (NotLinkError id) = 14
number (UnlinkingError id) = 15
number (RemovePolicyNoLinkError id) = 16
number (RemovePolicyNoTemplateError id) = 17
number (NotTemplateError id) = 18
number (RemoveTemplateNoTemplateError id) = 19
number (RemoveTemplateWithLinksError id) = 20
number (MissingTemplate id) = 21
number (InvalidTemplate invalid) = fault_number invalid.fault
number (ShortBuffer needed) = 24
number (Slotless id) = 25
number (Crossed id) = 26
number (Full table) = 27

-- The values of a refusal, in order.
abbrev pub values : Refusal → List ℕ
values (UnknownName n) = n ∷ []
values (UnknownClause n) = n ∷ []
values (TooLong length) = length ∷ []
values BookFull = []
values (BadTypeName name) = name ∷ []
values (TooManyActions count) = count ∷ []
values (BadClause place) = place ∷ []
values (UnexpectedSlot slot) = slot_bit slot ∷ []
values (SlotCacheMismatch id) = id ∷ []
values (Occupied id) = id ∷ []
values (NoSuchTemplate id) = id ∷ []
values (ArityError unbound extra) = unbound.bits ∷ extra.bits ∷ []
values (PolicyIdConflict id) = id ∷ []
values (NotLinkError id) = id ∷ []
values (UnlinkingError id) = id ∷ []
values (RemovePolicyNoLinkError id) = id ∷ []
values (RemovePolicyNoTemplateError id) = id ∷ []
values (NotTemplateError id) = id ∷ []
values (RemoveTemplateNoTemplateError id) = id ∷ []
values (RemoveTemplateWithLinksError id) = id ∷ []
values (MissingTemplate id) = id ∷ []
values (InvalidTemplate invalid) = invalid.id ∷ fault_value invalid.fault ∷ []
values (ShortBuffer needed) = needed ∷ []
values (Slotless id) = id ∷ []
values (Crossed id) = id ∷ []
values (Full table) = table_number table ∷ []
