-- How refusals are printed.
use Rattle.std.specs.Prelude.{ℕ, List, [], ◌∷◌, ◌++◌, codes, decimal}
use Rattle.refusals.specs.Refusals.{slot_bit, fault_value, number}
use Rattle.refusals.specs.declared.refusal.Table.{Table}
use Rattle.refusals.specs.declared.refusal.Table.TheVariants.{Templates, Policies}
use Rattle.refusals.specs.declared.refusal.Refusal.{Refusal}
use Rattle.refusals.specs.declared.refusal.Refusal.TheVariants.{UnknownName, UnknownClause, TooLong, BookFull, BadTypeName, TooManyActions, BadClause, UnexpectedSlot, SlotCacheMismatch, Occupied, NoSuchTemplate, ArityError, PolicyIdConflict, NotLinkError, UnlinkingError, RemovePolicyNoLinkError, RemovePolicyNoTemplateError, NotTemplateError, RemoveTemplateNoTemplateError, RemoveTemplateWithLinksError, MissingTemplate, InvalidTemplate, ShortBuffer, Slotless, Crossed, Full}
use Rattle.printing.specs.Print.{spaced, id_word}

-- The name of a table.
abbrev pub table_word : Table → List ℕ
table_word Templates = codes "templates"
table_word Policies = codes "policies"

-- The values of a refusal as words, over the texts of the book.
abbrev pub value_words : List (List ℕ) → Refusal → List (List ℕ)
value_words texts (UnknownName n) = decimal n ∷ []
value_words texts (UnknownClause n) = decimal n ∷ []
value_words texts (TooLong n) = decimal n ∷ []
value_words texts BookFull = []
value_words texts (BadTypeName id) = id_word texts id ∷ []
value_words texts (TooManyActions n) = decimal n ∷ []
value_words texts (BadClause n) = decimal n ∷ []
value_words texts (UnexpectedSlot slot) = decimal (slot_bit slot) ∷ []
value_words texts (SlotCacheMismatch id) = id_word texts id ∷ []
value_words texts (Occupied id) = id_word texts id ∷ []
value_words texts (NoSuchTemplate id) = id_word texts id ∷ []
value_words texts (ArityError unbound extra) = decimal unbound.bits ∷ decimal extra.bits ∷ []
value_words texts (PolicyIdConflict id) = id_word texts id ∷ []
value_words texts (NotLinkError id) = id_word texts id ∷ []
value_words texts (UnlinkingError id) = id_word texts id ∷ []
value_words texts (RemovePolicyNoLinkError id) = id_word texts id ∷ []
value_words texts (RemovePolicyNoTemplateError id) = id_word texts id ∷ []
value_words texts (NotTemplateError id) = id_word texts id ∷ []
value_words texts (RemoveTemplateNoTemplateError id) = id_word texts id ∷ []
value_words texts (RemoveTemplateWithLinksError id) = id_word texts id ∷ []
value_words texts (MissingTemplate id) = id_word texts id ∷ []
value_words texts (InvalidTemplate invalid) = id_word texts invalid.id ∷ decimal (fault_value invalid.fault) ∷ []
value_words texts (ShortBuffer n) = decimal n ∷ []
value_words texts (Slotless id) = id_word texts id ∷ []
value_words texts (Crossed id) = id_word texts id ∷ []
value_words texts (Full table) = table_word table ∷ []

-- The line of a refusal: its number, then its values.
abbrev pub refused_line : List (List ℕ) → Refusal → List ℕ
refused_line texts refusal = spaced (codes "refused " ++ decimal (number refusal)) (value_words texts refusal)
