-- What the reader makes of words: their texts enter the name book as they are read.
use Rattle.std.specs.Prelude.{◌≡◌, ℕ, zero, suc, ◌+◌, Bool, cond, not, ◌&&◌, List, [], ◌∷◌, length, get_or, take, drop, Some, None, Ok, Err, codes, Option, Result, ◌==◌}
use Rattle.std.specs.Option.{option_map}
use Rattle.std.specs.Str.{bytes_eq}
use Rattle.refusals.specs.declared.refusal.Refusal.{Refusal}
use Rattle.names.specs.Names.{Limits, name_answer, name_after}
use Rattle.names.specs.declared.entity.EntityUID.{EntityUID}
use Rattle.policy.specs.declared.constraint.Effect.{Effect}
use Rattle.policy.specs.declared.constraint.Effect.TheVariants as effect
use Rattle.policy.specs.declared.constraint.EntityReference.{EntityReference}
use Rattle.policy.specs.declared.constraint.EntityReference.TheVariants as ref
use Rattle.policy.specs.declared.constraint.PrincipalOrResourceConstraint.{PrincipalOrResourceConstraint}
use Rattle.policy.specs.declared.constraint.PrincipalOrResourceConstraint.TheVariants as scope
use Rattle.policy.specs.declared.values.SlotEnv.{SlotEnv}
use Rattle.script.specs.Number.{numeral, at_most}
use Rattle.script.specs.Parts.{split_once}
use Rattle.script.specs.Percent.{decoded}
use Rattle.console.specs.Args.{rest, next_word}
use Rattle.console.specs.declared.reader.ScopeKind.{ScopeKind}
use Rattle.console.specs.declared.reader.ScopeKind.TheVariants as kind
use Rattle.console.specs.declared.stop.Stop.{Stop}
use Rattle.console.specs.declared.stop.Stop.TheVariants.{Wrong, Refused, NoMemory}

-- What was read of a line, or why not: a word is wrong, or a call is refused; and the texts of the name book then.
pub data Reading (X : Type 0) : Type 0 where
  given : X → List (List ℕ) → Reading X
  wrong : List (List ℕ) → Reading X
  refused : Refusal → List (List ℕ) → Reading X

-- What the reader answers, with the texts of its book then, is what was to be read, by a view of it; there may also be too
-- little memory.
abbrev pub ReadsAs : {X Y : Type 0} → (X → Y) → Result X Stop → List (List ℕ) → Reading Y → Type 0
ReadsAs view (Ok x) texts meant = meant ≡ given (view x) texts
ReadsAs view (Err (Wrong w)) texts meant = meant ≡ wrong texts
ReadsAs view (Err (Refused refusal)) texts meant = meant ≡ refused refusal texts
ReadsAs view (Err NoMemory) texts meant = Unit {0}

-- The same, of what was read as it is.
abbrev pub ReadsInto : {X : Type 0} → Result X Stop → List (List ℕ) → Reading X → Type 0
ReadsInto result texts meant = ReadsAs (λ x. x) result texts meant

-- One reading after another.
abbrev pub next : {X Y : Type 0} → Reading X → (X → List (List ℕ) → Reading Y) → Reading Y
next (given x texts) more = more x texts
next (wrong texts) more = wrong texts
next (refused refusal texts) more = refused refusal texts

-- What was read, made into another thing.
abbrev pub made : {X Y : Type 0} → (X → Y) → Reading X → Reading Y
made f (given x texts) = given (f x) texts
made f (wrong texts) = wrong texts
made f (refused refusal texts) = refused refusal texts

-- A word that has a meaning, or else is wrong.
abbrev pub if_some : {X Y : Type 0} → Option X → List (List ℕ) → (X → Reading Y) → Reading Y
if_some None texts more = wrong texts
if_some (Some x) texts more = more x

-- What an answer gives, with the texts then.
abbrev pub answered : {X : Type 0} → Result X Refusal → List (List ℕ) → Reading X
answered (Ok x) texts = given x texts
answered (Err refusal) texts = refused refusal texts

-- The number of the text that a word means.
abbrev pub name : Limits → List (List ℕ) → List ℕ → Reading ℕ
name limits texts word = if_some (decoded word) texts (λ text. answered (name_answer limits texts text) (name_after limits texts text))

-- What each of some words reads as, one after another.
abbrev pub each : {X : Type 0} → (List (List ℕ) → List ℕ → Reading X) → List (List ℕ) → List (List ℕ) → Reading (List X)
each read texts [] = given [] texts
each read texts (word ∷ words) = next (read texts word) (λ x after. made (λ xs. x ∷ xs) (each read after words))

-- What stands behind a word's beginning, where it begins so.
abbrev pub stripped : List ℕ → List ℕ → Option (List ℕ)
stripped start word = cond (bytes_eq (take (length start) word) start) (Some (drop (length start) word)) None

-- What is read from what was found, or else another reading.
abbrev pub if_found : {X : Type 0} → Option (List ℕ) → (List ℕ → Reading X) → Reading X → Reading X
if_found None read other = other
if_found (Some word) read other = read word

-- The id that is the next word.
abbrev pub id : Limits → List (List ℕ) → List (List ℕ) → Reading ℕ
id limits texts words = if_some (next_word words) texts (name limits texts)

-- What was read, where no word is left.
abbrev pub at_end : {X : Type 0} → List (List ℕ) → Reading X → Reading X
at_end [] meant = meant
at_end (word ∷ words) meant = next meant (λ x texts. wrong texts)

-- The id that is the last word.
abbrev pub last_id : Limits → List (List ℕ) → List (List ℕ) → Reading ℕ
last_id limits texts words = at_end (rest words) (id limits texts words)

-- What is asked for where no word is left before anything is done.
abbrev pub if_end : {X : Type 0} → List (List ℕ) → List (List ℕ) → Reading X → Reading X
if_end [] texts meant = meant
if_end (word ∷ words) texts meant = wrong texts

-- TYPE/EID
abbrev pub entity : Limits → List (List ℕ) → List ℕ → Reading EntityUID
entity limits texts word =
    if_some (split_once 47 word) texts (λ parts.
    next (name limits texts parts.0) (λ ty after.
    made (λ eid. record { ty = ty; eid = eid }) (name limits after parts.1)))

-- `?`, or an entity
abbrev pub reference : Limits → List (List ℕ) → List ℕ → Reading EntityReference
reference limits texts word = cond (bytes_eq word (codes "?")) (given ref.Slot texts) (made ref.EUID (entity limits texts word))

-- Whether the byte at a place is a colon that has none beside it.
abbrev pub lone : List ℕ → ℕ → Bool
lone word i = get_or word i 0 == 58 && not (get_or (0 ∷ word) i 0 == 58) && not (get_or word (i + 1) 0 == 58)

-- The first such place among so many from one on.
abbrev pub lone_from : List ℕ → ℕ → ℕ → Option ℕ
lone_from word i zero = None
lone_from word i (suc n) = cond (lone word i) (Some i) (lone_from word (i + 1) n)

-- What stands before and after the first colon that has none beside it.
abbrev pub around_lone_colon : List ℕ → Option (List ℕ × List ℕ)
around_lone_colon word = option_map (λ i. (take i word, drop (i + 1) word)) (lone_from word 0 (length word))

-- TYPE:REF, divided at a colon that stands alone
abbrev pub type_in : Limits → List (List ℕ) → List ℕ → Reading PrincipalOrResourceConstraint
type_in limits texts word =
    if_some (around_lone_colon word) texts (λ parts.
    next (name limits texts parts.0) (λ ty after.
    made (scope.IsIn ty) (reference limits after parts.1)))

-- What stands before the first colon of a scope.
abbrev pub scope_kind : List ℕ → Option ScopeKind
scope_kind word =
    cond (bytes_eq word (codes "eq")) (Some kind.Eq)
    (cond (bytes_eq word (codes "in")) (Some kind.In)
    (cond (bytes_eq word (codes "is")) (Some kind.Is) (cond (bytes_eq word (codes "isin")) (Some kind.IsIn) None)))

-- eq:REF, in:REF, is:TYPE, isin:TYPE:REF, by the kind and what stands after the colon
abbrev pub scope_of : Limits → List (List ℕ) → ScopeKind → List ℕ → Reading PrincipalOrResourceConstraint
scope_of limits texts kind.Eq word = made scope.Eq (reference limits texts word)
scope_of limits texts kind.In word = made scope.In (reference limits texts word)
scope_of limits texts kind.Is word = made scope.Is (name limits texts word)
scope_of limits texts kind.IsIn word = type_in limits texts word

-- The scope of a principal or resource: any, or one of those.
abbrev pub scope_read : Limits → List (List ℕ) → List ℕ → Reading PrincipalOrResourceConstraint
scope_read limits texts word =
    cond (bytes_eq word (codes "any")) (given scope.Any texts)
    (if_some (split_once 58 word) texts (λ parts. if_some (scope_kind parts.0) texts (λ k. scope_of limits texts k parts.1)))

-- `-`, or the entity that a slot is given
abbrev pub value : Limits → List (List ℕ) → List ℕ → Reading (Option EntityUID)
value limits texts word = cond (bytes_eq word (codes "-")) (given None texts) (made Some (entity limits texts word))

-- PV RV, of the words of a line
abbrev pub values : Limits → List (List ℕ) → List (List ℕ) → Reading SlotEnv
values limits texts words =
    if_some (next_word words) texts (λ first.
    next (value limits texts first) (λ principal after.
    if_some (next_word (rest words)) after (λ second.
    made (λ resource. record { principal = principal; resource = resource }) (value limits after second))))

-- permit or forbid
abbrev pub effect_of : List ℕ → Option Effect
effect_of word = cond (bytes_eq word (codes "permit")) (Some effect.Permit) (cond (bytes_eq word (codes "forbid")) (Some effect.Forbid) None)

-- `-`, or the number of a clause
abbrev pub clause_of : List ℕ → Option (Option ℕ)
clause_of word = cond (bytes_eq word (codes "-")) (Some None) (option_map Some (at_most 65535 (numeral word)))
