-- What lines that read a set give: `texts` are those of the name book, `m` the maps of the set, `cs` the clauses.
use Rattle.std.specs.Prelude.{ℕ, List, [], ◌∷◌, length, Some, None, Ok, Option, Result, codes}
use Rattle.refusals.specs.declared.refusal.Refusal.{Refusal}
use Rattle.names.specs.Names.{Limits}
use Rattle.clauses.specs.Book.{Clause}
use Rattle.policy.specs.Arity.{Parts}
use Rattle.policy.specs.Filling.{fill}
use Rattle.policy.specs.Known.{and_then, names_known, parts_names, clause_known}
use Rattle.policy_set.specs.Listing.{policies_answer, static_policies_answer}
use Rattle.policy_set.specs.Maps.{Maps, in_force}
use Rattle.policy_set.specs.Validation.{try_validate_answer}
use Rattle.calls.specs.declared.call.Side.{Side}
use Rattle.printing.specs.Answers.{policies_line}
use Rattle.printing.specs.Print.{spaced}
use Rattle.printing.specs.Scopes.{scope_word}
use Rattle.console.specs.Dump.{dump_answer}
use Rattle.console.specs.Listings.{ids_line, ids_under_answer, templates as template_ids}
use Rattle.console.specs.Places.{all_places}
use Rattle.console.specs.Reader.{Reading, given, next, made, answered, if_end, last_id}
use Rattle.console.specs.declared.set_reads.Read.{Read}
use Rattle.console.specs.declared.set_reads.Read.TheVariants as read

-- A listing of two ids at each place: `ok N ID,TEMPLATEID ...`
abbrev pub policies : List (List ℕ) → (ℕ → Option (ℕ × ℕ)) → List (List ℕ) → Reading (List ℕ)
policies texts at words = if_end words texts (given (policies_line texts (all_places at)) texts)

-- `templates SET`: `ok N ID ...`
abbrev pub templates : List (List ℕ) → Maps → List (List ℕ) → Reading (List ℕ)
templates texts m words = if_end words texts (given (ids_line texts (template_ids m)) texts)

-- `links SET ID`: `ok N ID ...`
abbrev pub links : Limits → List (List ℕ) → Maps → List (List ℕ) → Reading (List ℕ)
links limits texts m words =
    next (last_id limits texts words) (λ id after. made (ids_line after) (answered (ids_under_answer (length after) m id) after))

-- Refusals 1 and 2 of a policy, by its parts; else its scopes with the values of its slots.
abbrev pub filled_scopes : {C : Type 0} → List (List ℕ) → List (Clause C) → Parts → Result (List ℕ) Refusal
filled_scopes texts cs p =
    and_then (and_then (names_known (length texts) (parts_names p.template p.link p.values)) (clause_known cs p.template.clause))
    (Ok (spaced (codes "ok") (scope_word texts (fill p.values.principal p.template.principal) ∷ scope_word texts (fill p.values.resource p.template.resource) ∷ [])))

-- The line of a policy that may be absent.
abbrev pub filled_line : {C : Type 0} → List (List ℕ) → List (Clause C) → Option Parts → Result (List ℕ) Refusal
filled_line texts cs None = Ok (codes "none")
filled_line texts cs (Some p) = filled_scopes texts cs p

-- `filled SET ID`: `ok P R`, or `none`
abbrev pub filled : {C : Type 0} → Limits → List (List ℕ) → List (Clause C) → Maps → List (List ℕ) → Reading (List ℕ)
filled limits texts cs m words =
    next (last_id limits texts words) (λ id after. answered (and_then (names_known (length after) (id ∷ [])) (filled_line after cs (in_force m id))) after)

-- `validate SET`: `ok`
abbrev pub validate : {C : Type 0} → List (List ℕ) → List (Clause C) → Maps → List (List ℕ) → Reading (List ℕ)
validate texts cs m words = if_end words texts (made (λ _. codes "ok") (answered (try_validate_answer texts cs m.templates) texts))

-- `dump SET`: all lines of a set
abbrev pub dump : List (List ℕ) → Side → Maps → List (List ℕ) → Reading (List ℕ)
dump texts side m words = if_end words texts (answered (dump_answer texts side m) texts)

-- The line of one of the sets, by what is read of it.
abbrev pub set_read : {C : Type 0} → Limits → List (List ℕ) → List (Clause C) → Side → Maps → Read → List (List ℕ) → Reading (List ℕ)
set_read limits texts cs side m read.Policies words = policies texts (policies_answer m) words
set_read limits texts cs side m read.StaticPolicies words = policies texts (static_policies_answer m) words
set_read limits texts cs side m read.Templates words = templates texts m words
set_read limits texts cs side m read.Links words = links limits texts m words
set_read limits texts cs side m read.Filled words = filled limits texts cs m words
set_read limits texts cs side m read.Validate words = validate texts cs m words
set_read limits texts cs side m read.Dump words = dump texts side m words
