-- The lines of a dump.
use Rattle.std.specs.Prelude.{ℕ, List, [], ◌∷◌, ◌++◌, map, length, Some, None, Ok, Err, Option, Result, codes, decimal}
use Rattle.refusals.specs.declared.refusal.Refusal.{Refusal}
use Rattle.policy.specs.Arity.{Parts}
use Rattle.policy.specs.Known.{and_then, in_turn, names_known}
use Rattle.policy.specs.declared.template.Template.{Template}
use Rattle.policy_set.specs.Listing.{first_id}
use Rattle.policy_set.specs.Maps.{Maps, template_at, in_force}
use Rattle.calls.specs.declared.call.Side.{Side}
use Rattle.printing.specs.Answers.{side_word}
use Rattle.printing.specs.Print.{spaced, id_word}
use Rattle.printing.specs.Records.{template_words, policy_words}
use Rattle.console.specs.Listings.{all_templates, all_policies, ids_under, is_template}

-- What an answer gives, and nothing where it is a refusal.
abbrev pub or_none : Result (Option ℕ) Refusal → Option ℕ
or_none (Ok found) = found
or_none (Err refusal) = None

-- The `reverse` line of a template behind a text: its id, how many members there are, and the members.
abbrev pub with_reverse : List (List ℕ) → List ℕ → ℕ → List ℕ → List ℕ
with_reverse texts text id ids = spaced (text ++ codes "\nreverse") (id_word texts id ∷ decimal (length ids) ∷ map (id_word texts) ids)

-- The `reverse` lines of some templates.
abbrev pub with_reverses : List (List ℕ) → Maps → List ℕ → List ℕ → List ℕ
with_reverses texts m text [] = text
with_reverses texts m text (id ∷ ids) = with_reverses texts m (with_reverse texts text id (ids_under m id)) ids

-- The `template` line of the template that an id names behind a text.
abbrev pub with_template : List (List ℕ) → List ℕ → Option Template → List ℕ
with_template texts text None = text
with_template texts text (Some t) = spaced (text ++ codes "\ntemplate") (template_words texts t)

-- The `template` lines of some templates.
abbrev pub with_templates : List (List ℕ) → Maps → List ℕ → List ℕ → List ℕ
with_templates texts m text [] = text
with_templates texts m text (id ∷ ids) = with_templates texts m (with_template texts text (template_at m id)) ids

-- The `policy` line of the policy that an id names behind a text.
abbrev pub with_policy : List (List ℕ) → List ℕ → Option Parts → List ℕ
with_policy texts text None = text
with_policy texts text (Some p) = spaced (text ++ codes "\npolicy") (policy_words texts p)

-- The `policy` lines of some policies, each with its template's id behind its own.
abbrev pub with_policies : List (List ℕ) → Maps → List ℕ → List (ℕ × ℕ) → List ℕ
with_policies texts m text [] = text
with_policies texts m text (ids ∷ more) = with_policies texts m (with_policy texts text (in_force m ids.0)) more

-- The first line of a dump: how many templates and policies there are.
abbrev pub dump_line : Side → Maps → List ℕ
dump_line side m = spaced (codes "dump " ++ side_word side) (decimal (length (all_templates m)) ∷ decimal (length (all_policies m)) ∷ [])

-- All lines of a dump.
abbrev pub dump_lines : List (List ℕ) → Side → Maps → List ℕ
dump_lines texts side m =
    with_reverses texts m
    (with_policies texts m (with_templates texts m (dump_line side m) (all_templates m)) (all_policies m))
    (all_templates m)

-- What listing a set is refused for: ids of templates or policies that the book lacks, and reverse sets of no template.
abbrev pub can_dump : ℕ → Maps → Result (Unit {0}) Refusal
can_dump count m =
    and_then (names_known count (all_templates m))
    (and_then (names_known count (map first_id (all_policies m))) (in_turn (is_template count m) (all_templates m)))

-- `dump`: those refusals; else all lines.
abbrev pub dump_answer : List (List ℕ) → Side → Maps → Result (List ℕ) Refusal
dump_answer texts side m = and_then (can_dump (length texts) m) (Ok (dump_lines texts side m))
