-- Listings of a set: `m` are its maps, `count` is how many texts the name book has.
use Rattle.std.specs.Prelude.{ℕ, not, List, [], ◌∷◌, map, is_some, Ok, Result}
use Rattle.refusals.specs.declared.refusal.Refusal.{Refusal}
use Rattle.refusals.specs.declared.refusal.Refusal.TheVariants.{MissingTemplate}
use Rattle.policy.specs.Known.{and_then, names_known}
use Rattle.policy_set.specs.Answers.{refuse_if}
use Rattle.policy_set.specs.Listing.{linked_at, templates_answer, all_templates_answer, policies_answer}
use Rattle.policy_set.specs.Maps.{Maps, template_at}
use Rattle.printing.specs.Answers.{counted_line}
use Rattle.printing.specs.Print.{id_word}
use Rattle.console.specs.Places.{all_places}

-- `ok N ID ...`
abbrev pub ids_line : List (List ℕ) → List ℕ → List ℕ
ids_line texts ids = counted_line (map (id_word texts) ids)

-- The ids of the templates with slots.
abbrev pub templates : Maps → List ℕ
templates m = all_places (templates_answer m)

-- The ids of all templates, bodies of static policies among them.
abbrev pub all_templates : Maps → List ℕ
all_templates m = all_places (all_templates_answer m)

-- The ids of all policies, each with its template's.
abbrev pub all_policies : Maps → List (ℕ × ℕ)
all_policies m = all_places (policies_answer m)

-- The ids of the policies under a template.
abbrev pub ids_under : Maps → ℕ → List ℕ
ids_under m id = all_places (linked_at m id)

-- Refusals 1 and 21 of an id that names no template.
abbrev pub is_template : ℕ → Maps → ℕ → Result (Unit {0}) Refusal
is_template count m id = and_then (names_known count (id ∷ [])) (refuse_if (not (is_some (template_at m id))) (MissingTemplate id))

-- The refusals of a template's id; else the ids of the policies under it.
abbrev pub ids_under_answer : ℕ → Maps → ℕ → Result (List ℕ) Refusal
ids_under_answer count m id = and_then (is_template count m id) (Ok (ids_under m id))
