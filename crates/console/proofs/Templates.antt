-- What one place of a template's listing says of the template.
use Rattle.std.proofs.Common.{◌≡◌, ℕ, not, [], ◌∷◌, is_some, Ok, Err, Option, Result, refl, sym, ap, ◌∙◌}
use Rattle.refusals.specs.declared.refusal.Refusal.{Refusal}
use Rattle.refusals.specs.declared.refusal.Refusal.TheVariants.{MissingTemplate}
use Rattle.policy.specs.Known.{and_then, names_known}
use Rattle.policy_set.specs.Answers.{refuse_if}
use Rattle.policy_set.specs.Listing.{linked_at, get_linked_policies_answer}
use Rattle.policy_set.specs.Maps.{Maps, template_at}
use Rattle.console.specs.Listings.{is_template}

-- an answer without what it gives
abbrev pub bare : {X : Type 0} → Result X Refusal → Result (Unit {0}) Refusal
bare (Ok x) = Ok tt
bare (Err e) = Err e

-- two tests, and then an answer
two_tests : {X : Type 0} (a b : Result (Unit {0}) Refusal) (x : X) → bare (and_then a (and_then b (Ok x))) ≡ and_then a b
two_tests (Ok u) (Ok tt) x = refl
two_tests (Ok u) (Err e) x = refl
two_tests (Err e) b x = refl

-- the listing is refused where there is no such template, and for that alone
pub place_asked : (n : ℕ) (m : Maps) (id place : ℕ) (answer : Result (Option ℕ) Refusal) → answer ≡ get_linked_policies_answer n m id place → is_template n m id ≡ bare answer
place_asked n m id place answer e = sym (ap bare e ∙ two_tests (names_known n (id ∷ [])) (refuse_if (not (is_some (template_at m id))) (MissingTemplate id)) (linked_at m id place))
