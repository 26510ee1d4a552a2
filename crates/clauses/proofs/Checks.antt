-- Tests over lists of names.
use Rattle.std.proofs.Common.{◌≡◌, ℕ, ◌+◌, ◌<◌, Bool, false, List, [], ◌∷◌, ◌++◌, length, get_or, drop, Ok, Err, Result, sym, refl, ap, ◌∙◌, inl, inr}
use Rattle.std.specs.List.{flat_map}
use Rattle.std.specs.Result.{result_unwrap_or}
use Rattle.std.proofs.lemmas.List.{get_or_past, at_drop_more}
use Rattle.std.proofs.lemmas.Bool.{cases_lt}
use Rattle.std.proofs.lemmas.Bool.Decides.{same_from_decides}
use Rattle.refusals.specs.declared.refusal.Refusal.{Refusal}
use Rattle.names.specs.declared.type_name.Scan.TheVariants.{Start}
use Rattle.names.specs.Scan.{scanned, accepts}
use Rattle.names.specs.TypeName.{TypeName}
use Rattle.names.specs.Names.{AnswersWhether}
use Rattle.names.proofs.TypeNames.{scan_decides}
use Rattle.clauses.specs.Checks.{and_then, in_turn}

-- The answer on a type's name; a number without a text has no type name.
pub type_told : (texts : List (List ℕ)) (n : ℕ) (answer : Result Bool Refusal) → AnswersWhether texts n TypeName answer
    → result_unwrap_or answer false ≡ accepts (scanned Start (get_or texts n []))
type_told texts n answer told =
    elim (cases_lt n (length texts)) [
      | inl h ↦
          let w = told.known h in
          ap (λ (a : Result Bool Refusal). result_unwrap_or a false) w.1
          ∙ same_from_decides w.0 (accepts (scanned Start (get_or texts n []))) w.2 (scan_decides (get_or texts n []))
      | inr h ↦
          ap (λ (a : Result Bool Refusal). result_unwrap_or a false) (told.unknown h)
          ∙ sym (ap (λ (t : List ℕ). accepts (scanned Start t)) (get_or_past texts n [] h))
    ]

in_turn-append : {X : Type 0} (test : X → Result (Unit {0}) Refusal) (xs ys : List X)
    → in_turn test (xs ++ ys) ≡ and_then (in_turn test xs) (in_turn test ys)
in_turn-append test [] ys = refl
in_turn-append test (x ∷ xs) ys = ap (and_then (test x)) (in_turn-append test xs ys) ∙ and_then_assoc (test x) (in_turn test xs) (in_turn test ys)
  where
    and_then_assoc : {Y : Type 0} (a b : Result (Unit {0}) Refusal) (c : Result Y Refusal) → and_then a (and_then b c) ≡ and_then (and_then a b) c
    and_then_assoc (Ok u) b c = refl
    and_then_assoc (Err e) b c = refl

module _ {N : Type 0} (test : ℕ → Result (Unit {0}) Refusal) (held : N → List ℕ) where
  -- A loop over what holds the numbers stops at the first refusal.
  pub stops : (ns : List N) (i : ℕ) (d : N) (refusal : Refusal) → i < length ns → Err refusal ≡ in_turn test (held (get_or ns i d))
      → in_turn test (flat_map held (drop i ns)) ≡ in_turn test (flat_map held ns) → Err refusal ≡ in_turn test (flat_map held ns)
  stops ns i d refusal h e inv =
      ap (λ (a : Result (Unit {0}) Refusal). and_then a (in_turn test (flat_map held (drop (i + 1) ns)))) e
      ∙ sym (in_turn-append test (held (get_or ns i d)) (flat_map held (drop (i + 1) ns)))
      ∙ sym (at_drop_more (λ (l : List N). in_turn test (flat_map held l)) ns i d h)
      ∙ inv

  -- And goes on where there is none.
  pub goes_on : (ns : List N) (i : ℕ) (d : N) → i < length ns → Ok tt ≡ in_turn test (held (get_or ns i d))
      → in_turn test (flat_map held (drop i ns)) ≡ in_turn test (flat_map held ns) → in_turn test (flat_map held (drop (i + 1) ns)) ≡ in_turn test (flat_map held ns)
  goes_on ns i d h e inv =
      ap (λ (a : Result (Unit {0}) Refusal). and_then a (in_turn test (flat_map held (drop (i + 1) ns)))) e
      ∙ sym (in_turn-append test (held (get_or ns i d)) (flat_map held (drop (i + 1) ns)))
      ∙ sym (at_drop_more (λ (l : List N). in_turn test (flat_map held l)) ns i d h)
      ∙ inv
