use Rattle.std.proofs.Common.{◌≡◌, ℕ, ◌+◌, ◌-◌, ◌*◌, ◌<◌, Bool, true, false, cond, ◌&&◌, List, [], ◌∷◌, length, is_some, Some, None, Option, nat_le, sym, refl, ap, ◌∙◌, arith, rules}
use Rattle.std.proofs.lemmas.Bool.Decides.{nat_tests}
use Rattle.std.proofs.lemmas.Iterator.{YieldsList-from_slice}
use Rattle.std.proofs.lemmas.Iterator.Search.{all_from_yields_List}
use Rattle.std.specs.List.{list_all}
use Rattle.script.specs.Number.{continued, numeral}
use Rattle.console.proofs.args.is_numeral.Goals as goal
use borrow.Author.Tests.{tests}

abbrev digit : ℕ → Bool
digit b = nat_le 48 b && nat_le b 57

-- Without a number there is none with more digits.
no_number : (w : List ℕ) → continued None w ≡ None
no_number [] = refl
no_number (b ∷ w) = no_number w

-- A number goes on as long as there are digits.
goes_on : (n : ℕ) (w : List ℕ) → is_some (continued (Some n) w) ≡ list_all digit w
goes_on n [] = refl
goes_on n (b ∷ w) = go (goes_on (10 * n + (b - 48)) w) (digit b) refl
  where
    go : is_some (continued (Some (10 * n + (b - 48))) w) ≡ list_all digit w → (d : Bool) → digit b ≡ d → is_some (continued (cond (digit b) (Some (10 * n + (b - 48))) None) w) ≡ (digit b && list_all digit w)
    go ih true e = rw e ih
    go ih false e = rw e (ap (λ (o : Option ℕ). is_some o) (no_number w))

-- A word that is not empty is a number where all bytes are digits.
all_digits : (w : List ℕ) → 0 < length w → list_all digit w ≡ is_some (numeral w)
all_digits [] l = absurd (omega (arith, l))
all_digits (b ∷ w) l = sym (goes_on 0 (b ∷ w))

pub returns-then-not-is_empty : goal.returns-then-not-is_empty
returns-then-not-is_empty c =
    let w = c.args.word.now in
    let filled : 0 < length w = grind (arith, nat_tests) in
    all_from_yields_List digit _ _ _ c.all.ensures.ran (YieldsList-from_slice w cc) (λ x b q k. search (rules, tests)) ∙ all_digits w filled
