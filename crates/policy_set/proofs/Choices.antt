-- One turn of each loop that chooses names.
use Rattle.std.proofs.Common.{◌≡◌, ℕ, suc, ◌+◌, ◌-◌, ◌<◌, ◌≤◌, Bool, true, false, List, length, Some, None, Option, unwrap_or, sym, ap, subst, not, is_some, ◌∙◌, arith}
use Rattle.std.proofs.lemmas.Bool.{cond-true, cond-false}
use Rattle.names.specs.declared.kept.NameBook.{NameBook}
use Rattle.names.specs.Book.{texts}
use Rattle.names.specs.Names.{number_of}
use Rattle.names.proofs.Keeping.{kept_count}
use Rattle.policy_set.specs.declared.merge.attempt.Try.{Try}
use Rattle.policy_set.specs.Choice.{candidate, attempt, first_free, Next}
use Rattle.policy_set.specs.Tables.{one_if}
use Rattle.policy_set.proofs.NewNames.{number_below}

-- a book has at most 1,024 names
pub few_names : (book : NameBook) → length (texts book) ≤ 1024
few_names book =
    omega (arith, kept_count book.texts, book.texts.few, book.most_places)

-- the number of a text, or the next one
pub small_number : (ts : List (List ℕ)) (c next : ℕ) (o : Option ℕ) → length ts ≤ next → o ≡ number_of (candidate c) ts → unwrap_or o next ≤ next
small_number ts c next None h e = omega arith
small_number ts c next (Some m) h e = omega (arith, h, number_below ts c m (sym e))

-- a try leaves at most one new text more
pub next_of : (ts : List (List ℕ)) (fresh c : ℕ) (t : Try) → t ≡ attempt ts fresh c → Next fresh t
next_of ts fresh c t e = subst (Next fresh) (sym e) record { low = omega arith; high = high (is_some (number_of (candidate c) ts)); past = omega arith }
  where
    high : (b : Bool) → fresh + one_if (not b) ≤ fresh + 1
    high true = omega arith
    high false = omega arith

-- a try that is free, or not
pub free_hit : (ts : List (List ℕ)) (taken : ℕ → Bool) (limit fresh c : ℕ) (t : Try) → c < limit → t ≡ attempt ts fresh c → false ≡ taken t.name
    → first_free ts taken (limit - c) fresh c ≡ Some t
free_hit ts taken limit fresh c t h e f =
    let m : limit - c ≡ suc (limit - (c + 1)) = omega arith in
    ap (λ j. first_free ts taken j fresh c) m
    ∙ (cond-false (taken (attempt ts fresh c).name) (first_free ts taken (limit - (c + 1)) fresh (c + 1)) (Some (attempt ts fresh c)) (ap (λ (u : Try). taken u.name) (sym e) ∙ sym f)
    ∙ ap Some (sym e))

pub free_miss : (ts : List (List ℕ)) (taken : ℕ → Bool) (limit fresh c : ℕ) (t : Try) → c < limit → t ≡ attempt ts fresh c → true ≡ taken t.name
    → first_free ts taken (limit - (c + 1)) fresh (c + 1) ≡ first_free ts taken (limit - c) fresh c
free_miss ts taken limit fresh c t h e f =
    let m : limit - c ≡ suc (limit - (c + 1)) = omega arith in
    sym (ap (λ j. first_free ts taken j fresh c) m
    ∙ cond-true (taken (attempt ts fresh c).name) (first_free ts taken (limit - (c + 1)) fresh (c + 1)) (Some (attempt ts fresh c)) (ap (λ (u : Try). taken u.name) (sym e) ∙ sym f))
