-- Lines that have a word too many.
use Rattle.std.proofs.Common.{◌≡◌, ◌≢◌, ℕ, List, [], ◌∷◌, Err, Result, String, string_bytes, refl, sym, subst}
use Rattle.std.specs.declared.alloc.Global.{Global}
use Rattle.console.specs.Reader.{Reading, given, wrong, ReadsAs, if_end}
use Rattle.console.specs.declared.stop.Stop.{Stop}
use Rattle.console.specs.declared.stop.Stop.TheVariants.{Wrong}
use Rattle.console.specs.declared.stop.Wrong.{Wrong as Fault}

-- with words left, nothing is done
not_ended : {X : Type 0} (words texts : List (List ℕ)) (meant : Reading X) → words ≢ [] → if_end words texts meant ≡ wrong texts
not_ended [] texts meant n = absurd (n refl)
not_ended (word ∷ words) texts meant n = refl

-- so an answer that the line is wrong is right
pub wrong_end : (words texts : List (List ℕ)) (meant : Reading (List ℕ)) (result : Result (String Global) Stop) (fault : Fault)
    → words ≢ [] → result ≡ Err (Wrong fault) → ReadsAs string_bytes result texts (if_end words texts meant)
wrong_end words texts meant result fault n e =
    subst (λ (r : Result (String Global) Stop). ReadsAs string_bytes r texts (if_end words texts meant)) (sym e) (not_ended words texts meant n)

-- with no word left, a line that was given is the one
pub whole_line : (words texts : List (List ℕ)) (line meant : List ℕ) → words ≡ [] → line ≡ meant → if_end words texts (given meant texts) ≡ given line texts
whole_line words texts line meant w e = rw (w, e) refl
