-- Errors that stay what they are.
use Rattle.std.proofs.Common.{◌≡◌, ◌≢◌, ℕ, List, [], ◌∷◌, Err, Result, refl, sym, ap, ◌∙◌, subst}
use Rattle.console.specs.Reader.{Reading, given, wrong, ReadsAs, next, made, at_end}
use Rattle.console.specs.declared.stop.Stop.{Stop}
use Rattle.console.specs.declared.stop.Stop.TheVariants.{Wrong, Refused, NoMemory}
use Rattle.console.specs.declared.stop.Wrong.{Wrong as Fault}

-- an error says the same whatever was to be given
pub same_error : {X Y Z : Type 0} (v : X → Z) (w : Y → Z) (stop : Stop) (texts : List (List ℕ)) (meant : Reading Z) → ReadsAs v (Err stop) texts meant → ReadsAs w (Err stop) texts meant
same_error v w (Wrong x) texts meant e = e
same_error v w (Refused r) texts meant e = e
same_error v w NoMemory texts meant e = tt

-- an error of what is read first is the line's
pub fails_first : {X Y Z W : Type 0} (v : X → Z) (w : Y → W) (more : Z → List (List ℕ) → Reading W) (words : List (List ℕ)) (stop : Stop) (texts : List (List ℕ)) (meant : Reading Z)
    → ReadsAs v (Err stop) texts meant → ReadsAs w (Err stop) texts (at_end words (next meant more))
fails_first v w more [] (Wrong x) texts meant e = ap (λ m. next m more) e
fails_first v w more (word ∷ words) (Wrong x) texts meant e = ap (λ m. next (next m more) (λ y us. wrong us)) e
fails_first v w more [] (Refused r) texts meant e = ap (λ m. next m more) e
fails_first v w more (word ∷ words) (Refused r) texts meant e = ap (λ m. next (next m more) (λ y us. wrong us)) e
fails_first v w more words NoMemory texts meant e = tt

-- an error of what is read last is the line's
pub fails_last : {X Y Z W : Type 0} (v : X → Z) (w : Y → W) (f : Z → W) (words : List (List ℕ)) (stop : Stop) (texts : List (List ℕ)) (meant : Reading Z)
    → ReadsAs v (Err stop) texts meant → ReadsAs w (Err stop) texts (at_end words (made f meant))
fails_last v w f [] (Wrong x) texts meant e = ap (made f) e
fails_last v w f (word ∷ words) (Wrong x) texts meant e = ap (λ m. next (made f m) (λ y us. wrong us)) e
fails_last v w f [] (Refused r) texts meant e = ap (made f) e
fails_last v w f (word ∷ words) (Refused r) texts meant e = ap (λ m. next (made f m) (λ y us. wrong us)) e
fails_last v w f words NoMemory texts meant e = tt

-- an error of the second of two is the line's
pub second_fails : {V X Y Z W : Type 0} (v : V → Y) (w : W → Z) (f : X → Y → Z) (first : Reading X) (x : X) (between : List (List ℕ)) (second : List (List ℕ) → Reading Y)
    (words : List (List ℕ)) (stop : Stop) (texts : List (List ℕ)) (result : Result W Stop) → first ≡ given x between → ReadsAs v (Err stop) texts (second between) → result ≡ Err stop
    → ReadsAs w result texts (at_end words (next first (λ y after. made (f y) (second after))))
second_fails v w f first x between second words stop texts result g e r =
    subst (λ o. ReadsAs w o texts (at_end words (next first (λ y after. made (f y) (second after))))) (sym r)
    (subst (λ o. ReadsAs w (Err stop) texts (at_end words (next o (λ y after. made (f y) (second after))))) (sym g)
    (fails_last v w (f x) words stop texts (second between) e))

-- a word too many is wrong
too_many : {X : Type 0} (words texts : List (List ℕ)) (x : X) → words ≢ [] → at_end words (given x texts) ≡ wrong texts
too_many [] texts x n = absurd (n refl)
too_many (word ∷ words) texts x n = refl

-- a word too many behind two
pub over : {W X Y Z : Type 0} (w : W → Z) (f : X → Y → Z) (first : Reading X) (x : X) (between : List (List ℕ)) (second : List (List ℕ) → Reading Y) (y : Y) (words texts : List (List ℕ))
    (result : Result W Stop) (fault : Fault) → first ≡ given x between → second between ≡ given y texts → words ≢ [] → result ≡ Err (Wrong fault)
    → ReadsAs w result texts (at_end words (next first (λ y after. made (f y) (second after))))
over w f first x between second y words texts result fault g h n e =
    subst (λ r. ReadsAs w r texts (at_end words (next first (λ y after. made (f y) (second after))))) (sym e)
    (ap (λ r. at_end words (next r (λ y after. made (f y) (second after)))) g
    ∙ (ap (λ r. at_end words (made (f x) r)) h ∙ too_many words texts (f x y) n))
