-- What a word spells, read from its front.
use Rattle.std.proofs.Common.{◌≡◌, ℕ, ◌<◌, Bool, cond, List, [], ◌∷◌, ◌++◌, length, Some, None, Option, sym, refl, ap, ◌∙◌, append_assoc, arith, ne_eqb}
use Rattle.script.specs.Percent.{hex_value, hex_byte, put, spelled, decoded}

-- A word that begins with another byte.
pub spelled_other : (b : ℕ) (word : List ℕ) → (b ≡ 37 → ⊥) → spelled (b ∷ word) ≡ put (Some b) (spelled word)
spelled_other b [] e = ap (λ (t : Bool). cond t None (Some (b ∷ []))) (ne_eqb b 37 e)
spelled_other b (h ∷ []) e = ap (λ (t : Bool). cond t None (put (Some b) (spelled (h ∷ [])))) (ne_eqb b 37 e)
spelled_other b (h ∷ (l ∷ word)) e =
    ap (λ (t : Bool). cond t (put (hex_byte (hex_value h) (hex_value l)) (spelled word)) (put (Some b) (spelled (h ∷ (l ∷ word))))) (ne_eqb b 37 e)

-- A text that may be there, behind another.
abbrev pub behind : List ℕ → Option (List ℕ) → Option (List ℕ)
behind front None = None
behind front (Some text) = Some (front ++ text)

pub behind_put : (front : List ℕ) (b : ℕ) (text : Option (List ℕ)) → behind front (put (Some b) text) ≡ behind (front ++ (b ∷ [])) text
behind_put front b None = refl
behind_put front b (Some text) = ap (λ (l : List ℕ). Some l) (sym (append_assoc front (b ∷ []) text))

-- A word that is neither empty nor `%` alone means what it spells.
pub decoded_spelled : (word : List ℕ) → 0 < length word → (word ≡ 37 ∷ [] → ⊥) → decoded word ≡ spelled word
decoded_spelled [] h k = absurd (omega arith)
decoded_spelled (b ∷ []) h k =
    let e = ne_eqb b 37 (λ e. k (ap (λ (c : ℕ). c ∷ []) e)) in
    ap (λ (t : Bool). cond t (Some []) (Some (b ∷ []))) e ∙ sym (ap (λ (t : Bool). cond t None (Some (b ∷ []))) e)
decoded_spelled (b ∷ (c ∷ word)) h k = refl
