-- The parts of a list of entities.
use Rattle.std.proofs.Common.{◌≡◌, ℕ, suc, ◌<◌, Bool, true, false, cond, List, [], ◌∷◌, length, Some, None, Option, ◌==◌, sym, refl, ap, ◌∙◌, arith}
use Rattle.std.specs.List.{slice_split, onto_first}
use Rattle.names.specs.Names.{Limits}
use Rattle.script.specs.Parts.{split_once, with_front}
use Rattle.console.specs.Actions.{is_comma, entities}
use Rattle.console.specs.Reader.{each, entity}

-- what is split at the first comma, once and at all of them
abbrev cut : List ℕ → Option (List ℕ × List ℕ) → List (List ℕ)
cut word None = word ∷ []
cut word (Some parts) = parts.0 ∷ slice_split is_comma parts.1

cut_front : (b : ℕ) (word : List ℕ) (o : Option (List ℕ × List ℕ)) → onto_first b (cut word o) ≡ cut (b ∷ word) (with_front b o)
cut_front b word None = refl
cut_front b word (Some parts) = refl

cuts : (word : List ℕ) → slice_split is_comma word ≡ cut word (split_once 44 word)
cuts [] = refl
cuts (b ∷ word) = go (b == 44) (cuts word)
  where
    go : (c : Bool) → slice_split is_comma word ≡ cut word (split_once 44 word)
        → cond c ([] ∷ slice_split is_comma word) (onto_first b (slice_split is_comma word)) ≡ cut (b ∷ word) (cond c (Some ([], word)) (with_front b (split_once 44 word)))
    go true ih = refl
    go false ih = ap (onto_first b) ih ∙ cut_front b word (split_once 44 word)

pub cut_first : (word part behind : List ℕ) → Some (part, behind) ≡ split_once 44 word → slice_split is_comma word ≡ part ∷ slice_split is_comma behind
cut_first word part behind e = cuts word ∙ ap (cut word) (sym e)

pub cut_none : (word : List ℕ) → None ≡ split_once 44 word → slice_split is_comma word ≡ word ∷ []
cut_none word e = cuts word ∙ ap (cut word) (sym e)

-- what stands behind a comma is shorter
pub shorter_part : (word : List ℕ) (p : List ℕ × List ℕ) → Some p ≡ split_once 44 word → length p.1 < length word
shorter_part [] p e = let z : ◌≡◌ {A = ℕ} 0 1 = cc in absurd (omega arith)
shorter_part (b ∷ word) p e = go (b == 44) (split_once 44 word) (shorter_part word) e
  where
    go : (c : Bool) (o : Option (List ℕ × List ℕ)) → ((q : List ℕ × List ℕ) → Some q ≡ o → length q.1 < length word)
        → Some p ≡ cond c (Some ([], word)) (with_front b o) → length p.1 < suc (length word)
    go true o ih e = let z : p.1 ≡ word = cc in omega (arith, ap length z)
    go false None ih e = let z : ◌≡◌ {A = ℕ} 0 1 = cc in absurd (omega arith)
    go false (Some q) ih e = let z : p.1 ≡ q.1 = cc in omega (arith, ap length z, ih q refl)

-- the list of a word that is not empty
pub filled : (limits : Limits) (texts : List (List ℕ)) (word : List ℕ) → 0 < length word → entities limits texts word ≡ each (entity limits) texts (slice_split is_comma word)
filled limits texts [] l = absurd (omega (arith, l))
filled limits texts (b ∷ word) l = refl
