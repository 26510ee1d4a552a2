-- A word that was told apart byte by byte.
use Rattle.std.proofs.Common.{◌≡◌, ℕ, List, length, sym, ap}
use Rattle.std.proofs.lemmas.Slice.Eq.{HasBytesAt, text_from_reads}

-- what holds of the word that it spells, holds of it
pub spelled : {X : Type 0} (f : List ℕ → X) (word p : List ℕ) → length word ≡ length p → HasBytesAt word 0 p → f p ≡ f word
spelled f word p l h = ap f (sym (text_from_reads word p l h))
