use Rattle.std.proofs.Common.{◌≡◌, ℕ, ◌<◌, true, false, List, [], ◌∷◌, length, take, drop, sym, ap, ◌∙◌, subst, arith}
use Rattle.script.specs.Words.{words}
use Rattle.script.specs.Front.{front}
use Rattle.script.proofs.FirstWord.{front-within, words_skip, front_skip, first_word, no_word}
use Rattle.script.proofs.words.first_word.Goals as goal

-- A line cut behind the separators at its front, and again behind the bytes up to the next one.
record Cut (line middle word rest : List ℕ) : Type 0 where
  skipped : middle ≡ drop (front true line) line
  taken : word ≡ take (front false middle) middle
  left : rest ≡ drop (front false middle) middle

cut : (line middle word rest : List ℕ) (n m : ℕ) → n ≡ front true line → m ≡ front false middle → middle ≡ drop n line
    → word ≡ take m middle → rest ≡ drop m middle → Cut line middle word rest
cut line middle word rest n m e f p q r = record {
  skipped = p ∙ ap (λ (k : ℕ). drop k line) e;
  taken = q ∙ ap (λ (k : ℕ). take k middle) f;
  left = r ∙ ap (λ (k : ℕ). drop k middle) f;
}

some : (line middle word rest : List ℕ) → Cut line middle word rest → 0 < length word → words line ≡ word ∷ words rest
some line middle word rest k h =
    words_skip line ∙ ap words (sym k.skipped) ∙ first_word middle (subst (λ (w : List ℕ). 0 < length w) k.taken h)
    ∙ (λ i. sym k.taken i ∷ words (sym k.left i))

none : (line middle word rest : List ℕ) → Cut line middle word rest → length word ≡ 0 → (words line ≡ []) × (words rest ≡ [])
none line middle word rest k h =
    let e : middle ≡ [] = no_word middle (ap (front true) k.skipped ∙ front_skip line) (sym (ap length k.taken) ∙ h) in (
      words_skip line ∙ ap words (sym k.skipped ∙ e),
      ap words (k.left ∙ ap (λ (m : List ℕ). drop (front false m) m) e),
    )

pub split_at-requires : goal.split_at-requires
split_at-requires c = omega (arith, c.run_length.ensures, front-within true c.args.line.now)

pub split_at-requires-2 : goal.split_at-requires-2
split_at-requires-2 c = omega (arith, c.run_length-2.ensures, front-within false c.split_at.result.1.now)

pub returns : goal.returns
returns c =
    let k = cut c.args.line.now c.split_at.result.1.now c.split_at-2.result.0.now c.split_at-2.result.1.now c.run_length.result c.run_length-2.result
    c.run_length.ensures c.run_length-2.ensures c.split_at.ensures.back c.split_at-2.ensures.front c.split_at-2.ensures.back in
    record { some = some _ _ _ _ k; none = none _ _ _ _ k }
