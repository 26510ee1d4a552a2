-- Where a word is divided.
use Rattle.std.proofs.Common.{◌≡◌, ℕ, zero, suc, ◌+◌, ◌<◌, Bool, cond, List, [], ◌∷◌, length, get_or, take, drop, Some, None, Option, MatchOption, option_map, HoldsAt, sym, refl, ap, ◌∙◌, add-one, arith, eq-eqb, ne_eqb}
use Rattle.std.specs.List.{AllWithin}
use Rattle.script.specs.Parts.{with_front, split_once}

-- At the first place where the byte stands.
split_suc : (byte : ℕ) (word : List ℕ) (i : ℕ) → ((k : ℕ) → k < i → get_or word k 0 ≡ byte → ⊥) → i < length word → get_or word i 0 ≡ byte
    → split_once byte word ≡ Some (take i word, drop (suc i) word)
split_suc byte [] i before h e = elim (let z : ⊥ = omega arith in z) [ ]
split_suc byte (b ∷ bs) zero before h e = ap (λ (t : Bool). cond t (Some ([], bs)) (with_front b (split_once byte bs))) (eq-eqb b byte e)
split_suc byte (b ∷ bs) (suc i) before h e =
    ap (λ (t : Bool). cond t (Some ([], bs)) (with_front b (split_once byte bs))) (ne_eqb b byte (before 0 (omega arith)))
    ∙ ap (with_front b) (split_suc byte bs i (λ k l. before (suc k) (omega arith)) (omega arith) e)

split_at : (byte : ℕ) (word : List ℕ) (i : ℕ) → ((k : ℕ) → k < i → get_or word k 0 ≡ byte → ⊥) → i < length word → get_or word i 0 ≡ byte
    → split_once byte word ≡ Some (take i word, drop (i + 1) word)
split_at byte word i before h e =
    split_suc byte word i before h e ∙ ap (λ (n : ℕ). Some (take i word, drop n word)) (sym (add-one i))

-- Where the byte stands nowhere.
split_none : (byte : ℕ) (word : List ℕ) → ((k : ℕ) → k < length word → get_or word k 0 ≡ byte → ⊥) → split_once byte word ≡ None
split_none byte [] absent = refl
split_none byte (b ∷ bs) absent =
    ap (λ (t : Bool). cond t (Some ([], bs)) (with_front b (split_once byte bs))) (ne_eqb b byte (absent 0 (omega arith)))
    ∙ ap (with_front b) (split_none byte bs (λ k l. absent (suc k) (omega arith)))

-- By the place of the first such byte, or by none.
pub split_first : (byte : ℕ) (word : List ℕ) (place known : Option ℕ) → place ≡ known
    → MatchOption place (AllWithin (λ b. b ≡ byte → ⊥) word 0 (length word))
    (λ i. (i < length word) × HoldsAt (λ b. b ≡ byte) word i × AllWithin (λ b. b ≡ byte → ⊥) word 0 i)
    → split_once byte word ≡ option_map (λ i. (take i word, drop (i + 1) word)) known
split_first byte word place known e h = by place h ∙ ap (option_map (λ i. (take i word, drop (i + 1) word))) e where
  by : (place : Option ℕ) → MatchOption place (AllWithin (λ b. b ≡ byte → ⊥) word 0 (length word))
      (λ i. (i < length word) × HoldsAt (λ b. b ≡ byte) word i × AllWithin (λ b. b ≡ byte → ⊥) word 0 i)
      → split_once byte word ≡ option_map (λ i. (take i word, drop (i + 1) word)) place
  by None absent = split_none byte word (λ k l. absent k 0 (omega arith) l)
  by (Some i) first = split_at byte word i (λ k l. first.2 k 0 (omega arith) l) first.0 (first.1 0)
