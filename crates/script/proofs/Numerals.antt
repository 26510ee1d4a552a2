-- Decimal numbers, digit by digit.
use Rattle.std.proofs.Common.{◌≡◌, ℕ, ◌+◌, ◌-◌, ◌*◌, ◌/◌, ◌%◌, ◌^◌, ◌<◌, ◌≤◌, Bool, true, false, cond, ◌&&◌, leb, List, [], ◌∷◌, ◌++◌, length, Some, None, decimal, Option, sym, refl, ap, ◌∙◌, arith, le-leb, leb-false, leb-true}
use native.Mathlib.Nat.{div-add-mod}
use borrow.Author.Tests.{lt-leb}
use Rattle.std.proofs.lemmas.Fmt.{decimal_by_steps, decimal_nonempty}
use Rattle.std.proofs.lemmas.Bool.Decides.{nat_tests}
use Rattle.script.specs.Number.{one_more, continued, numeral, at_most}

-- Where there is no number, digits make none.
pub none_stays : (word : List ℕ) → continued None word ≡ None
none_stays [] = refl
none_stays (b ∷ word) = none_stays word

-- A number above the bound stays above it.
over_stays : (most n : ℕ) (word : List ℕ) → most < n → at_most most (continued (Some n) word) ≡ None
over_stays most n [] h = ap (λ (t : Bool). cond t (Some n) None) (lt-leb n most h)
over_stays most n (b ∷ word) h =
    by (leb 48 b && leb b 57) (over_stays most (10 * n + (b - 48)) word (omega arith)) where
      by : (t : Bool) → at_most most (continued (Some (10 * n + (b - 48))) word) ≡ None
          → at_most most (continued (cond t (Some (10 * n + (b - 48))) None) word) ≡ None
      by true e = e
      by false e = ap (at_most most) (none_stays word)

-- So it does not matter whether the bound is tested early.
pub early : (most : ℕ) (number : Option ℕ) (word : List ℕ) → at_most most (continued (at_most most number) word) ≡ at_most most (continued number word)
early most None word = refl
early most (Some n) word = by (leb n most) refl where
  by : (t : Bool) → leb n most ≡ t → at_most most (continued (cond t (Some n) None) word) ≡ at_most most (continued (Some n) word)
  by true e = refl
  by false e = ap (at_most most) (none_stays word) ∙ sym (over_stays most n word (leb-false n most e))

pub at_most_below : (most n : ℕ) (number : Option ℕ) → at_most most number ≡ Some n → n ≤ most
at_most_below most n None e = let z : ◌≡◌ {A = ℕ} 0 1 = cc in absurd (omega arith)
at_most_below most n (Some m) e = by (leb m most) refl e where
  by : (t : Bool) → leb m most ≡ t → cond t (Some m) None ≡ Some n → n ≤ most
  by true k e = let same : m ≡ n = cc in omega (arith, leb-true m most k)
  by false k e = let z : ◌≡◌ {A = ℕ} 0 1 = cc in absurd (omega arith)

pub at_most-fits : (most n : ℕ) → n ≤ most → at_most most (Some n) ≡ Some n
at_most-fits most n h = ap (λ (t : Bool). cond t (Some n) None) (le-leb n most h)

-- A word that is not empty, read from 0 on.
pub numeral_continued : (word : List ℕ) → 0 < length word → numeral word ≡ continued (Some 0) word
numeral_continued [] h = absurd (omega arith)
numeral_continued (b ∷ word) h = refl

continued_push : (number : Option ℕ) (word : List ℕ) (b : ℕ) → continued number (word ++ (b ∷ [])) ≡ one_more (continued number word) b
continued_push number [] b = refl
continued_push number (c ∷ word) b = continued_push (one_more number c) word b

digit_more : (n d : ℕ) → d < 10 → one_more (Some n) (48 + d) ≡ Some (10 * n + d)
digit_more n d h =
    let t : (leb 48 (48 + d) && leb (48 + d) 57) ≡ true = grind (arith, nat_tests) in
    let s : 48 + d - 48 ≡ d = omega arith in
    ap (λ (t : Bool). cond t (Some (10 * n + (48 + d - 48))) None) t ∙ ap (λ (x : ℕ). Some (10 * n + x)) s

-- What is printed of a number reads as the number.
numeral_decimal : (n : ℕ) → n < 2 ^ 64 → numeral (decimal n) ≡ Some n
numeral_decimal n h =
    numeral_continued (decimal n) (decimal_nonempty n h) ∙ decimal_by_steps (λ m ds. continued (Some 0) ds ≡ Some m) one more n h where
      one : (m : ℕ) → m < 10 → continued (Some 0) ((48 + m) ∷ []) ≡ Some m
      one m l = digit_more 0 m l ∙ ap (λ (x : ℕ). Some x) (let s : 10 * 0 + m ≡ m = omega arith in s)

      more : (m : ℕ) (ds : List ℕ) → 10 ≤ m → continued (Some 0) ds ≡ Some (m / 10) → continued (Some 0) (ds ++ ((48 + m % 10) ∷ [])) ≡ Some m
      more m ds l e =
          continued_push (Some 0) ds (48 + m % 10) ∙ ap (λ (o : Option ℕ). one_more o (48 + m % 10)) e ∙ digit_more (m / 10) (m % 10) (omega arith)
          ∙ ap (λ (x : ℕ). Some x) (div-add-mod m 10)

pub reads_back : (most : ℕ) (word : List ℕ) (r : Option ℕ) → most < 2 ^ 32 → r ≡ at_most most (numeral word)
    → (n : ℕ) → n ≤ most → word ≡ decimal n → r ≡ Some n
reads_back most word r h e n l f =
    e ∙ ap (λ (w : List ℕ). at_most most (numeral w)) f ∙ ap (at_most most) (numeral_decimal n (omega arith)) ∙ at_most-fits most n l
