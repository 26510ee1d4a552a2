-- The laws of naming a text, over the list of texts.
use Rattle.std.proofs.Common.{◌≡◌, ℕ, zero, suc, ◌+◌, ◌<◌, ◌≤◌, Bool, true, false, cond, ltb, List, [], ◌∷◌, ◌++◌, length, get_or, Some, None, Ok, Err, Option, Result, sym, refl, ap, ◌∙◌, subst, arith, length-append, le-ltb, lt-ltb}
use Rattle.refusals.specs.declared.refusal.Refusal.{Refusal}
use Rattle.refusals.specs.declared.refusal.Refusal.TheVariants.{TooLong, BookFull}
use Rattle.names.specs.Names.{Limits, number_of, distinct, fits, found_or, name_answer, with_new, name_after, Naming}
use Rattle.names.proofs.Names.{number_reads, distinct_one_to_one, distinct_more}

-- What is owed of the texts afterwards.
record Named (before after : List (List ℕ)) (text : List ℕ) (answer : Result ℕ Refusal) : Type 0 where
  law : Naming before after text answer
  apart : distinct after ≡ true

refused : (texts : List (List ℕ)) (text : List ℕ) (e : Refusal) → distinct texts ≡ true → Named texts texts text (Err e)
refused texts text e d = record {
  law = record {
    reads_back = λ n p. let z : ◌≡◌ {A = ℕ} 0 1 = cc in elim (let f : ⊥ = omega arith in f) [ ];
    stays = λ n h. (h, refl);
    one_to_one = distinct_one_to_one texts d;
  };
  apart = d;
}

found : (texts : List (List ℕ)) (text : List ℕ) (n : ℕ) → distinct texts ≡ true → number_of text texts ≡ Some n
    → Named texts texts text (Ok n)
found texts text n d e = record {
  law = record {
    reads_back = λ m p.
        let q : n ≡ m = cc in
        subst (λ (x : ℕ). (x < length texts) × (get_or texts x [] ≡ text)) q (number_reads text texts n e);
    stays = λ m h. (h, refl);
    one_to_one = distinct_one_to_one texts d;
  };
  apart = d;
}

entered : (texts : List (List ℕ)) (text : List ℕ) → distinct texts ≡ true → number_of text texts ≡ None
    → Named texts (texts ++ (text ∷ [])) text (Ok (length texts))
entered texts text d e =
    let l : length (texts ++ (text ∷ [])) ≡ length texts + 1 = length-append texts (text ∷ []) in
    let a = distinct_more texts text d e in
    record {
      law = record {
        reads_back = λ m p.
            let q : length texts ≡ m = cc in
            subst (λ (x : ℕ). (x < length (texts ++ (text ∷ []))) × (get_or (texts ++ (text ∷ [])) x [] ≡ text)) q
            (omega arith, last_read texts text);
        stays = λ m h. (omega arith, front_read texts text m h);
        one_to_one = distinct_one_to_one (texts ++ (text ∷ [])) a;
      };
      apart = a;
    }
  where
    last_read : (ts : List (List ℕ)) (t : List ℕ) → get_or (ts ++ (t ∷ [])) (length ts) [] ≡ t
    last_read [] t = refl
    last_read (s ∷ ts) t = last_read ts t

    front_read : (ts : List (List ℕ)) (t : List ℕ) (m : ℕ) → m < length ts → get_or (ts ++ (t ∷ [])) m [] ≡ get_or ts m []
    front_read [] t m h = elim (let f : ⊥ = omega arith in f) [ ]
    front_read (s ∷ ts) t zero h = refl
    front_read (s ∷ ts) t (suc m) h = front_read ts t m (omega arith)

by_cases : (texts : List (List ℕ)) (text : List ℕ) (long room : Bool) (o : Option ℕ) (e : Refusal) → distinct texts ≡ true
    → number_of text texts ≡ o
    → let answer : Result ℕ Refusal = cond long (Err e) (found_or o (cond room (Ok (length texts)) (Err BookFull))) in
    Named texts (with_new texts text answer) text answer
by_cases texts text true room o e d q = refused texts text e d
by_cases texts text false room (Some n) e d q =
    let h = number_reads text texts n q in
    subst (λ (b : Bool). Named texts (cond b texts (texts ++ (text ∷ []))) text (Ok n)) (sym (lt-ltb n (length texts) h.0))
    (found texts text n d q)
by_cases texts text false true None e d q =
    subst (λ (b : Bool). Named texts (cond b texts (texts ++ (text ∷ []))) text (Ok (length texts)))
    (sym (le-ltb (length texts) (length texts) (omega arith)))
    (entered texts text d q)
by_cases texts text false false None e d q = refused texts text BookFull d

named : (limits : Limits) (texts : List (List ℕ)) (text : List ℕ) → distinct texts ≡ true
    → Named texts (name_after limits texts text) text (name_answer limits texts text)
named limits texts text d =
    by_cases texts text (ltb 64 (length text)) (fits limits texts text) (number_of text texts) (TooLong (length text)) d refl

pub naming : (limits : Limits) (texts : List (List ℕ)) (text : List ℕ) → distinct texts ≡ true
    → Naming texts (name_after limits texts text) text (name_answer limits texts text)
naming limits texts text d = (named limits texts text d).law

-- Naming makes no repeat.
pub distinct_after : (limits : Limits) (texts : List (List ℕ)) (text : List ℕ) → distinct texts ≡ true
    → distinct (name_after limits texts text) ≡ true
distinct_after limits texts text d = (named limits texts text d).apart

-- The answer by its three tests.
answer_is : (limits : Limits) (texts : List (List ℕ)) (text : List ℕ) (long room : Bool) (o : Option ℕ) → ltb 64 (length text) ≡ long
    → number_of text texts ≡ o → fits limits texts text ≡ room
    → name_answer limits texts text ≡ cond long (Err (TooLong (length text))) (found_or o (cond room (Ok (length texts)) (Err BookFull)))
answer_is limits texts text long room o p q r = cc

-- What `name` owes of its answer and of the texts afterwards.
pub record Owed (limits : Limits) (texts after : List (List ℕ)) (text : List ℕ) (answer : Result ℕ Refusal) : Type 0 where
  pub answers : answer ≡ name_answer limits texts text
  pub leaves : after ≡ name_after limits texts text
  pub laws : Naming texts after text answer

owed : (limits : Limits) (texts after : List (List ℕ)) (text : List ℕ) (answer : Result ℕ Refusal) → distinct texts ≡ true
    → name_answer limits texts text ≡ answer → with_new texts text answer ≡ after → Owed limits texts after text answer
owed limits texts after text answer d e f =
    let g : name_after limits texts text ≡ after = ap (with_new texts text) e ∙ f in
    record {
      answers = sym e;
      leaves = sym g;
      laws = subst (λ (r : Result ℕ Refusal). Naming texts after text r) e
          (subst (λ (a : List (List ℕ)). Naming texts a text (name_answer limits texts text)) g (naming limits texts text d));
    }

pub owed_long : (limits : Limits) (texts : List (List ℕ)) (text : List ℕ) → distinct texts ≡ true → 64 < length text
    → Owed limits texts texts text (Err (TooLong (length text)))
owed_long limits texts text d h =
    owed limits texts texts text (Err (TooLong (length text))) d
    (answer_is limits texts text true (fits limits texts text) (number_of text texts) (lt-ltb 64 (length text) h) refl refl) refl

pub owed_found : (limits : Limits) (texts : List (List ℕ)) (text : List ℕ) (n : ℕ) → distinct texts ≡ true → length text ≤ 64
    → number_of text texts ≡ Some n → Owed limits texts texts text (Ok n)
owed_found limits texts text n d h e =
    owed limits texts texts text (Ok n) d
    (answer_is limits texts text false (fits limits texts text) (Some n) (le-ltb 64 (length text) h) e refl)
    (ap (λ (b : Bool). cond b texts (texts ++ (text ∷ []))) (lt-ltb n (length texts) (number_reads text texts n e).0))

pub owed_full : (limits : Limits) (texts : List (List ℕ)) (text : List ℕ) → distinct texts ≡ true → length text ≤ 64
    → number_of text texts ≡ None → fits limits texts text ≡ false → Owed limits texts texts text (Err BookFull)
owed_full limits texts text d h e f =
    owed limits texts texts text (Err BookFull) d (answer_is limits texts text false false None (le-ltb 64 (length text) h) e f) refl

pub owed_entered : (limits : Limits) (texts after : List (List ℕ)) (text : List ℕ) (n : ℕ) → distinct texts ≡ true → length text ≤ 64
    → number_of text texts ≡ None → fits limits texts text ≡ true → n ≡ length texts → after ≡ texts ++ (text ∷ [])
    → Owed limits texts after text (Ok n)
owed_entered limits texts after text n d h e f k a =
    owed limits texts after text (Ok n) d
    (answer_is limits texts text false true None (le-ltb 64 (length text) h) e f ∙ ap Ok (sym k))
    (ap (λ (b : Bool). cond b texts (texts ++ (text ∷ []))) (le-ltb n (length texts) (omega arith)) ∙ sym a)
