-- The scan accepts exactly the type names.
use Rattle.std.proofs.Common.{◌≡◌, ℕ, Bool, true, false, cond, eqb, List, [], ◌∷◌, ◌++◌, Some, None, Option, Decides, sym, refl, ap, ◌∙◌, eqb-true}
use Rattle.std.specs.Prelude.{option_and_then}
use Rattle.std.specs.Option.{MatchOption}
use borrow.Author.Tests.{clash}
use Rattle.names.specs.declared.type_name.Scan.{Scan}
use Rattle.names.specs.declared.type_name.Scan.TheVariants.{Start, Inside, Colon}
use Rattle.names.specs.TypeName.{letter, word, words, identifier, identifiers, joined, TypeName}
use Rattle.names.specs.Scan.{stepped, scanned, accepts}
use Rattle.std.proofs.lemmas.Bool.{and_parts, and_from}

-- The scan of more bytes, where it is not broken yet.
abbrev on : Option Scan → List ℕ → Option Scan
on o bs = option_and_then (λ (t : Scan). scanned t bs) o

on_on : (o : Option Scan) (xs ys : List ℕ) → ((t : Scan) → scanned t (xs ++ ys) ≡ on (scanned t xs) ys) → on o (xs ++ ys) ≡ on (on o xs) ys
on_on None xs ys f = refl
on_on (Some t) xs ys f = f t

scanned-append : (s : Scan) (xs ys : List ℕ) → scanned s (xs ++ ys) ≡ on (scanned s xs) ys
scanned-append s [] ys = refl
scanned-append s (x ∷ xs) ys = on_on (stepped s x) xs ys (λ t. scanned-append t xs ys)

words_inside : (bs : List ℕ) → words bs ≡ true → scanned Inside bs ≡ Some Inside
words_inside [] h = refl
words_inside (b ∷ bs) h =
    let w = and_parts (word b) (words bs) h in
    ap (λ (t : Bool). on (cond t (Some Inside) (cond (eqb b 58) (Some Colon) None)) bs) w.0 ∙ words_inside bs w.1

identifier_inside : (t : List ℕ) → identifier t ≡ true → scanned Start t ≡ Some Inside
identifier_inside [] h = elim (clash h) [ ]
identifier_inside (b ∷ bs) h =
    let w = and_parts (letter b) (words bs) h in
    ap (λ (t : Bool). on (cond t (Some Inside) None) bs) w.0 ∙ words_inside bs w.1

joined_inside : (first : List ℕ) (rest : List (List ℕ)) → identifier first ≡ true → identifiers rest ≡ true
    → scanned Start (joined first rest) ≡ Some Inside
joined_inside first [] h k = identifier_inside first h
joined_inside first (next ∷ rest) h k =
    let w = and_parts (identifier next) (identifiers rest) k in
    scanned-append Start first (58 ∷ 58 ∷ joined next rest)
    ∙ ap (λ (o : Option Scan). on o (58 ∷ 58 ∷ joined next rest)) (identifier_inside first h)
    ∙ joined_inside next rest w.0 w.1

-- The rest of an identifier, and the identifiers after it.
record Tail (text : List ℕ) : Type 0 where
  begun : List ℕ
  rest : List (List ℕ)
  begun_keeps : words begun ≡ true
  rest_keep : identifiers rest ≡ true
  spelled : joined begun rest ≡ text

-- The second colon, and a type name.
record Second (text : List ℕ) : Type 0 where
  after : List ℕ
  split : text ≡ 58 ∷ after
  named : TypeName after

-- What a text is that is accepted from a state on.
abbrev Reads : Option Scan → List ℕ → Type 0
Reads None text = ⊥
Reads (Some Start) text = TypeName text
Reads (Some Inside) text = Tail text
Reads (Some Colon) text = Second text

joined_more : (b : ℕ) (first : List ℕ) (rest : List (List ℕ)) → joined (b ∷ first) rest ≡ b ∷ joined first rest
joined_more b first [] = refl
joined_more b first (next ∷ rest) = refl

at_start : (b : ℕ) (bs : List ℕ) (l : Bool) → letter b ≡ l → Reads (cond l (Some Inside) None) bs → TypeName (b ∷ bs)
at_start b bs true e r = record {
  first = b ∷ r.begun;
  rest = r.rest;
  first_keeps = and_from (letter b) (words r.begun) e r.begun_keeps;
  rest_keep = r.rest_keep;
  spelled = joined_more b r.begun r.rest ∙ ap (λ (t : List ℕ). b ∷ t) r.spelled;
}
at_start b bs false e r = elim r [ ]

at_colon : (b : ℕ) (bs : List ℕ) (l : Bool) → eqb b 58 ≡ l → Reads (cond l (Some Start) None) bs → Second (b ∷ bs)
at_colon b bs true e r = record { after = bs; split = ap (λ (x : ℕ). x ∷ bs) (eqb-true b 58 e); named = r }
at_colon b bs false e r = elim r [ ]

after_word : (b : ℕ) (bs : List ℕ) (l : Bool) → eqb b 58 ≡ l → Reads (cond l (Some Colon) None) bs → Tail (b ∷ bs)
after_word b bs true e r = record {
  begun = [];
  rest = r.named.first ∷ r.named.rest;
  begun_keeps = refl;
  rest_keep = and_from (identifier r.named.first) (identifiers r.named.rest) r.named.first_keeps r.named.rest_keep;
  spelled =
      ap (λ (t : List ℕ). 58 ∷ 58 ∷ t) r.named.spelled
      ∙ ap (λ (t : List ℕ). 58 ∷ t) (sym r.split)
      ∙ ap (λ (x : ℕ). x ∷ bs) (sym (eqb-true b 58 e));
}
after_word b bs false e r = elim r [ ]

at_inside : (b : ℕ) (bs : List ℕ) (l : Bool) → word b ≡ l → Reads (cond l (Some Inside) (cond (eqb b 58) (Some Colon) None)) bs → Tail (b ∷ bs)
at_inside b bs true e r = record {
  begun = b ∷ r.begun;
  rest = r.rest;
  begun_keeps = and_from (word b) (words r.begun) e r.begun_keeps;
  rest_keep = r.rest_keep;
  spelled = joined_more b r.begun r.rest ∙ ap (λ (t : List ℕ). b ∷ t) r.spelled;
}
at_inside b bs false e r = after_word b bs (eqb b 58) refl r

step : (s : Scan) (b : ℕ) (bs : List ℕ) → Reads (stepped s b) bs → Reads (Some s) (b ∷ bs)
step Start b bs r = at_start b bs (letter b) refl r
step Inside b bs r = at_inside b bs (word b) refl r
step Colon b bs r = at_colon b bs (eqb b 58) refl r

at_end : (s : Scan) → accepts (Some s) ≡ true → Reads (Some s) []
at_end Start h = elim (clash h) [ ]
at_end Inside h = record { begun = []; rest = []; begun_keeps = refl; rest_keep = refl; spelled = refl }
at_end Colon h = elim (clash h) [ ]

reads_on : (o : Option Scan) (bs : List ℕ) → ((t : Scan) → accepts (scanned t bs) ≡ true → Reads (Some t) bs) → accepts (on o bs) ≡ true → Reads o bs
reads_on None bs f h = elim (clash h) [ ]
reads_on (Some t) bs f h = f t h

reads : (s : Scan) (bs : List ℕ) → accepts (scanned s bs) ≡ true → Reads (Some s) bs
reads s [] h = at_end s h
reads s (b ∷ bs) h = step s b bs (reads_on (stepped s b) bs (λ t. reads t bs) h)

-- A text is a type name exactly when the scan from the start ends inside an identifier.
pub scan_decides : (text : List ℕ) → Decides (accepts (scanned Start text)) (TypeName text)
scan_decides text = (
  reads Start text,
  λ t. ap (λ (x : List ℕ). accepts (scanned Start x)) (sym t.spelled)
      ∙ ap accepts (joined_inside t.first t.rest t.first_keeps t.rest_keep),
)

-- The same, of an answer that asks where the scan ends.
pub scan_told : {Asked : Scan → Type 0} (text : List ℕ) (o : Option Scan) (told : Bool) → o ≡ scanned Start text
    → MatchOption o (told ≡ false) Asked → ((s : Scan) → Asked s → told ≡ accepts (Some s)) → Decides told (TypeName text)
scan_told {Asked = Asked} text o told e m f =
    let d = scan_decides text in
    let r = by o m ∙ ap accepts e in
    (λ t. d.0 (sym r ∙ t), λ n. r ∙ d.1 n)
  where
    by : (o : Option Scan) → MatchOption o (told ≡ false) Asked → told ≡ accepts o
    by None h = h
    by (Some s) h = f s h
