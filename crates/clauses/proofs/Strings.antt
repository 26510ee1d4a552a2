-- The scanner is outside strings exactly behind bytes that leave no string open.
use Rattle.std.proofs.Common.{◌≡◌, ℕ, true, false, eqb, List, [], ◌∷◌, ◌++◌, sym, refl, ap, ◌∙◌, subst, inl, inr, arith}
use Rattle.std.proofs.lemmas.Bool.{cases_Bool, eqb-true, eqb-false, ne_eqb}
use Rattle.clauses.specs.declared.sealed.scanner.Scanner.{Scanner}
use Rattle.clauses.specs.declared.sealed.scanner.Scanner.TheVariants.{Plain, String, Escaped}
use Rattle.clauses.specs.Sealed.{Inside, Closed, stepped}
use Rattle.clauses.specs.Sealed as sealed

-- Where the scanner stands behind some bytes.
abbrev pub after : Scanner → List ℕ → Scanner
after state [] = state
after state (b ∷ bs) = after (stepped state b) bs

opens : (b : ℕ) → eqb b 34 ≡ true → stepped Plain b ≡ String
opens b q = rw q

stays : (b : ℕ) → eqb b 34 ≡ false → stepped Plain b ≡ Plain
stays b q = rw q

closes : (b : ℕ) → eqb b 34 ≡ true → stepped String b ≡ Plain
closes b q = rw q

escapes : (b : ℕ) → eqb b 34 ≡ false → eqb b 92 ≡ true → stepped String b ≡ Escaped
escapes b q e = rw (q, e)

goes_on : (b : ℕ) → eqb b 34 ≡ false → eqb b 92 ≡ false → stepped String b ≡ String
goes_on b q e = rw (q, e)

string_ends : (inside bs : List ℕ) → Inside inside → after String (inside ++ (34 ∷ bs)) ≡ after Plain bs
string_ends inside bs sealed.Inside.none = refl
string_ends inside bs (sealed.Inside.plain {b = b} {bs = more} q e i) =
    ap (λ (s : Scanner). after s (more ++ (34 ∷ bs))) (goes_on b (ne_eqb b 34 q) (ne_eqb b 92 e)) ∙ string_ends more bs i
string_ends inside bs (sealed.Inside.escaped {b = b} {bs = more} i) = string_ends more bs i

pub closed_after : (bs : List ℕ) → Closed bs → after Plain bs ≡ Plain
closed_after bs sealed.Closed.none = refl
closed_after bs (sealed.Closed.plain {b = b} {bs = more} q c) =
    ap (λ (s : Scanner). after s more) (stays b (ne_eqb b 34 q)) ∙ closed_after more c
closed_after bs (sealed.Closed.string {inside = inside} {bs = more} i c) = string_ends inside more i ∙ closed_after more c

-- What the bytes are that lead out of a string.
record Ends (bs : List ℕ) : Type 0 where
  inside : List ℕ
  rest : List ℕ
  split : bs ≡ inside ++ (34 ∷ rest)
  within : Inside inside
  closed : Closed rest

-- What the bytes are that lead from a state out of all strings.
abbrev Leads : Scanner → List ℕ → Type 0
Leads Plain bs = Closed bs
Leads String bs = Ends bs
Leads Escaped bs = (b : ℕ) × (more : List ℕ) × (bs ≡ b ∷ more) × Ends more

along : (state next : Scanner) (bs : List ℕ) → state ≡ next → after state bs ≡ Plain → after next bs ≡ Plain
along state next bs e h = ap (λ (s : Scanner). after s bs) (sym e) ∙ h

leads : (bs : List ℕ) (state : Scanner) → after state bs ≡ Plain → Leads state bs
leads [] Plain h = sealed.Closed.none
leads [] String h = let z : ◌≡◌ {A = ℕ} 0 1 = cc in absurd (omega arith)
leads [] Escaped h = let z : ◌≡◌ {A = ℕ} 0 1 = cc in absurd (omega arith)
leads (b ∷ bs) Plain h =
    elim (cases_Bool (eqb b 34)) [
      | inl q ↦
          let w = leads bs String (along (stepped Plain b) String bs (opens b q) h) in
          subst (λ (l : List ℕ). Closed l) (sym (ap (λ (x : ℕ). x ∷ bs) (eqb-true b 34 q) ∙ ap (λ (l : List ℕ). 34 ∷ l) w.split))
          (sealed.Closed.string w.within w.closed)
      | inr q ↦ sealed.Closed.plain (eqb-false b 34 q) (leads bs Plain (along (stepped Plain b) Plain bs (stays b q) h))
    ]
leads (b ∷ bs) String h =
    elim (cases_Bool (eqb b 34)) [
      | inl q ↦
          record {
            inside = [];
            rest = bs;
            split = ap (λ (x : ℕ). x ∷ bs) (eqb-true b 34 q);
            within = sealed.Inside.none;
            closed = leads bs Plain (along (stepped String b) Plain bs (closes b q) h);
          }
      | inr q ↦ elim (cases_Bool (eqb b 92)) [
        | inl e ↦
            let w = leads bs Escaped (along (stepped String b) Escaped bs (escapes b q e) h) in
            let k = w.3 in
            record {
              inside = 92 ∷ (w.0 ∷ k.inside);
              rest = k.rest;
              split = ap (λ (x : ℕ). x ∷ bs) (eqb-true b 92 e) ∙ ap (λ (l : List ℕ). 92 ∷ l) (w.2 ∙ ap (λ (l : List ℕ). w.0 ∷ l) k.split);
              within = sealed.Inside.escaped k.within;
              closed = k.closed;
            }
        | inr e ↦
            let w = leads bs String (along (stepped String b) String bs (goes_on b q e) h) in
            record {
              inside = b ∷ w.inside;
              rest = w.rest;
              split = ap (λ (l : List ℕ). b ∷ l) w.split;
              within = sealed.Inside.plain (eqb-false b 34 q) (eqb-false b 92 e) w.within;
              closed = w.closed;
            }
      ]
    ]
leads (b ∷ bs) Escaped h = (b, bs, refl, leads bs String h)

pub after_closed : (bs : List ℕ) → after Plain bs ≡ Plain → Closed bs
after_closed bs h = leads bs Plain h
