-- Which part of the whole list is the piece of a number, and one piece more.
use Rattle.std.proofs.Common.{◌≡◌, ℕ, zero, suc, ◌+◌, ◌-◌, ◌<◌, ◌≤◌, true, eqb, leb, List, [], ◌∷◌, ◌++◌, length, get_or, take, drop, sym, refl, ap, ◌∙◌, subst, arith, length-append, length-drop, take_all, eq-eqb, eqb-true, le-leb, leb-true}
use lib.Seq.{drop-append_seam, drop-append-le, take-append-le}
use Rattle.names.specs.Pieces.{pieces, rising, start_of}
use Rattle.std.proofs.lemmas.Bool.{and_parts, and_from}

start_step : (end : ℕ) (ends : List ℕ) (n : ℕ) → start_of end ends n ≡ get_or (end ∷ ends) n 0
start_step end ends zero = refl
start_step end ends (suc n) = refl

pub piece_at : {X : Type 0} → (start : ℕ) (ends : List ℕ) (all : List X) (n : ℕ) → n < length ends
    → get_or (pieces start ends all) n [] ≡ take (get_or ends n 0 - start_of start ends n) (drop (start_of start ends n) all)
piece_at start [] all n h = elim (let e : ⊥ = omega arith in e) [ ]
piece_at start (end ∷ ends) all zero h = refl
piece_at start (end ∷ ends) all (suc n) h =
    piece_at end ends all n (omega arith)
    ∙ ap (λ (x : ℕ). take (get_or ends n 0 - x) (drop x all)) (start_step end ends n)

pub rising_total : (start : ℕ) (ends : List ℕ) (total : ℕ) → rising start ends total ≡ true → start ≤ total
rising_total start [] total h = let e = eqb-true start total h in omega arith
rising_total start (end ∷ ends) total h =
    let w = and_parts (leb start end) (rising end ends total) h in
    let l = leb-true start end w.0 in
    let k = rising_total end ends total w.1 in
    omega arith

-- A piece starts at or before its end, which is within the whole.
pub piece_within : (start : ℕ) (ends : List ℕ) (total n : ℕ) → rising start ends total ≡ true → n < length ends
    → (start_of start ends n ≤ get_or ends n 0) × (get_or ends n 0 ≤ total)
piece_within start [] total n h l = elim (let e : ⊥ = omega arith in e) [ ]
piece_within start (end ∷ ends) total zero h l =
    let w = and_parts (leb start end) (rising end ends total) h in
    (leb-true start end w.0, rising_total end ends total w.1)
piece_within start (end ∷ ends) total (suc n) h l =
    let w = and_parts (leb start end) (rising end ends total) h in
    let k = piece_within end ends total n w.1 (omega arith) in
    (subst (λ (x : ℕ). x ≤ get_or ends n 0) (start_step end ends n) k.0, k.1)

pub length-pieces : {X : Type 0} → (start : ℕ) (ends : List ℕ) (all : List X) → length (pieces start ends all) ≡ length ends
length-pieces start [] all = refl
length-pieces start (end ∷ ends) all = ap suc (length-pieces end ends all)

pub start_first : (ends : List ℕ) (n : ℕ) → n ≡ 0 → 0 ≡ start_of 0 ends n
start_first ends n e = ap (λ (x : ℕ). start_of 0 ends x) (sym e)

pub start_later : (ends : List ℕ) (n : ℕ) → 0 < n → get_or ends (n - 1) 0 ≡ start_of 0 ends n
start_later ends zero h = elim (let e : ⊥ = omega arith in e) [ ]
start_later ends (suc n) h = ap (λ (x : ℕ). get_or ends x 0) (let e : suc n - 1 ≡ n = omega arith in e)

-- A piece put behind the last end.
pub pieces_more : {X : Type 0} → (start : ℕ) (ends : List ℕ) (all more : List X) (end : ℕ) → rising start ends (length all) ≡ true
    → end ≡ length all + length more → pieces start (ends ++ (end ∷ [])) (all ++ more) ≡ pieces start ends all ++ (more ∷ [])
pieces_more start [] all more end h k =
    let s = eqb-true start (length all) h in
    let d : (drop start (all ++ more) ≡ more) = ap (λ (x : ℕ). drop x (all ++ more)) s ∙ drop-append_seam all more in
    ap (λ (l : List _). l ∷ []) (ap (λ (l : List _). take (end - start) l) d ∙ take_all (end - start) more (omega arith))
pieces_more start (next ∷ ends) all more end h k =
    let w = and_parts (leb start next) (rising next ends (length all)) h in
    let l = leb-true start next w.0 in
    let m = rising_total next ends (length all) w.1 in
    let d : (drop start (all ++ more) ≡ drop start all ++ more) = drop-append-le start all more (omega arith) in
    let q : (take (next - start) (drop start (all ++ more)) ≡ take (next - start) (drop start all)) =
    ap (λ (x : List _). take (next - start) x) d
    ∙ take-append-le (next - start) (drop start all) more (omega (arith, length-drop start all)) in
    ap (λ (x : List _). x ∷ pieces next (ends ++ (end ∷ [])) (all ++ more)) q
    ∙ ap (λ (x : List (List _)). take (next - start) (drop start all) ∷ x) (pieces_more next ends all more end w.1 k)

pub rising_more : (start : ℕ) (ends : List ℕ) (total end : ℕ) → rising start ends total ≡ true → total ≤ end
    → rising start (ends ++ (end ∷ [])) end ≡ true
rising_more start [] total end h l =
    and_from (leb start end) (eqb end end) (le-leb start end (let s = eqb-true start total h in omega arith)) (eq-eqb end end refl)
rising_more start (next ∷ ends) total end h l =
    let w = and_parts (leb start next) (rising next ends total) h in
    and_from (leb start next) (rising next (ends ++ (end ∷ [])) end) w.0 (rising_more next ends total end w.1 l)

-- A piece put behind the last one, with its end behind the last end.
pub put_behind : {X : Type 0} (ends ends' : List ℕ) (items items' piece : List X) (end : ℕ) → rising 0 ends (length items) ≡ true
    → ends' ≡ ends ++ (end ∷ []) → items' ≡ items ++ piece → end ≡ length items'
    → (rising 0 ends' (length items') ≡ true) × (pieces 0 ends' items' ≡ pieces 0 ends items ++ (piece ∷ []))
put_behind ends ends' items items' piece end h p q k =
    let l : end ≡ length items + length piece = k ∙ ap length q ∙ length-append items piece in (
      ap (λ (x : List ℕ). rising 0 x (length items')) p ∙ ap (rising 0 (ends ++ (end ∷ []))) (sym k)
          ∙ rising_more 0 ends (length items) end h (omega arith),
      ap (λ (x : List ℕ). pieces 0 x items') p ∙ ap (pieces 0 (ends ++ (end ∷ []))) q ∙ pieces_more 0 ends items piece end h l,
    )
