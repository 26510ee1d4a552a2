-- What the counts and the limits of a keeper say of what it keeps.
use Rattle.std.proofs.Common.{◌≡◌, ℕ, ◌+◌, ◌-◌, ◌<◌, ◌≤◌, Bool, true, false, ◌&&◌, leb, List, [], ◌∷◌, ◌++◌, length, take, drop, vec_items, vec_len, sym, ap, ◌∙◌, arith, length-drop, length-take-le, eqb-true, le-leb, leb-true}
use borrow.Author.Tests.{lt-leb}
use Rattle.std.proofs.lemmas.Bool.{and_left}
use Rattle.std.proofs.lemmas.Bool.Decides.{same_from_decides}
use Rattle.names.specs.declared.keeper.Pieces.{Pieces}
use Rattle.names.specs.Pieces.{pieces, rising}
use Rattle.names.specs.Kept.{kept, limits_of}
use Rattle.names.specs.Names.{bytes_in, room_for}
use Rattle.std.proofs.lemmas.Bool.{and_parts}
use Rattle.names.proofs.Pieces.{rising_total, length-pieces}

-- All items are items of the pieces.
bytes_pieces : {X : Type 0} (start : ℕ) (ends : List ℕ) (all : List X) → rising start ends (length all) ≡ true
    → start + bytes_in (pieces start ends all) ≡ length all
bytes_pieces start [] all h = let e = eqb-true start (length all) h in omega arith
bytes_pieces start (end ∷ ends) all h =
    let w = and_parts (leb start end) (rising end ends (length all)) h in
    let l = leb-true start end w.0 in
    let t = rising_total end ends (length all) w.1 in
    let e : length (take (end - start) (drop start all)) ≡ end - start =
    length-take-le (end - start) (drop start all) (omega (arith, length-drop start all)) in
    let k = bytes_pieces end ends all w.1 in
    omega arith

pub kept_count : {X : Type 0} (p : Pieces X) → length (kept p) ≡ vec_len p.ends
kept_count p = length-pieces 0 (vec_items p.ends) (vec_items p.items) ∙ sym p.ends.ok.0

pub kept_items : {X : Type 0} (p : Pieces X) → bytes_in (kept p) ≡ vec_len p.items
kept_items p =
    let e : 0 + bytes_in (kept p) ≡ length (vec_items p.items) = bytes_pieces 0 (vec_items p.ends) (vec_items p.items) p.rising in
    omega (arith, p.items.ok.0)

-- No place is left.
pub no_places : {X : Type 0} (p : Pieces X) (count items : ℕ) → p.places - vec_len p.ends < count → false ≡ room_for (limits_of p) (kept p) count items
no_places p count items h = sym (and_left _ _ (lt-leb (length (kept p) + count) p.places (omega (arith, kept_count p, p.few))))

-- Where places are left, the items decide.
pub by_items : {X : Type 0} (p : Pieces X) (count items : ℕ) → count ≤ p.places - vec_len p.ends
    → leb items (p.room - vec_len p.items) ≡ room_for (limits_of p) (kept p) count items
by_items p count items h =
    let e : leb (length (kept p) + count) p.places ≡ true = le-leb (length (kept p) + count) p.places (omega (arith, kept_count p, p.few)) in
    same_from_decides {P = items ≤ p.room - vec_len p.items} (leb items (p.room - vec_len p.items)) (leb (bytes_in (kept p) + items) p.room)
    (leb-true items (p.room - vec_len p.items), le-leb items (p.room - vec_len p.items)) (
      λ b. let k = leb-true (bytes_in (kept p) + items) p.room b in omega (arith, kept_items p),
      λ k. le-leb (bytes_in (kept p) + items) p.room (omega (arith, kept_items p, p.short)),
    )
    ∙ sym (ap (λ (d : Bool). d && leb (bytes_in (kept p) + items) p.room) e)

-- What room says of the places and items in use.
pub roomy : {X : Type 0} (p : Pieces X) (count items : ℕ) → room_for (limits_of p) (kept p) count items ≡ true
    → (vec_len p.ends + count ≤ p.places) × (vec_len p.items + items ≤ p.room)
roomy p count items h =
    let w = and_parts (leb (length (kept p) + count) p.places) (leb (bytes_in (kept p) + items) p.room) h in
    let a = leb-true (length (kept p) + count) p.places w.0 in
    let b = leb-true (bytes_in (kept p) + items) p.room w.1 in
    (omega (arith, kept_count p), omega (arith, kept_items p))

-- The items of one piece more.
pub bytes_in-push : {X : Type 0} (held : List (List X)) (new : List X) → bytes_in (held ++ (new ∷ [])) ≡ bytes_in held + length new
bytes_in-push [] new = omega arith
bytes_in-push (t ∷ ts) new = omega (arith, bytes_in-push ts new)
