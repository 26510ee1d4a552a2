-- One turn of each loop of a merge.
use Rattle.std.proofs.Common.{◌≡◌, ℕ, ◌+◌, ◌<◌, ◌≤◌, Bool, List, [], ◌∷◌, length, get_or, drop, not, is_some, None, Option, sym, refl, ap, ◌∙◌, arith}
use Rattle.std.proofs.lemmas.List.{at_drop_more}
use Rattle.policy_set.specs.Tables.{one_if, lookup, put_last, put_all}
use Rattle.policy_set.specs.Merge.{noted, gather}
use Rattle.policy_set.proofs.RowCounts.{put-length}

-- one turn of a pass
pub gather_turn : {X : Type 0} (key : X → ℕ) (test : X → Bool) (ids after : List ℕ) (rows : List X) (i : ℕ) (x : X)
    → i < length rows → x ≡ get_or rows i x → after ≡ noted (test x) (key x) ids
    → gather key test after (drop (i + 1) rows) ≡ gather key test ids (drop i rows)
gather_turn key test ids after rows i x h e a =
    ap (λ ws. gather key test ws (drop (i + 1) rows)) (a ∙ ap (λ y. noted (test y) (key y) ids) e)
    ∙ sym (at_drop_more (gather key test ids) rows i x h)

-- putting all takes no row away
all_length : {X : Type 0} (key : X → ℕ) (change : X → X) (live xs : List X) → length live ≤ length (put_all key change live xs)
all_length key change live [] = omega arith
all_length key change live (x ∷ xs) = omega (arith, put-length key (change x) live, all_length key change (put_last key (change x) live) xs)

-- one turn of putting
pub put_turn : {X : Type 0} (key : X → ℕ) (change : X → X) (live after incoming : List X) (i : ℕ) (x y : X)
    → i < length incoming → x ≡ get_or incoming i x → y ≡ change x → after ≡ put_last key y live
    → put_all key change after (drop (i + 1) incoming) ≡ put_all key change live (drop i incoming)
put_turn key change live after incoming i x y h e q a =
    ap (λ ws. put_all key change ws (drop (i + 1) incoming)) (a ∙ ap (λ z. put_last key z live) (q ∙ ap change e))
    ∙ sym (at_drop_more (put_all key change live) incoming i x h)

-- each turn has room where all turns have
pub put_room : {X : Type 0} (key : X → ℕ) (change : X → X) (live incoming all : List X) (places i : ℕ) (x y : X)
    → i < length incoming → x ≡ get_or incoming i x → y ≡ change x
    → put_all key change live (drop i incoming) ≡ all → length all ≤ places
    → lookup key (key y) live ≡ None → length live < places
put_room key change live incoming all places i x y h e q eq fits absent =
    let one : length (put_last key y live) ≡ length live + 1 =
    put-length key y live ∙ ap (λ (o : Option _). length live + one_if (not (is_some o))) absent in
    let more = all_length key change (put_last key y live) (drop (i + 1) incoming) in
    let same = ap length (put_turn key change live (put_last key y live) incoming i x y h e q refl ∙ eq) in
    omega arith
