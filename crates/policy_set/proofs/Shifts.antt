-- What rotating a part by one leaves.
use Rattle.std.proofs.Common.{◌≡◌, ℕ, ◌+◌, ◌-◌, ◌<◌, List, [], ◌++◌, length, take, drop, sym, ap, ◌∙◌, arith}
use borrow.Rule.Slice.PartMut.{put_mid}
use Rattle.std.proofs.lemmas.List.{append_assoc, append-nil, take_rest, drop-drop, drop_all, length-drop, length-append, length-take-le, take-take, take_at}
use Rattle.policy_set.specs.Tables.{without}

pub rotated : {X : Type 0} (xs ys : List X) (i : ℕ) → i < length xs
    → ys ≡ drop 1 (take (length xs - i) (drop i xs)) ++ take 1 (take (length xs - i) (drop i xs))
    → put_mid i (length xs - i) xs ys ≡ without i xs ++ take 1 (drop i xs)
rotated xs ys i h e =
    let q : ys ≡ drop (i + 1) xs ++ take 1 (drop i xs) =
    e ∙ (ap (λ zs. drop 1 zs ++ take 1 zs) (take_rest xs i) ∙ ap (λ zs. zs ++ take 1 (drop i xs)) (drop-drop 1 i xs)) in
    let z : drop (length xs - i) (drop i xs) ≡ [] = drop_all (length xs - i) (drop i xs) (simp length-drop (omega arith)) in
    simp (q, z, append-nil, append_assoc)

-- a row moved last goes with the last used place
pub removed_last : {X : Type 0} (xs ys : List X) (used i : ℕ) → i < length xs → used ≡ length xs
    → take used ys ≡ without i xs ++ take 1 (drop i xs) → take (used - 1) ys ≡ without i xs
removed_last {X} xs ys used i h l e =
    let n : length (without i xs) ≡ used - 1 =
    omega (arith, length-append (take i xs) (drop (i + 1) xs), length-take-le i xs (omega arith), length-drop (i + 1) xs) in
    sym (take-take (used - 1) used ys (omega arith))
    ∙ (ap (take (used - 1)) e ∙ take_at (without i xs) (take 1 (drop i xs)) (used - 1) n)
