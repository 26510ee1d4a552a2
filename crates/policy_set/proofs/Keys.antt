-- Keys that stand beside their rows, in the first places of two lists.
use Rattle.std.proofs.Common.{◌≡◌, ℕ, ◌+◌, ◌<◌, ◌≤◌, cond, eqb, List, [], ◌∷◌, ◌++◌, length, map, set, take, drop, Some, sym, refl, ap, ◌∙◌}
use Rattle.std.proofs.lemmas.List.{map-append, map_push, take-map, drop-map, take-take, take_more_set}
use Rattle.std.specs.List.{position_from, position}
use Rattle.std.proofs.lemmas.Iterator.Adapters.{position_from-zero}
use Rattle.policy_set.specs.Tables.{without}

module _ {X : Type 0} (key : X → ℕ) where
  found_from : (k n : ℕ) (xs : List X) → position_from (λ j. eqb j k) n (map key xs) ≡ position_from (λ x. eqb (key x) k) n xs
  found_from k n [] = refl
  found_from k n (x ∷ xs) = ap (λ o. cond (eqb (key x) k) (Some n) o) (found_from k (n + 1) xs)

  -- a key is found where its row is
  pub found_by_keys : (k : ℕ) (keys : List ℕ) (xs : List X) → keys ≡ map key xs → position (λ j. eqb j k) keys ≡ position (λ x. eqb (key x) k) xs
  found_by_keys k keys xs e =
      ap (position (λ j. eqb j k)) e
      ∙ (position_from-zero (λ j. eqb j k) (map key xs) ∙ (found_from k 0 xs ∙ sym (position_from-zero (λ x. eqb (key x) k) xs)))

  -- moved as their rows are
  pub moved_beside : (i : ℕ) (keys : List ℕ) (xs : List X) → keys ≡ map key xs
      → without i keys ++ take 1 (drop i keys) ≡ map key (without i xs ++ take 1 (drop i xs))
  moved_beside i keys xs e =
      ap (λ ks. without i ks ++ take 1 (drop i ks)) e
      ∙ sym (simp (map-append, take-map, drop-map))

  -- the last one left out, as the last row is
  pub shorter_beside : (n m : ℕ) (keys : List ℕ) (xs : List X) → m ≤ n → take n keys ≡ map key (take n xs) → take m keys ≡ map key (take m xs)
  shorter_beside n m keys xs l e =
      sym (take-take m n keys l) ∙ (ap (take m) e ∙ (take-map key m (take n xs) ∙ ap (map key) (take-take m n xs l)))

  -- one more, as one row more
  pub longer_beside : (n k : ℕ) (keys : List ℕ) (xs : List X) (x : X) → n < length keys → n < length xs → k ≡ key x
      → take n keys ≡ map key (take n xs) → take (n + 1) (set keys n k) ≡ map key (take (n + 1) (set xs n x))
  longer_beside n k keys xs x l m q e =
      take_more_set keys n k l
      ∙ (ap (λ ks. ks ++ k ∷ []) e
      ∙ (ap (λ j. map key (take n xs) ++ j ∷ []) q
      ∙ (sym (map_push key (take n xs) x) ∙ ap (map key) (sym (take_more_set xs n x m)))))
