-- The test for an action type decides that the last part is `Action`.
use Rattle.std.proofs.Common.{◌≡◌, ℕ, true, ◌⊎◌, List, [], ◌∷◌, ◌++◌, codes, Decides, refl, ap, ◌∙◌, inl, inr}
use Rattle.std.proofs.lemmas.Bool.{or_cases, or_left, or_right}
use Rattle.std.specs.Str.{bytes_eq}
use Rattle.std.proofs.lemmas.Slice.Eq.{bytes_eq-Decides}
use Rattle.names.specs.TypeName.{IsAction, ends_with, is_action}

-- Where a text ends with a part, it is some front and the part.
ends_split : (part text : List ℕ) → ends_with part text ≡ true → (front : List ℕ) × (text ≡ front ++ part)
ends_split part [] h = ([], (bytes_eq-Decides [] part).0 h)
ends_split part (b ∷ bs) h = by (or_cases (bytes_eq (b ∷ bs) part) (ends_with part bs) h) (ends_split part bs) where
  by : (bytes_eq (b ∷ bs) part ≡ true) ⊎ (ends_with part bs ≡ true)
      → (ends_with part bs ≡ true → (front : List ℕ) × (bs ≡ front ++ part)) → (front : List ℕ) × (b ∷ bs ≡ front ++ part)
  by (inl e) f = ([], (bytes_eq-Decides (b ∷ bs) part).0 e)
  by (inr e) f = let r = f e in (b ∷ r.0, ap (λ (l : List ℕ). b ∷ l) r.1)

ends_whole : (part : List ℕ) → ends_with part part ≡ true
ends_whole [] = refl
ends_whole (b ∷ bs) = or_left (bytes_eq (b ∷ bs) (b ∷ bs)) (ends_with (b ∷ bs) bs) ((bytes_eq-Decides (b ∷ bs) (b ∷ bs)).1 refl)

split_ends : (part front : List ℕ) → ends_with part (front ++ part) ≡ true
split_ends part [] = ends_whole part
split_ends part (b ∷ front) = or_right (bytes_eq (b ∷ (front ++ part)) part) (ends_with part (front ++ part)) (split_ends part front)

pub action_decides : (text : List ℕ) → Decides (is_action text) (IsAction text)
action_decides text = (
  λ h. elim (or_cases (bytes_eq text (codes "Action")) (ends_with (codes "::Action") text) h) [
    | inl e ↦ inl ((bytes_eq-Decides text (codes "Action")).0 e, refl)
    | inr e ↦ let r = ends_split (codes "::Action") text e in inr (r.0, r.1, refl)
  ],
  λ w. elim w [
    | inl p ↦ or_left (bytes_eq text (codes "Action")) (ends_with (codes "::Action") text) ((bytes_eq-Decides text (codes "Action")).1 p.0)
    | inr p ↦ or_right (bytes_eq text (codes "Action")) (ends_with (codes "::Action") text)
        (ap (ends_with (codes "::Action")) p.1 ∙ split_ends (codes "::Action") p.0)
  ],
)
