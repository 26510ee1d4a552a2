-- One content more in a book of contents.
use Rattle.std.proofs.Common.{◌≡◌, ℕ, ◌+◌, ◌*◌, ◌<◌, ◌≤◌, Bool, true, false, cond, ◌&&◌, leb, ltb, List, [], ◌∷◌, length, Ok, Err, Result, ap, refl, ◌∙◌, mul-le-mul_right, add-mul, le-leb, arith, length-append}
use Rattle.std.proofs.lemmas.Bool.{and_from, cond-true, cond-false, ltb-true, ltb-false, lt-leb}
use Rattle.refusals.specs.declared.refusal.Refusal.{Refusal}
use Rattle.refusals.specs.declared.refusal.Refusal.TheVariants.{BookFull}
use Rattle.names.specs.Names.{Limits, bytes_in, room_for, enter_answer, with_entered}
use Rattle.names.proofs.Keeping.{bytes_in-push}
use Rattle.clauses.specs.Entering.{next_number}

-- One content more adds at most the longest.
one_more : (count longest total more : ℕ) → total ≤ count * longest → more ≤ longest → total + more ≤ (count + 1) * longest
one_more count longest total more t m = let d = add-mul count 1 longest in omega arith

module _ {X : Type 0} (held : List (List X)) (new : List X) (longest : ℕ) (short : bytes_in held ≤ length held * longest) (fits : length new ≤ longest) where
  -- Room for 256 contents is room for one more, where there are fewer.
  room_left : (limits : Limits) → limits.places ≡ 256 → limits.room ≡ 256 * longest → length held < 256 → room_for limits held 1 (length new) ≡ true
  room_left limits p r few =
      let k : length held + 1 ≤ 256 = omega arith in
      let up = mul-le-mul_right longest k in
      let more = one_more (length held) longest (bytes_in held) (length new) short fits in
      and_from _ _ (le-leb (length held + 1) limits.places (omega (arith, p))) (le-leb (bytes_in held + length new) limits.room (omega (arith, r, more, up)))

  -- So the next number is given as long as there are fewer than 256.
  pub entered_next : (limits : Limits) → limits.places ≡ 256 → limits.room ≡ 256 * longest → enter_answer limits held new ≡ next_number held
  entered_next limits p r = go (ltb (length held) 256) refl
    where
      go : (b : Bool) → ltb (length held) 256 ≡ b → enter_answer limits held new ≡ cond b (Ok (length held)) (Err BookFull)
      go true e = cond-true (room_for limits held 1 (length new)) (Ok (length held)) (Err BookFull) (room_left limits p r (ltb-true (length held) 256 e))
      go false e =
          let many : 256 ≤ length held = ltb-false (length held) 256 e in
          cond-false (room_for limits held 1 (length new)) (Ok (length held)) (Err BookFull)
          (ap (λ (b : Bool). b && leb (bytes_in held + length new) limits.room) (lt-leb (length held + 1) limits.places (omega (arith, p))))

  -- And no content is longer than the longest.
  pub still_short : (r : Result ℕ Refusal) (after : List (List X)) → after ≡ with_entered r held new → bytes_in after ≤ length after * longest
  still_short (Err refusal) after e = omega (arith, short, ap bytes_in e, ap (λ (xs : List (List X)). length xs * longest) e)
  still_short (Ok n) after e =
      let more = one_more (length held) longest (bytes_in held) (length new) short fits in
      let b = ap bytes_in e ∙ bytes_in-push held new in
      let l : length after ≡ length held + 1 = ap length e ∙ length-append held (new ∷ []) in
      let m = ap (λ (n : ℕ). n * longest) l in
      omega (arith, b, m, more)
