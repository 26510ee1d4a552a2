-- What the outcome of a merge tells: how few ids are gathered, and that those chosen are as they should be.
use Rattle.std.proofs.Common.{◌≡◌, ℕ, suc, ◌+◌, ◌≤◌, Bool, true, false, not, ◌&&◌, ltb, min, List, get_or, [], ◌∷◌, length, is_some, Ok, Result, sym, refl, ap, ◌∙◌, subst, arith}
use Rattle.std.proofs.Math.Nat.{min-eq_left, min-eq_right}
use Rattle.std.proofs.lemmas.List.{length-take}
use Rattle.std.proofs.lemmas.Bool.{false≢true, eq-eqb, ltb-true, ltb-false, le-ltb, and_parts}
use Rattle.refusals.specs.declared.refusal.Refusal.{Refusal}
use Rattle.refusals.specs.declared.refusal.Refusal.TheVariants.{Occupied, ShortBuffer}
use Rattle.names.specs.Names.{Limits}
use Rattle.policy.specs.Known.{and_then}
use Rattle.policy_set.specs.declared.rows.Renaming.{Renaming}
use Rattle.policy_set.specs.Tables.{lookup, one_if, erase, Once}
use Rattle.policy_set.specs.declared.set.PolicySet.{PolicySet}
use Rattle.policy_set.specs.Maps.{Maps, bound}
use Rattle.policy_set.specs.Meaning.{maps_of}
use Rattle.policy_set.specs.Sound.{Sound}
use Rattle.policy_set.specs.Answers.{refuse_if}
use Rattle.policy_set.specs.Merge.{among, gathered}
use Rattle.policy_set.specs.MergeLaw.{clash, old_ids, Chosen}
use Rattle.policy_set.specs.MergeCall.{merge_outcome}
use Rattle.policy_set.proofs.Lookups.{once_tail, once_head, none_times}
use Rattle.policy_set.proofs.PutAll.{head_there, rest_there}
use Rattle.policy_set.proofs.Gathered.{itself, gathered_times}
use Rattle.policy_set.proofs.NameSearch.{length_less, among-rest, ids_of, length_ids, among_ids}
use Rattle.policy_set.proofs.MergeSteps.{ready}
use Rattle.policy_set.proofs.Sets.{sound}

-- distinct ids that are all among these are no more than these
no_more : (xs ys : List ℕ) → Once itself xs → ((k : ℕ) → is_some (lookup itself k xs) ≡ true → among k ys ≡ true) → length xs ≤ length ys
no_more [] ys h w = omega arith
no_more (x ∷ xs) ys h w =
    let l = length_less x ys (w x (head_there itself x xs)) in
    let ih = no_more xs (erase itself x ys) (once_tail itself x xs h)
    (λ k e. among-rest x k ys
    (λ z. false≢true (sym (ap is_some (once_head itself x xs k h (eq-eqb x k (sym z)))) ∙ e)) (w k (rest_there itself k x xs e))) in
    omega (arith, l, ih)

-- each gathered id is an incoming template's or policy's, and is gathered once
pub gathered_few : (same : ℕ → ℕ → Bool) (live incoming : Maps) → Sound live → Sound incoming
    → length (gathered same live incoming) ≤ length incoming.templates + length incoming.policies
gathered_few same live incoming sl si =
    let n = no_more (gathered same live incoming) (ids_of incoming) (λ k. subst (λ n. n ≤ 1) (sym (gathered_times same live incoming sl si k)) (one (clash same live incoming k)))
    (λ k e. among_ids incoming k (there k (clash same live incoming k) refl e)) in
    omega (arith, n, length_ids incoming)
  where
    one : (c : Bool) → one_if c ≤ 1
    one true = omega arith
    one false = omega arith

    there : (k : ℕ) (c : Bool) → clash same live incoming k ≡ c → is_some (lookup itself k (gathered same live incoming)) ≡ true → bound incoming k ≡ true
    there k true e h = (and_parts _ _ (and_parts _ _ e).1).0
    there k false e h =
        absurd (false≢true (sym (ap is_some (none_times itself k (gathered same live incoming) (gathered_times same live incoming sl si k ∙ ap one_if e))) ∙ h))

-- room for more than so many is as good as room for so many
short : (room most n : ℕ) → n ≤ most → ltb (min room most) n ≡ ltb room n
short room most n h = go (ltb room most) refl
  where
    go : (c : Bool) → ltb room most ≡ c → ltb (min room most) n ≡ ltb room n
    go true e = let l = ltb-true room most e in ap (λ m. ltb m n) (min-eq_left (omega (arith, l)))
    go false e =
        let l = ltb-false room most e in
        ap (λ m. ltb m n) (min-eq_right l) ∙ (le-ltb most n h ∙ sym (le-ltb room n (omega (arith, l, h))))

-- two tests that say the same
tested : {X : Type 0} (first : Result (Unit {0}) Refusal) (e : Refusal) (a b : Bool) → a ≡ b → (rest : Result (Unit {0}) Refusal) (last : Result X Refusal)
    → and_then (and_then first (and_then (refuse_if a e) rest)) last ≡ and_then (and_then first (and_then (refuse_if b e) rest)) last
tested first e a b h rest last = ap (λ c. and_then (and_then first (and_then (refuse_if c e) rest)) last) h

-- room for 320 pairs is as good as room for more
pub room_enough : (limits : Limits) (texts : List (List ℕ)) (same : ℕ → ℕ → Bool) (live incoming : Maps) (rename : Bool) (room : ℕ) → Sound live → Sound incoming
    → length incoming.templates ≤ 64 → length incoming.policies ≤ 256
    → merge_outcome limits texts same live incoming rename (min room 320) ≡ merge_outcome limits texts same live incoming rename room
room_enough limits texts same live incoming rename room sl si ts ps =
    tested (refuse_if (not rename && ltb 0 (length (gathered same live incoming))) (Occupied (get_or (gathered same live incoming) 0 0)))
    (ShortBuffer (length (gathered same live incoming))) _ _
    (short room 320 (length (gathered same live incoming)) (omega (arith, gathered_few same live incoming sl si, ts, ps))) _ _

-- the pairs of an accepted merge
pub chosen_pairs : (limits : Limits) (texts : List (List ℕ)) (same : ℕ → ℕ → Bool) (live incoming : Maps) (rename : Bool) (room : ℕ) (pairs : List Renaming) → Sound live → Sound incoming
    → Ok pairs ≡ merge_outcome limits texts same live incoming rename room → Chosen same live incoming pairs
chosen_pairs limits texts same live incoming rename room pairs sl si e = (ready limits texts same live incoming rename room pairs sl si e).merges.chosen

-- a pair for each gathered id
old_ids_length : (ps : List Renaming) → length (old_ids ps) ≡ length ps
old_ids_length [] = refl
old_ids_length (p ∷ ps) = ap suc (old_ids_length ps)

-- so a merge of two sets has few
pub few_pairs : (live incoming : PolicySet) (same : ℕ → ℕ → Bool) (pairs : List Renaming) → Chosen same (maps_of live) (maps_of incoming) pairs → length pairs ≤ 320
few_pairs live incoming same pairs ch =
    omega (
      arith,
      old_ids_length pairs,
      ap length ch.olds,
      gathered_few same (maps_of live) (maps_of incoming) (sound live) (sound incoming),
      length-take incoming.templates.used incoming.templates.rows,
      incoming.templates.room,
      length-take incoming.policies.used incoming.policies.rows,
      incoming.policies.room,
    )
