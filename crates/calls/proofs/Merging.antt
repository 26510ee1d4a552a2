-- What a merge hands back in the rows of an answer.
use Rattle.std.proofs.Common.{◌≡◌, ℕ, ◌≤◌, Bool, min, List, ◌++◌, length, take, drop, Ok, Err, IfOk, Result, sym, refl, ap, ◌∙◌, subst, arith, ◌-◌, length-append}
use native.Mathlib.Nat.{sub-zero}
use Rattle.std.proofs.lemmas.List.{append_assoc, take-append-le, take_all, length-take, length-take-le}
use Rattle.refusals.specs.declared.refusal.Refusal.{Refusal}
use Rattle.names.specs.Names.{Limits}
use Rattle.policy_set.specs.declared.rows.Renaming.{Renaming}
use Rattle.policy_set.specs.declared.set.PolicySet.{PolicySet}
use Rattle.policy_set.specs.Meaning.{maps_of}
use Rattle.policy_set.specs.MergeCall.{merge_outcome, merge_answer, merge_buffer}
use Rattle.policy_set.proofs.Outcomes.{room_enough}
use Rattle.policy_set.proofs.Sets.{sound}
use Rattle.calls.specs.Pairs.{first_pairs}

all_taken : {X : Type 0} (n : ℕ) (xs ys : List X) → length xs ≡ n → take n (xs ++ ys) ≡ xs
all_taken n xs ys h = take-append-le n xs ys (omega arith) ∙ take_all n xs (omega arith)

-- the pairs of an accepted merge stand first, and what stands past the places is not among them
pub pairs_first : (out : Result (List Renaming) Refusal) (answer : Result ℕ Refusal) (before after rest : List Renaming) → answer ≡ merge_answer out
    → after ≡ merge_buffer out before → first_pairs answer (after ++ rest) ≡ out
pairs_first (Ok ps) answer before after rest e b =
    ap (λ (a : Result ℕ Refusal). first_pairs a (after ++ rest)) e
    ∙ ap Ok (ap (λ (xs : List Renaming). take (length ps) (xs ++ rest)) b
    ∙ (ap (take (length ps)) (append_assoc ps (drop (length ps) before) rest) ∙ all_taken (length ps) ps (drop (length ps) before ++ rest) refl))
pairs_first (Err d) answer before after rest e b = ap (λ (a : Result ℕ Refusal). first_pairs a (after ++ rest)) e

-- there are no more pairs than places
pub pairs_within : (out : Result (List Renaming) Refusal) (answer : Result ℕ Refusal) (before after : List Renaming) (most : ℕ) → answer ≡ merge_answer out
    → after ≡ merge_buffer out before → length after ≤ most → IfOk answer (λ n. n ≤ most)
pairs_within (Ok ps) answer before after most e b le =
    subst (λ (a : Result ℕ Refusal). IfOk a (λ n. n ≤ most)) (sym e) (omega (arith, le, ap length b, length-append ps (drop (length ps) before)))
pairs_within (Err d) answer before after most e b le = subst (λ (a : Result ℕ Refusal). IfOk a (λ n. n ≤ most)) (sym e) tt

-- so many places are lent
pub places_lent : (places : ℕ) (rows : List Renaming) → places ≤ length rows → length (take (places - 0) (drop 0 rows)) ≡ places
places_lent places rows le = ap (λ m. length (take m rows)) (sub-zero places) ∙ length-take-le places rows le

-- the outcome with the room that there is
pub with_room : (limits : Limits) (texts : List (List ℕ)) (same : ℕ → ℕ → Bool) (live incoming : PolicySet) (rename : Bool) (room places : ℕ) → places ≡ min room 320
    → merge_outcome limits texts same (maps_of live) (maps_of incoming) rename places ≡ merge_outcome limits texts same (maps_of live) (maps_of incoming) rename room
with_room limits texts same live incoming rename room places e =
    ap (merge_outcome limits texts same (maps_of live) (maps_of incoming) rename) e
    ∙ room_enough limits texts same (maps_of live) (maps_of incoming) rename room (sound live) (sound incoming)
    (omega (arith, length-take incoming.templates.used incoming.templates.rows, incoming.templates.room))
    (omega (arith, length-take incoming.policies.used incoming.policies.rows, incoming.policies.room))
