-- What is known where a merge is accepted, and where it is refused with 4.
use Rattle.std.proofs.Common.{◌≡◌, ℕ, suc, ◌+◌, ◌≤◌, Bool, true, false, cond, not, ◌&&◌, ltb, List, [], ◌∷◌, ◌++◌, length, get_or, take, is_some, Some, None, Ok, Err, Option, Result, sym, refl, ap, ◌∙◌, arith}
use Rattle.std.proofs.lemmas.List.{take-append-le, take_all, length-take}
use Rattle.std.proofs.lemmas.Bool.{ltb-false, false≢true}
use Rattle.refusals.specs.declared.refusal.Refusal.{Refusal}
use Rattle.refusals.specs.declared.refusal.Refusal.TheVariants.{BookFull, Occupied, ShortBuffer, Full}
use Rattle.refusals.specs.declared.refusal.Table.TheVariants.{Templates, Policies}
use Rattle.names.specs.Names.{Limits, bytes_in, room_for}
use Rattle.policy.specs.Known.{and_then}
use Rattle.policy_set.specs.declared.rows.Renaming.{Renaming}
use Rattle.policy_set.specs.Rows.{template_id, policy_id}
use Rattle.policy_set.specs.declared.set.PolicySet.{PolicySet}
use Rattle.policy_set.specs.Maps.{Maps}
use Rattle.policy_set.specs.Meaning.{maps_of}
use Rattle.policy_set.specs.Sound.{Sound}
use Rattle.policy_set.specs.Answers.{refuse_if}
use Rattle.policy_set.specs.Answers.{other_template}
use Rattle.policy_set.specs.Merge.{gather, gathered, final, merged, rows_more, unequal_policy, template_on_policy, link_on_template}
use Rattle.policy_set.specs.MergeLaw.{old_ids, Merges}
use Rattle.policy_set.specs.Choice.{candidates, choose, taken_by, enter_all, ReadsBack}
use Rattle.policy_set.specs.MergeCall.{too_many, merge_tests, named_pairs, merge_outcome, merge_answer, news_for, Holdable, FindsNames}
use Rattle.policy_set.proofs.Accepted.{accepted_then, not_refused}
use Rattle.policy_set.proofs.MergeLaws.{merges}
use Rattle.policy_set.proofs.NameSearch.{length_ids, names_found}
use Rattle.policy_set.proofs.NewNames.{chosen}
use Rattle.policy_set.proofs.NewTexts.{reads_back, enter_new}
use Rattle.policy_set.proofs.RowCounts.{few_members, gather-length}
use Rattle.policy_set.proofs.Updates.{kept_of}

-- what the tests leave to know
pub record Fits (live incoming : Maps) (ids : List ℕ) (room : ℕ) : Type 0 where
  pub buffer : length ids ≤ room
  pub templates : length live.templates + rows_more template_id ids live.templates incoming.templates ≤ 64
  pub policies : length live.policies + rows_more policy_id ids live.policies incoming.policies ≤ 256

pub fits : (live incoming : Maps) (ids : List ℕ) (rename : Bool) (room : ℕ) → merge_tests live incoming ids rename room ≡ Ok tt → Fits live incoming ids room
fits live incoming ids rename room e =
    let a = accepted_then (refuse_if (not rename && ltb 0 (length ids)) (Occupied (get_or ids 0 0))) _ tt (sym e) in
    let b = accepted_then (refuse_if (ltb room (length ids)) (ShortBuffer (length ids))) _ tt a.1 in
    let c = accepted_then (refuse_if (too_many template_id 64 ids live.templates incoming.templates) (Full Templates)) _ tt b.1 in
    record {
      buffer = ltb-false room (length ids) (not_refused _ _ b.0);
      templates = ltb-false 64 _ (not_refused _ _ c.0);
      policies = ltb-false 256 _ (not_refused _ _ (sym c.1));
    }

-- what the new ids leave to know
pub record Named (limits : Limits) (texts : List (List ℕ)) (news : List ℕ) (choice : Option (List Renaming)) (pairs : List Renaming) : Type 0 where
  pub found : choice ≡ Some pairs
  pub room : room_for limits texts (length news) (bytes_in (candidates news)) ≡ true

pub named : (limits : Limits) (texts : List (List ℕ)) (news : List ℕ) (found : Option (List Renaming)) (pairs : List Renaming) → Ok pairs ≡ named_pairs limits texts news found
    → Named limits texts news found pairs
named limits texts news None pairs e = let z : ◌≡◌ {A = ℕ} 0 1 = cc in absurd (omega arith)
named limits texts news (Some qs) pairs e = go (room_for limits texts (length news) (bytes_in (candidates news))) refl e
  where
    go : (b : Bool) → room_for limits texts (length news) (bytes_in (candidates news)) ≡ b → Ok pairs ≡ cond b (Ok qs) (Err BookFull) → Named limits texts news (Some qs) pairs
    go true r q = let z : qs ≡ pairs = cc in record { found = ap Some z; room = r }
    go false r q = let z : ◌≡◌ {A = ℕ} 0 1 = cc in absurd (omega arith)

length_olds : (ps : List Renaming) → length (old_ids ps) ≡ length ps
length_olds [] = refl
length_olds (p ∷ ps) = ap suc (length_olds ps)

-- what holds where a merge is accepted
pub record Ready (limits : Limits) (texts : List (List ℕ)) (same : ℕ → ℕ → Bool) (live incoming : Maps) (room : ℕ) (pairs : List Renaming) : Type 0 where
  pub buffer : length pairs ≤ room
  pub holdable : Holdable (merged (final pairs) live incoming)
  pub merges : Merges same live incoming (merged (final pairs) live incoming) pairs
  pub reads : ReadsBack (texts ++ candidates (news_for texts same live incoming)) pairs
  pub book : enter_all limits texts (news_for texts same live incoming) ≡ texts ++ candidates (news_for texts same live incoming)

pub ready : (limits : Limits) (texts : List (List ℕ)) (same : ℕ → ℕ → Bool) (live incoming : Maps) (rename : Bool) (room : ℕ) (pairs : List Renaming) → Sound live → Sound incoming
    → Ok pairs ≡ merge_outcome limits texts same live incoming rename room → Ready limits texts same live incoming room pairs
ready limits texts same live incoming rename room pairs sl si e =
    let ids = gathered same live incoming in
    let a = accepted_then (merge_tests live incoming ids rename room) _ pairs e in
    let f = fits live incoming ids rename room a.0 in
    let n = named limits texts (news_for texts same live incoming) (choose texts (taken_by live incoming) 65536 0 0 ids) pairs a.1 in
    let ch = chosen texts 65536 (omega arith) same live incoming pairs n.found in
    let m = merges same live incoming pairs sl si ch in
    let k = kept_of (merged (final pairs) live incoming) m.sound in
    record {
      buffer = omega (arith, f.buffer, length_olds pairs, ap length ch.olds);
      holdable = record {
        templates = omega (arith, f.templates, m.counts.templates);
        policies = omega (arith, f.policies, m.counts.policies);
        members = omega (arith, f.policies, m.counts.policies, few_members (merged (final pairs) live incoming) m.sound);
        names_one = k.one;
        valued = k.values;
        scoped = k.scopes;
        same_members = k.members;
      };
      merges = m;
      reads = reads_back texts (taken_by live incoming) 65536 ids pairs n.found;
      book = enter_new limits texts (taken_by live incoming) 65536 (omega arith) ids n.room;
    }

-- the four passes note at most so many ids
pub few_gathered : (same : ℕ → ℕ → Bool) (live incoming : Maps)
    → length (gathered same live incoming) ≤ length incoming.templates + length incoming.policies + length incoming.templates + length incoming.policies
few_gathered same live incoming =
    let ts = incoming.templates in
    let ps = incoming.policies in
    let i1 = gather template_id (other_template same live) [] ts in
    let i2 = gather policy_id (unequal_policy same live incoming) i1 ps in
    let i3 = gather template_id (template_on_policy live) i2 ts in
    let a = gather-length template_id (other_template same live) [] ts in
    let b = gather-length policy_id (unequal_policy same live incoming) i1 ps in
    let c = gather-length template_id (template_on_policy live) i2 ts in
    let d = gather-length policy_id (link_on_template live) i3 ps in
    omega (arith, a.1, b.1, c.1, d.1)

-- 4 comes only from the names
not_full : (b : Bool) (e : Refusal) → (e ≡ BookFull → ⊥) → (rest : Result (Unit {0}) Refusal) → Err BookFull ≡ and_then (refuse_if b e) rest → Err BookFull ≡ rest
not_full true e n rest q = let z : e ≡ BookFull = cc in absurd (n z)
not_full false e n rest q = q

not_last : (b : Bool) (e : Refusal) → (e ≡ BookFull → ⊥) → ◌≡◌ {A = Result (Unit {0}) Refusal} (Err BookFull) (refuse_if b e) → ⊥
not_last true e n q = let z : e ≡ BookFull = cc in n z
not_last false e n q = let z : ◌≡◌ {A = ℕ} 0 1 = cc in omega arith

no_four : (live incoming : Maps) (ids : List ℕ) (rename : Bool) (room : ℕ) → ◌≡◌ {A = Result (Unit {0}) Refusal} (Err BookFull) (merge_tests live incoming ids rename room) → ⊥
no_four live incoming ids rename room q =
    let a = not_full (not rename && ltb 0 (length ids)) (Occupied (get_or ids 0 0)) (λ e. let z : ◌≡◌ {A = ℕ} 0 1 = cc in omega arith) _ q in
    let b = not_full (ltb room (length ids)) (ShortBuffer (length ids)) (λ e. let z : ◌≡◌ {A = ℕ} 0 1 = cc in omega arith) _ a in
    let c = not_full (too_many template_id 64 ids live.templates incoming.templates) (Full Templates) (λ e. let z : ◌≡◌ {A = ℕ} 0 1 = cc in omega arith) _ b in
    not_last (too_many policy_id 256 ids live.policies incoming.policies) (Full Policies) (λ e. let z : ◌≡◌ {A = ℕ} 0 1 = cc in omega arith) c

pub finds_names : (limits : Limits) (texts : List (List ℕ)) (same : ℕ → ℕ → Bool) (live incoming : Maps) (rename : Bool) (room : ℕ)
    → length live.templates ≤ 64 → length live.policies ≤ 256 → length incoming.templates ≤ 64 → length incoming.policies ≤ 256
    → FindsNames limits texts same live incoming (merge_answer (merge_outcome limits texts same live incoming rename room))
finds_names limits texts same live incoming rename room a b c d own e = go (merge_tests live incoming (gathered same live incoming) rename room) refl e
  where
    all : is_some (choose texts (taken_by live incoming) 65536 0 0 (gathered same live incoming)) ≡ true
    all = names_found texts 65536 (omega arith) live incoming (gathered same live incoming) own
        (omega (arith, few_gathered same live incoming, length_ids live, length_ids incoming))

    go : (t : Result (Unit {0}) Refusal) → merge_tests live incoming (gathered same live incoming) rename room ≡ t
        → merge_answer (and_then t (named_pairs limits texts (news_for texts same live incoming) (choose texts (taken_by live incoming) 65536 0 0 (gathered same live incoming)))) ≡ Err BookFull
        → room_for limits texts (length (news_for texts same live incoming)) (bytes_in (candidates (news_for texts same live incoming))) ≡ false
    go (Ok u) p q = one (choose texts (taken_by live incoming) 65536 0 0 (gathered same live incoming)) all q
      where
        one : (o : Option (List Renaming)) → is_some o ≡ true → merge_answer (named_pairs limits texts (news_for texts same live incoming) o) ≡ Err BookFull
            → room_for limits texts (length (news_for texts same live incoming)) (bytes_in (candidates (news_for texts same live incoming))) ≡ false
        one None s h = absurd (false≢true s)
        one (Some ps) s h = two (room_for limits texts (length (news_for texts same live incoming)) (bytes_in (candidates (news_for texts same live incoming)))) h
          where
            two : (r : Bool) → merge_answer (cond r (Ok ps) (Err BookFull)) ≡ Err BookFull → r ≡ false
            two true h = let z : ◌≡◌ {A = ℕ} 0 1 = cc in absurd (omega arith)
            two false h = refl
    go (Err x) p q = let z : x ≡ BookFull = cc in absurd (no_four live incoming (gathered same live incoming) rename room (ap Err (sym z) ∙ sym p))

-- the same of two sets, by their tables
pub few_rows : (live incoming : PolicySet) (limits : Limits) (texts : List (List ℕ)) (same : ℕ → ℕ → Bool) (rename : Bool) (room : ℕ) (answer : Result ℕ Refusal)
    → answer ≡ merge_answer (merge_outcome limits texts same (maps_of live) (maps_of incoming) rename room) → FindsNames limits texts same (maps_of live) (maps_of incoming) answer
few_rows live incoming limits texts same rename room answer e own full =
    finds_names limits texts same (maps_of live) (maps_of incoming) rename room
    (omega (arith, length-take live.templates.used live.templates.rows, live.templates.room))
    (omega (arith, length-take live.policies.used live.policies.rows, live.policies.room))
    (omega (arith, length-take incoming.templates.used incoming.templates.rows, incoming.templates.room))
    (omega (arith, length-take incoming.policies.used incoming.policies.rows, incoming.policies.room))
    own (sym e ∙ full)

-- the first part of a list
pub first_part : {X : Type 0} (n : ℕ) (xs ys : List X) → length xs ≡ n → take n (xs ++ ys) ≡ xs
first_part n xs ys e = take-append-le n xs ys (omega arith) ∙ take_all n xs (omega arith)
