-- A link that is made and removed again leaves the maps as they were, and what is removed is what was made.
use Rattle.std.proofs.Common.{◌≡◌, ℕ, Bool, true, false, cond, eqb, List, [], ◌∷◌, ◌++◌, Some, None, Ok, Option, sym, refl, ap, ◌∙◌}
use Rattle.std.proofs.lemmas.Bool.{eq-eqb}
use Rattle.policy.specs.Arity.{Parts}
use Rattle.policy.specs.declared.values.SlotEnv.{SlotEnv}
use Rattle.policy.specs.declared.template.Template.{Template}
use Rattle.policy_set.specs.declared.rows.PolicyRow.{PolicyRow}
use Rattle.policy_set.specs.Tables.{lookup, erase}
use Rattle.policy_set.specs.Rows.{policy_id, member_id}
use Rattle.policy_set.specs.Maps.{Maps, row_at, changed, present, whole, in_force}
use Rattle.policy_set.specs.Sound.{Sound, member}
use Rattle.policy_set.specs.Answers.{link_answer, link_after, link_row, unlink_answer, unlink_after, with_policy, without_policy}
use Rattle.policy_set.proofs.Lookups.{no_some, some_same, lookup_pushed}
use Rattle.policy_set.proofs.Accepted.{link_of_template, unlinkable}
use Rattle.policy_set.proofs.Added.{no_member}
use Rattle.policy_set.proofs.Changes.{accepted_after}
use Rattle.policy_set.proofs.Updates.{maps_equal}

erase_last : {X : Type 0} (key : X → ℕ) (xs : List X) (x : X) → lookup key (key x) xs ≡ None → erase key (key x) (xs ++ x ∷ []) ≡ xs
erase_last key [] x n = rw (eq-eqb (key x) (key x) refl) refl
erase_last {X} key (y ∷ xs) x n = go (eqb (key y) (key x)) (erase_last key xs x) n
  where
    go : (b : Bool) → (lookup key (key x) xs ≡ None → erase key (key x) (xs ++ x ∷ []) ≡ xs)
        → ◌≡◌ {A = Option X} (cond b (Some y) (lookup key (key x) xs)) None → cond b (xs ++ x ∷ []) (y ∷ erase key (key x) (xs ++ x ∷ [])) ≡ y ∷ xs
    go true ih e = no_some y (sym e)
    go false ih e = ap (λ (zs : List X). y ∷ zs) (ih e)

module _ (count : ℕ) (before linked after : Maps) (so : Sound before) (template id : ℕ) (values : SlotEnv) (p q : Parts)
    (links : Ok p ≡ link_answer count before template id values) (with_link : linked ≡ link_after count before template id values)
    (unlinks : Ok q ≡ unlink_answer count linked id) (without_link : after ≡ unlink_after count linked id) where
  row : PolicyRow
  row = link_row template id values

  lasts : linked ≡ with_policy row before
  unfolding row
  lasts = with_link ∙ sym (accepted_after (link_answer count before template id values) (with_policy row before) before p links)

  -- the maps are as they were
  pub back : after ≡ before
  unfolding row
  back =
      let free = (link_of_template count before template id values p links).2.policy_free in
      without_link ∙ (sym (accepted_after (unlink_answer count linked id) (without_policy id linked) linked q unlinks)
      ∙ (ap (without_policy id) lasts
      ∙ maps_equal before before.templates _ _ refl (erase_last policy_id before.policies row free)
      (erase_last member_id before.members (member row) (no_member before so id free))))

  -- the policy is the one that was made
  pub same : q ≡ p
  unfolding row
  same =
      let l = link_of_template count before template id values p links in
      let found : row_at (with_policy row before) id ≡ Some row =
      lookup_pushed policy_id before.policies row id l.2.policy_free ∙ ap (λ (b : Bool). cond b (Some row) (row_at before id)) (eq-eqb id id refl) in
      some_same q p (sym (unlinkable count linked id q unlinks).policy
      ∙ (ap (λ (m : Maps). in_force m id) lasts
      ∙ (ap (λ (o : Option PolicyRow). changed (whole (with_policy row before)) o) found
      ∙ ap Some (ap (λ (o : Option Template). made (present o)) l.1 ∙ sym l.2.made))))
    where
      made : Template → Parts
      made t = record { template = t; link = Some id; values = values }
