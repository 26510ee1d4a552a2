-- Each call keeps a set and its tally together.
use Rattle.std.proofs.Common.{◌≡◌, ℕ, Bool, true, false, cond, eqb, List, [], ◌∷◌, Some, None, Ok, Option, sym, refl, ◌∙◌, subst}
use Rattle.std.proofs.lemmas.Bool.{eqb-true, eqb-false}
use Rattle.clauses.specs.Book.{Clause, DecidesEquality, Lawful, same_clause}
use Rattle.names.specs.Names.{Limits}
use Rattle.policy.specs.Arity.{Parts, parts}
use Rattle.policy.specs.Known.{names_known, template_known, policy_known, clause_known, policy_names}
use Rattle.policy.specs.declared.bound.Policy.{Policy}
use Rattle.policy.specs.declared.fixed.StaticPolicy.{StaticPolicy}
use Rattle.policy.specs.declared.template.Template.{Template}
use Rattle.policy.specs.declared.values.SlotEnv.{SlotEnv}
use Rattle.policy_set.specs.declared.rows.Renaming.{Renaming}
use Rattle.policy_set.specs.Rows.{template_id}
use Rattle.policy_set.specs.Maps.{Maps, template_at, in_force, bound}
use Rattle.policy_set.specs.Maps.Thing.{template, policy}
use Rattle.policy_set.specs.Sound.{Sound, member}
use Rattle.policy_set.specs.Answers.{can_enter_answer, add_template_answer, add_static_answer, add_answer, link_answer, unlink_answer, remove_template_answer, static_parts, id_of, row_for, link_row, with_template, with_policy, with_or_inserted, without_policy, without_template, policy_last}
use Rattle.policy_set.specs.Laws.{Adds, Removes, Grants, kept_record}
use Rattle.policy_set.specs.Merge.{parts_equal, final, merged}
use Rattle.policy_set.specs.MergeCall.{merge_outcome}
use Rattle.policy_set.specs.Tally.{Tally, grant, merge_tally, AllFit}
use Rattle.policy_set.proofs.Holding.{Holds}
use Rattle.policy_set.proofs.Accepted.{NewPolicy, accepted_then, new_template, new_static, new_policy, link_of_template, unlinkable, removable}
use Rattle.policy_set.proofs.Added.{Own, template_added, template_adds, static_added, static_adds, link_adds}
use Rattle.policy_set.proofs.Granted.{granted, or_present, or_new}
use Rattle.policy_set.proofs.Lookups.{lookup_pushed, no_some, some_same}
use Rattle.policy_set.proofs.Outcomes.{chosen_pairs}
use Rattle.policy_set.proofs.Removed.{link_removes, static_removed_all, static_removes, template_removed, template_removes, policy_last_refused}
use Rattle.policy_set.proofs.Scopes.{within}
use Rattle.policy_set.proofs.Sounds.{row_of}
use Rattle.policy_set.proofs.Tallies.{holds_after, clauses_comparing}
use Rattle.policy_set.proofs.Updates.{kept_of}
use Rattle.calls.specs.Law.{Fit, take_back, with_account}
use Rattle.calls.proofs.Alike.{clause_of_known, equal_template, policy_itself}
use Rattle.calls.proofs.Entering.{Change, force_named, force_same, force_unbound, added, removed, shows_same, shows_granted, shows_taken}

-- a table of templates with one changed is fit if the changed one is
fits_after : (Fits : Template → Type 0) (before after : Maps) (id : ℕ) (o : Option Template) → ((k : ℕ) → template_at after k ≡ cond (eqb id k) o (template_at before k))
    → AllFit Fits before → ((u : Template) → o ≡ Some u → Fits u) → AllFit Fits after
fits_after Fits before after id o e f g k u h = go (eqb id k) (sym (e k) ∙ h)
  where
    go : (b : Bool) → cond b o (template_at before k) ≡ Some u → Fits u
    go true q = g u q
    go false q = f k u q

module _ {C : Type 0} (equal : C → C → Bool) (cs : List (Clause C)) (decides : DecidesEquality equal) (m : Maps) (tally : Tally) (h : Holds (same_clause equal cs) (Fit cs) m tally) where
  -- one template is fit, so all are
  with_fit : (after : Maps) (t : Template) → ((k : ℕ) → template_at after k ≡ cond (eqb t.id k) (Some t) (template_at m k)) → Fit cs t → AllFit (Fit cs) after
  with_fit after t e f = fits_after (Fit cs) m after t.id (Some t) e h.fits (λ u q. subst (Fit cs) (some_same t u q) f)

  without_one : (after : Maps) (id : ℕ) → ((k : ℕ) → template_at after k ≡ cond (eqb id k) None (template_at m k)) → AllFit (Fit cs) after
  without_one after id e = fits_after (Fit cs) m after id None e h.fits (λ u q. no_some u q)

  pub template_added_holds : (names : ℕ) (t : Template) → Ok tt ≡ add_template_answer names cs m t → Sound (with_template t m)
      → Holds (same_clause equal cs) (Fit cs) (with_template t m) tally
  template_added_holds names t e so =
      let n = new_template names cs m t e in
      let a = template_adds m t h.sound n.template_free n.policy_free in
      let k = accepted_then (template_known names cs t) _ tt (sym (accepted_then (can_enter_answer names cs m t) _ tt e).0) in
      record {
        sound = so;
        shows = shows_same (same_clause equal cs) m (with_template t m) tally h.shows (unchanged a);
        fits = with_fit (with_template t m) t (template_added m t h.sound n.template_free n.policy_free).templates
            record { slots = n.cached; clause = clause_of_known names cs t k.0 };
      }
    where
      unchanged : Adds m (with_template t m) t.id (template t) [] → (k : ℕ) → in_force (with_template t m) k ≡ in_force m k
      unchanged a k = go (eqb t.id k) refl
        where
          go : (b : Bool) → eqb t.id k ≡ b → in_force (with_template t m) k ≡ in_force m k
          go true d = subst (λ j. in_force (with_template t m) j ≡ in_force m j) (eqb-true t.id k d)
              (force_named (with_template t m) t.id (template t) a.names_it ∙ sym (force_unbound m t.id a.unbound))
          go false d = force_same (with_template t m) m k (a.others k (λ z. eqb-false t.id k d (sym z)))

  pub static_added_holds : (names : ℕ) (p : StaticPolicy) → Ok tt ≡ add_static_answer names cs m p.body
      → Sound (with_policy (row_for (static_parts p.body)) (with_template p.body m))
      → Holds (same_clause equal cs) (Fit cs) (with_policy (row_for (static_parts p.body)) (with_template p.body m))
      (with_account p.body.id (grant (tally p.body.id) (static_parts p.body)) tally)
  static_added_holds names p e so =
      let t = p.body in
      let r = row_for (static_parts t) in
      let end = with_policy r (with_template t m) in
      let n = new_static names cs m t e in
      let own : Own t r = record { id = refl; template = refl; static = refl; slotless = p.slotless; values = refl } in
      let a = static_adds m t r own h.sound n.template_free n.policy_free in
      let k = accepted_then (template_known names cs t) _ tt (sym (accepted_then (can_enter_answer names cs m t) _ tt e).0) in
      let known = clause_of_known names cs t k.0 in
      record {
        sound = so;
        shows = shows_granted (same_clause equal cs) m end tally h.shows t.id (static_parts t) (static_parts t) (added m end t.id (static_parts t) (member r ∷ []) a)
            (force_unbound m t.id a.unbound) (policy_itself equal cs decides (static_parts t) known);
        fits = with_fit end t (static_added m t r own h.sound n.template_free n.policy_free).templates record { slots = n.cached; clause = known };
      }

  pub link_added_holds : (names : ℕ) (id new : ℕ) (values : SlotEnv) (p : Parts) → Ok p ≡ link_answer names m id new values
      → Sound (with_policy (link_row id new values) m)
      → Holds (same_clause equal cs) (Fit cs) (with_policy (link_row id new values) m) (with_account new (grant (tally new) p) tally)
  link_added_holds names id new values p e so =
      let r = link_row id new values in
      let end = with_policy r m in
      let l = link_of_template names m id new values p e in
      let q : Parts = record { template = l.0; link = Some new; values = values } in
      let a = link_adds m r l.0 h.sound l.2.template_free l.2.policy_free refl l.1 in
      record {
        sound = so;
        shows = shows_granted (same_clause equal cs) m end tally h.shows new q p (added m end new q (member r ∷ []) a) (force_unbound m new a.unbound)
            (subst (λ (x : Parts). parts_equal (same_clause equal cs) q x ≡ true) (sym l.2.made) (policy_itself equal cs decides q (h.fits id l.0 l.1).clause));
        fits = h.fits;
      }

  pub link_removed_holds : (names : ℕ) (id : ℕ) (p : Parts) → Ok p ≡ unlink_answer names m id → Sound (without_policy id m)
      → Holds (same_clause equal cs) (Fit cs) (without_policy id m) (with_account id (take_back (tally id)) tally)
  link_removed_holds names id p e so =
      let u = unlinkable names m id p e in
      record {
        sound = so;
        shows = shows_taken (same_clause equal cs) m (without_policy id m) tally h.shows id p
            (removed m (without_policy id m) id (policy p) (link_removes m id p h.sound u.no_template u.policy)) u.policy;
        fits = h.fits;
      }

  pub static_removed_holds : (id : ℕ) (t : Template) (p : Parts) → template_at m id ≡ Some t → in_force m id ≡ Some p → Sound (without_template id (without_policy id m))
      → Holds (same_clause equal cs) (Fit cs) (without_template id (without_policy id m)) (with_account id (take_back (tally id)) tally)
  static_removed_holds id t p a b so =
      let r = row_of m id p (sym b) in
      let end = without_template id (without_policy id m) in
      record {
        sound = so;
        shows = shows_taken (same_clause equal cs) m end tally h.shows id p
            (removed m end id (policy p) (static_removes m id t r.0 p h.sound a r.1 b)) b;
        fits = without_one end id (static_removed_all m id t r.0 h.sound a r.1).templates;
      }

  pub moved_holds : (id : ℕ) → Sound (policy_last id m) → Holds (same_clause equal cs) (Fit cs) (policy_last id m) tally
  moved_holds id so = record {
    sound = so;
    shows = shows_same (same_clause equal cs) m (policy_last id m) tally h.shows (λ k. force_same (policy_last id m) m k ((policy_last_refused m id h.sound).names k));
    fits = h.fits;
  }

  pub template_removed_holds : (names : ℕ) (id : ℕ) (t : Template) → Ok t ≡ remove_template_answer names m id → Sound (without_template id m)
      → Holds (same_clause equal cs) (Fit cs) (without_template id m) tally
  template_removed_holds names id t e so =
      let r = removable names m id t e in
      let a = template_removes m id t h.sound r.template r.no_policy r.no_members in
      record {
        sound = so;
        shows = shows_same (same_clause equal cs) m (without_template id m) tally h.shows (unchanged a);
        fits = without_one (without_template id m) id (template_removed m id h.sound r.no_policy r.no_members).templates;
      }
    where
      unchanged : Removes m (without_template id m) id (template t) → (k : ℕ) → in_force (without_template id m) k ≡ in_force m k
      unchanged a k = go (eqb id k) refl
        where
          go : (b : Bool) → eqb id k ≡ b → in_force (without_template id m) k ≡ in_force m k
          go true d = subst (λ j. in_force (without_template id m) j ≡ in_force m j) (eqb-true id k d)
              (force_unbound (without_template id m) id a.unbound ∙ sym (force_named m id (template t) a.named_it))
          go false d = force_same (without_template id m) m k (a.others k (λ z. eqb-false id k d (sym z)))

  -- a policy that is added
  module _ (lawful : Lawful cs) (names : ℕ) (p : Policy) (e : Ok tt ≡ add_answer names cs (same_clause equal cs) m p) where
    new : NewPolicy cs (same_clause equal cs) m (parts p)
    new = new_policy names cs (same_clause equal cs) m p e

    known : clause_known cs p.template.clause ≡ Ok tt
    known =
        let k = accepted_then (policy_known names cs p) _ tt e in
        sym (accepted_then (names_known names (policy_names p)) (clause_known cs p.template.clause) tt (sym k.0)).1

    law : Grants (same_clause equal cs) m (with_policy (row_for (parts p)) (with_or_inserted p.template m)) (parts p)
    law = (granted (same_clause equal cs) m h.sound (kept_of m h.sound) (parts p) record {
      scopes = within cs lawful p.template new.cached;
      equal = new.equal;
      policy_free = new.policy_free;
      link = new.link;
      exact = p.exact;
      unlinked = p.unlinked;
    }).law

    -- what is in force under the policy's id equals the policy
    abbrev now : Parts
    now = record { template = kept_record (template_at m p.template.id) p.template; link = p.link; values = p.values }

    now_equal : parts_equal (same_clause equal cs) now (parts p) ≡ true
    now_equal = go (template_at m p.template.id) refl
      where
        go : (o : Option Template) → template_at m p.template.id ≡ o
            → parts_equal (same_clause equal cs) record { template = kept_record o p.template; link = p.link; values = p.values } (parts p) ≡ true
        go None d = policy_itself equal cs decides (parts p) known
        go (Some s) d = equal_template equal cs decides s p.template p.link p.values (new.equal s d)

    change : Change m (with_policy (row_for (parts p)) (with_or_inserted p.template m)) (id_of (parts p)) (Some now)
    change = record { here = force_named end (id_of (parts p)) (policy now) law.names_it; others = λ k n. other k n (eqb p.template.id k) refl }
      where
        end : Maps
        end = with_policy (row_for (parts p)) (with_or_inserted p.template m)

        its_template : (p.template.id ≡ id_of (parts p) → ⊥) → (b : Bool) → bound m p.template.id ≡ b → in_force end p.template.id ≡ in_force m p.template.id
        its_template n false d = force_named end p.template.id (template p.template) (law.template_comes n d) ∙ sym (force_unbound m p.template.id d)
        its_template n true d = force_same end m p.template.id (law.template_stays n d)

        other : (k : ℕ) → (k ≡ id_of (parts p) → ⊥) → (b : Bool) → eqb p.template.id k ≡ b → in_force end k ≡ in_force m k
        other k n true d =
            let i = eqb-true p.template.id k d in
            subst (λ j. in_force end j ≡ in_force m j) i (its_template (λ z. n (sym i ∙ z)) (bound m p.template.id) refl)
        other k n false d = force_same end m k (law.others k n (λ z. eqb-false p.template.id k d (sym z)))

    added_fits : AllFit (Fit cs) (with_or_inserted p.template m)
    added_fits = go (template_at m p.template.id) refl
      where
        go : (o : Option Template) → template_at m p.template.id ≡ o → AllFit (Fit cs) (with_or_inserted p.template m)
        go (Some s) d = subst (AllFit (Fit cs)) (sym (or_present m p.template s d)) h.fits
        go None d = subst (AllFit (Fit cs)) (sym (or_new m p.template d))
            (with_fit (with_template p.template m) p.template (λ k. lookup_pushed template_id m.templates p.template k d) record { slots = new.cached; clause = known })

    pub policy_added_holds : Sound (with_policy (row_for (parts p)) (with_or_inserted p.template m))
        → Holds (same_clause equal cs) (Fit cs) (with_policy (row_for (parts p)) (with_or_inserted p.template m))
        (with_account (id_of (parts p)) (grant (tally (id_of (parts p))) (parts p)) tally)
    policy_added_holds so = record {
      sound = so;
      shows = shows_granted (same_clause equal cs) m (with_policy (row_for (parts p)) (with_or_inserted p.template m)) tally h.shows (id_of (parts p)) now (parts p)
          change (force_unbound m (id_of (parts p)) law.unbound) now_equal;
      fits = added_fits;
    }

-- another set is merged in
pub merged_holds : {C : Type 0} (equal : C → C → Bool) (cs : List (Clause C)) (decides : DecidesEquality equal) (live incoming : Maps) (tl ti : Tally)
    → Holds (same_clause equal cs) (Fit cs) live tl → Holds (same_clause equal cs) (Fit cs) incoming ti
    → (limits : Limits) (texts : List (List ℕ)) (rename : Bool) (room : ℕ) (pairs : List Renaming)
    → Ok pairs ≡ merge_outcome limits texts (same_clause equal cs) live incoming rename room
    → Holds (same_clause equal cs) (Fit cs) (merged (final pairs) live incoming) (merge_tally (same_clause equal cs) pairs tl ti)
merged_holds equal cs decides live incoming tl ti hl hi limits texts rename room pairs e =
    holds_after (same_clause equal cs) (Fit cs) live incoming tl ti pairs
    (chosen_pairs limits texts (same_clause equal cs) live incoming rename room pairs hl.sound hi.sound e) hl hi
    (clauses_comparing equal cs decides) (λ f t g. record { slots = g.slots; clause = g.clause })
