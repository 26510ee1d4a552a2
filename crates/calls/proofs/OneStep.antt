-- The law of one call.
use Rattle.std.proofs.Common.{◌≡◌, ℕ, Bool, true, false, List, length, is_some, Some, None, Ok, Err, Option, Result, sym, refl, subst}
use Rattle.refusals.specs.declared.refusal.Refusal.{Refusal}
use Rattle.clauses.specs.Book.{Clause, DecidesEquality, Lawful, same_clause}
use Rattle.names.specs.Names.{Limits}
use Rattle.policy.specs.Arity.{Parts, parts}
use Rattle.policy.specs.Known.{and_then}
use Rattle.policy.specs.declared.bound.Policy.{Policy}
use Rattle.policy.specs.declared.fixed.StaticPolicy.{StaticPolicy}
use Rattle.policy.specs.declared.template.Template.{Template}
use Rattle.policy.specs.declared.values.SlotEnv.{SlotEnv}
use Rattle.policy_set.specs.declared.rows.Renaming.{Renaming}
use Rattle.policy_set.specs.Maps.{Maps, template_at, in_force}
use Rattle.policy_set.specs.Sound.{Sound}
use Rattle.policy_set.specs.Answers.{if_accepted, add_template_answer, add_static_answer, add_answer, link_answer, unlink_answer, static_policy, static_removed, remove_template_answer, static_parts, row_for, link_row, with_template, with_policy, with_or_inserted, without_policy, without_template}
use Rattle.policy_set.specs.MergeCall.{merge_after, merge_texts}
use Rattle.policy_set.specs.Tally.{Tally}
use Rattle.policy_set.proofs.Holding.{Holds}
use Rattle.policy_set.proofs.Accepted.{unlinkable}
use Rattle.policy_set.proofs.Lookups.{is_some as some_there}
use Rattle.calls.specs.declared.call.Side.{Side}
use Rattle.calls.specs.declared.call.Side.TheVariants.{A, B}
use Rattle.calls.specs.declared.call.Call.{Call}
use Rattle.calls.specs.declared.call.Call.TheVariants as call
use Rattle.calls.specs.Model.{Told, State, tell, maps_at, other, with_maps, with_texts, outcome, answered, step}
use Rattle.calls.specs.Model.Told.{done, policy, pairs}
use Rattle.calls.specs.Law.{Tallies, tally_at, with_tally, fed, TakesLatest, Fit, BothShow, OneCall}
use Rattle.calls.proofs.Entering.{latest_taken}
use Rattle.calls.proofs.Keeping.{template_added_holds, static_added_holds, link_added_holds, link_removed_holds, static_removed_holds, moved_holds, template_removed_holds, policy_added_holds, merged_holds}
use Rattle.calls.proofs.Showing.{shown, holds}

-- the maps of one set where they are put
put_there : (s : Side) (m : Maps) (w : State) → maps_at s (with_maps s m w) ≡ m
put_there A m w = refl
put_there B m w = refl

module _ {C : Type 0} (equal : C → C → Bool) (cs : List (Clause C)) where
  -- one set and its tally
  abbrev Kept : Maps → Tally → Type 0
  Kept m tally = Holds (same_clause equal cs) (Fit cs) m tally

  one_holds : (s : Side) (t : Tallies) (w : State) → BothShow equal cs t w → Kept (maps_at s w) (tally_at s t)
  one_holds A t w h = holds equal cs w.a t.a h.a
  one_holds B t w h = holds equal cs w.b t.b h.b

  -- one set and its tally change
  put : (s : Side) (t : Tallies) (w : State) (m : Maps) (tally : Tally) → BothShow equal cs t w → Kept m tally → BothShow equal cs (with_tally s tally t) (with_maps s m w)
  put A t w m tally h k = record { a = shown equal cs m tally k; b = h.b }
  put B t w m tally h k = record { a = h.a; b = shown equal cs m tally k }

  -- one set changes, and its tally stays
  put_maps : (s : Side) (t : Tallies) (w : State) (m : Maps) → BothShow equal cs t w → Kept m (tally_at s t) → BothShow equal cs t (with_maps s m w)
  put_maps A t w m h k = record { a = shown equal cs m t.a k; b = h.b }
  put_maps B t w m h k = record { a = h.a; b = shown equal cs m t.b k }

  -- nothing changes
  stay : (s : Side) (t : Tallies) (w : State) → BothShow equal cs t w → BothShow equal cs t (with_maps s (maps_at s w) w)
  stay A t w h = record { a = h.a; b = h.b }
  stay B t w h = record { a = h.a; b = h.b }

  other_texts : (t : Tallies) (w : State) (texts : List (List ℕ)) → BothShow equal cs t w → BothShow equal cs t (with_texts texts w)
  other_texts t w texts h = record { a = h.a; b = h.b }

-- both sets keep each id to one thing
pub record BothSound (w : State) : Type 0 where
  pub a : Sound w.a
  pub b : Sound w.b

one_sound : (s : Side) (w : State) → BothSound w → Sound (maps_at s w)
one_sound A w h = h.a
one_sound B w h = h.b

put_sound : (s : Side) (m : Maps) (w : State) → BothSound (with_maps s m w) → Sound m
put_sound s m w h = subst Sound (put_there s m w) (one_sound s (with_maps s m w) h)

module _ {C : Type 0} (limits : Limits) (equal : C → C → Bool) (cs : List (Clause C)) (lawful : Lawful cs) (decides : DecidesEquality equal) (w : State) (t : Tallies) (h : BothShow equal cs t w) where
  at_side : (s : Side) → Kept equal cs (maps_at s w) (tally_at s t)
  at_side s = one_holds equal cs s t w h

  template_call : (s : Side) (x : Template) (r : Result (Unit {0}) Refusal) → r ≡ add_template_answer (length w.texts) cs (maps_at s w) x
      → BothSound (with_maps s (if_accepted r (with_template x (maps_at s w)) (maps_at s w)) w)
      → BothShow equal cs t (with_maps s (if_accepted r (with_template x (maps_at s w)) (maps_at s w)) w)
  template_call s x (Ok tt) e so =
      put_maps equal cs s t w (with_template x (maps_at s w)) h
      (template_added_holds equal cs decides (maps_at s w) (tally_at s t) (at_side s) (length w.texts) x e (put_sound s _ w so))
  template_call s x (Err d) e so = stay equal cs s t w h

  static_call : (s : Side) (p : StaticPolicy) (r : Result (Unit {0}) Refusal) → r ≡ add_static_answer (length w.texts) cs (maps_at s w) p.body
      → BothSound (with_maps s (if_accepted r (with_policy (row_for (static_parts p.body)) (with_template p.body (maps_at s w))) (maps_at s w)) w)
      → BothShow equal cs (fed (same_clause equal cs) t (call.AddStatic s p) (tell (λ _. done) r))
      (with_maps s (if_accepted r (with_policy (row_for (static_parts p.body)) (with_template p.body (maps_at s w))) (maps_at s w)) w)
  static_call s p (Ok tt) e so =
      put equal cs s t w (with_policy (row_for (static_parts p.body)) (with_template p.body (maps_at s w))) _ h
      (static_added_holds equal cs decides (maps_at s w) (tally_at s t) (at_side s) (length w.texts) p e (put_sound s _ w so))
  static_call s p (Err d) e so = stay equal cs s t w h

  add_call : (s : Side) (p : Policy) (r : Result (Unit {0}) Refusal) → r ≡ add_answer (length w.texts) cs (same_clause equal cs) (maps_at s w) p
      → BothSound (with_maps s (if_accepted r (with_policy (row_for (parts p)) (with_or_inserted p.template (maps_at s w))) (maps_at s w)) w)
      → BothShow equal cs (fed (same_clause equal cs) t (call.Add s p) (tell (λ _. done) r))
      (with_maps s (if_accepted r (with_policy (row_for (parts p)) (with_or_inserted p.template (maps_at s w))) (maps_at s w)) w)
  add_call s p (Ok tt) e so =
      put equal cs s t w (with_policy (row_for (parts p)) (with_or_inserted p.template (maps_at s w))) _ h
      (policy_added_holds equal cs decides (maps_at s w) (tally_at s t) (at_side s) lawful (length w.texts) p e (put_sound s _ w so))
  add_call s p (Err d) e so = stay equal cs s t w h

  link_call : (s : Side) (id new : ℕ) (values : SlotEnv) (r : Result Parts Refusal) → r ≡ link_answer (length w.texts) (maps_at s w) id new values
      → BothSound (with_maps s (if_accepted r (with_policy (link_row id new values) (maps_at s w)) (maps_at s w)) w)
      → BothShow equal cs (fed (same_clause equal cs) t (call.Link s id new values) (tell policy r))
      (with_maps s (if_accepted r (with_policy (link_row id new values) (maps_at s w)) (maps_at s w)) w)
  link_call s id new values (Ok p) e so =
      put equal cs s t w (with_policy (link_row id new values) (maps_at s w)) _ h
      (link_added_holds equal cs decides (maps_at s w) (tally_at s t) (at_side s) (length w.texts) id new values p e (put_sound s _ w so))
  link_call s id new values (Err d) e so = stay equal cs s t w h

  unlink_call : (s : Side) (id : ℕ) (r : Result Parts Refusal) → r ≡ unlink_answer (length w.texts) (maps_at s w) id
      → BothSound (with_maps s (if_accepted r (without_policy id (maps_at s w)) (maps_at s w)) w)
      → BothShow equal cs (fed (same_clause equal cs) t (call.Unlink s id) (tell policy r))
      (with_maps s (if_accepted r (without_policy id (maps_at s w)) (maps_at s w)) w)
  unlink_call s id (Ok p) e so =
      put equal cs s t w (without_policy id (maps_at s w)) _ h
      (link_removed_holds equal cs decides (maps_at s w) (tally_at s t) (at_side s) (length w.texts) id p e (put_sound s _ w so))
  unlink_call s id (Err d) e so = stay equal cs s t w h

  static_removed_call : (s : Side) (id : ℕ) (k : Result (Unit {0}) Refusal) (o : Option Parts) (b : Bool) → in_force (maps_at s w) id ≡ o → is_some (template_at (maps_at s w) id) ≡ b
      → BothSound (with_maps s (if_accepted k (static_removed id o b (maps_at s w)) (maps_at s w)) w)
      → BothShow equal cs (fed (same_clause equal cs) t (call.RemoveStatic s id) (tell policy (and_then k (static_policy id o b))))
      (with_maps s (if_accepted k (static_removed id o b (maps_at s w)) (maps_at s w)) w)
  static_removed_call s id (Ok tt) (Some p) true e f so =
      let u = some_there (template_at (maps_at s w) id) f in
      put equal cs s t w (without_template id (without_policy id (maps_at s w))) _ h
      (static_removed_holds equal cs decides (maps_at s w) (tally_at s t) (at_side s) id u.0 p u.1 e (put_sound s _ w so))
  static_removed_call s id (Ok tt) (Some p) false e f so =
      put_maps equal cs s t w _ h (moved_holds equal cs decides (maps_at s w) (tally_at s t) (at_side s) id (put_sound s _ w so))
  static_removed_call s id (Ok tt) None true e f so = stay equal cs s t w h
  static_removed_call s id (Ok tt) None false e f so = stay equal cs s t w h
  static_removed_call s id (Err d) o b e f so = stay equal cs s t w h

  template_removed_call : (s : Side) (id : ℕ) (r : Result Template Refusal) → r ≡ remove_template_answer (length w.texts) (maps_at s w) id
      → BothSound (with_maps s (if_accepted r (without_template id (maps_at s w)) (maps_at s w)) w)
      → BothShow equal cs t (with_maps s (if_accepted r (without_template id (maps_at s w)) (maps_at s w)) w)
  template_removed_call s id (Ok x) e so =
      put_maps equal cs s t w (without_template id (maps_at s w)) h
      (template_removed_holds equal cs decides (maps_at s w) (tally_at s t) (at_side s) (length w.texts) id x e (put_sound s _ w so))
  template_removed_call s id (Err d) e so = stay equal cs s t w h

  merge_call : (s : Side) (rename : Bool) (room : ℕ) (r : Result (List Renaming) Refusal) → r ≡ outcome limits equal cs w s rename room
      → BothShow equal cs (fed (same_clause equal cs) t (call.Merge s rename room) (tell pairs r))
      (with_texts (merge_texts r w.texts (same_clause equal cs) (maps_at s w) (maps_at (other s) w)) (with_maps s (merge_after r (maps_at s w) (maps_at (other s) w)) w))
  merge_call s rename room (Ok ps) e =
      other_texts equal cs _ _ _ (put equal cs s t w _ _ h
      (merged_holds equal cs decides (maps_at s w) (maps_at (other s) w) (tally_at s t) (tally_at (other s) t) (at_side s) (at_side (other s)) limits w.texts rename room ps e))
  merge_call s rename room (Err d) e = other_texts equal cs _ _ _ (stay equal cs s t w h)

  -- both sets show the tallies after a call
  pub shows_after : (c : Call) → BothSound (step limits equal cs w c) → BothShow equal cs (fed (same_clause equal cs) t c (answered limits equal cs w c)) (step limits equal cs w c)
  shows_after (call.Name text) so = other_texts equal cs t w _ h
  shows_after (call.AddTemplate s x) so = template_call s x _ refl so
  shows_after (call.AddStatic s p) so = static_call s p _ refl so
  shows_after (call.Add s p) so = add_call s p _ refl so
  shows_after (call.Link s id new values) so = link_call s id new values _ refl so
  shows_after (call.Unlink s id) so = unlink_call s id _ refl so
  shows_after (call.RemoveStatic s id) so = static_removed_call s id _ _ _ refl refl so
  shows_after (call.RemoveTemplate s id) so = template_removed_call s id _ refl so
  shows_after (call.Merge s rename room) so = merge_call s rename room _ refl

  unlink_takes : (s : Side) (id : ℕ) (r : Result Parts Refusal) → r ≡ unlink_answer (length w.texts) (maps_at s w) id
      → TakesLatest (same_clause equal cs) t (call.Unlink s id) (tell policy r)
  unlink_takes s id (Ok p) e =
      latest_taken (same_clause equal cs) (maps_at s w) (maps_at s w) (tally_at s t) (at_side s).shows id p (unlinkable (length w.texts) (maps_at s w) id p e).policy
  unlink_takes s id (Err d) e = tt

  static_takes : (s : Side) (id : ℕ) (k : Result (Unit {0}) Refusal) (o : Option Parts) (b : Bool) → in_force (maps_at s w) id ≡ o
      → TakesLatest (same_clause equal cs) t (call.RemoveStatic s id) (tell policy (and_then k (static_policy id o b)))
  static_takes s id (Ok tt) (Some p) true e = latest_taken (same_clause equal cs) (maps_at s w) (maps_at s w) (tally_at s t) (at_side s).shows id p e
  static_takes s id (Ok tt) (Some p) false e = tt
  static_takes s id (Ok tt) None b e = tt
  static_takes s id (Err d) o b e = tt

  -- what a call takes back equals its latest grant
  pub takes_latest : (c : Call) → TakesLatest (same_clause equal cs) t c (answered limits equal cs w c)
  takes_latest (call.Name text) = tt
  takes_latest (call.AddTemplate s x) = tt
  takes_latest (call.AddStatic s p) = tt
  takes_latest (call.Add s p) = tt
  takes_latest (call.Link s id new values) = tt
  takes_latest (call.Unlink s id) = unlink_takes s id _ refl
  takes_latest (call.RemoveStatic s id) = static_takes s id _ _ _ refl
  takes_latest (call.RemoveTemplate s id) = tt
  takes_latest (call.Merge s rename room) = tt

-- the law of one call
pub one_call : {C : Type 0} (limits : Limits) (equal : C → C → Bool) (cs : List (Clause C)) → Lawful cs → DecidesEquality equal
    → (w end : State) (c : Call) (answer : Result Told Refusal) → answer ≡ answered limits equal cs w c → end ≡ step limits equal cs w c → BothSound end → OneCall equal cs w end c answer
one_call limits equal cs lawful decides w end c answer e f so = record {
  shows = λ t h.
      subst (λ (r : Result Told Refusal). BothShow equal cs (fed (same_clause equal cs) t c r) end) (sym e)
      (subst (λ (x : State). BothShow equal cs (fed (same_clause equal cs) t c (answered limits equal cs w c)) x) (sym f)
      (shows_after limits equal cs lawful decides w t h c (subst BothSound f so)));
  takes = λ t h.
      subst (λ (r : Result Told Refusal). TakesLatest (same_clause equal cs) t c r) (sym e) (takes_latest limits equal cs lawful decides w t h c);
}
