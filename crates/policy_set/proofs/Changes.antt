-- Removing one thing and adding one, in the subject's words.
use Rattle.std.proofs.Common.{◌≡◌, ℕ, ◌+◌, ◌≤◌, Bool, true, false, cond, ◌||◌, eqb, List, [], ◌∷◌, ◌++◌, is_some, Some, None, Ok, Err, filter, Option, Result, sym, refl, ap, ◌∙◌, arith}
use Rattle.refusals.specs.declared.refusal.Refusal.{Refusal}
use Rattle.std.proofs.lemmas.List.Elements.{filter-append}
use Rattle.std.proofs.lemmas.Bool.{eq-eqb, ne_eqb}
use Rattle.policy.specs.Arity.{Parts}
use Rattle.policy.specs.declared.template.Template.{Template}
use Rattle.policy_set.specs.declared.rows.PolicyRow.{PolicyRow}
use Rattle.policy_set.specs.declared.rows.Member.{Member}
use Rattle.policy_set.specs.Tables.{one_if, erase, times, Once}
use Rattle.policy_set.specs.Rows.{member_id}
use Rattle.policy_set.specs.Maps.{Maps, Thing, template_at, row_at, changed, present, link_of, whole, in_force, named, thing}
use Rattle.policy_set.specs.Answers.{if_accepted, is_under}
use Rattle.policy_set.specs.Laws.{Removes, Adds, Refused}
use Rattle.policy_set.proofs.Lookups.{times_none, once_tail, once_head}
use Rattle.policy_set.proofs.Updates.{Update, same_template, other_template, other_row, here_template, here_row, here_member}

-- a policy is the same where it finds the same template
pub whole_same : (before after : Maps) (q : PolicyRow) → template_at after q.template ≡ template_at before q.template → whole after q ≡ whole before q
whole_same before after q e = ap (λ (o : Option Template). parts (present o)) e
  where
    parts : Template → Parts
    parts t = record { template = t; link = link_of q; values = q.values }

-- every other id names what it named
pub named_other : (before after : Maps) (id : ℕ) (t : Option Template) (r : Option PolicyRow) (x : Option Member) → Update before after id t r x
    → (k : ℕ) → (k ≡ id → ⊥) → named after k ≡ named before k
named_other before after id t r x u k n =
    let f : eqb id k ≡ false = ne_eqb id k (λ e. n (sym e)) in
    ap (λ (o : Option Template). thing o (in_force after k)) (other_template before after id t r x u k f)
    ∙ ap (thing (template_at before k)) (ap (changed (whole after)) (other_row before after id t r x u k f) ∙ go f (row_at before k) refl)
  where
    go : eqb id k ≡ false → (o : Option PolicyRow) → row_at before k ≡ o → changed (whole after) o ≡ changed (whole before) o
    go f None e = refl
    go f (Some q) e = ap Some (whole_same before after q (same_template before after id t r x u k q f e))

pub times-kept : {X : Type 0} (key : X → ℕ) (k : ℕ) (p : X → Bool) (xs : List X) → times key k (filter p xs) ≤ times key k xs
times-kept key k p [] = omega arith
times-kept key k p (y ∷ xs) = go (times-kept key k p xs) (p y)
  where
    go : times key k (filter p xs) ≤ times key k xs → (c : Bool) → times key k (cond c (y ∷ filter p xs) (filter p xs)) ≤ one_if (eqb (key y) k) + times key k xs
    go ih true = omega arith
    go ih false = omega arith

pub erase_absent : {X : Type 0} (key : X → ℕ) (k : ℕ) (xs : List X) → times key k xs ≡ 0 → erase key k xs ≡ xs
erase_absent key k [] e = refl
erase_absent key k (y ∷ xs) e = go (erase_absent key k xs) (eqb (key y) k) e
  where
    go : (times key k xs ≡ 0 → erase key k xs ≡ xs) → (b : Bool) → one_if b + times key k xs ≡ 0 → cond b xs (y ∷ erase key k xs) ≡ y ∷ xs
    go ih true h = absurd (omega arith)
    go ih false h = ap (λ ys. y ∷ ys) (ih (omega arith))

-- what passes a test, without a row
kept-erase : {X : Type 0} (key : X → ℕ) (k : ℕ) (p : X → Bool) (xs : List X) → Once key xs → filter p (erase key k xs) ≡ erase key k (filter p xs)
kept-erase key k p [] h = refl
kept-erase {X} key k p (y ∷ xs) h = go (kept-erase key k p xs (once_tail key y xs h)) (eqb (key y) k) (p y) refl refl
  where
    go : filter p (erase key k xs) ≡ erase key k (filter p xs) → (b c : Bool) → eqb (key y) k ≡ b → p y ≡ c
        → filter p (cond b xs (y ∷ erase key k xs)) ≡ erase key k (cond c (y ∷ filter p xs) (filter p xs))
    go ih true true e q = sym (ap (λ b. cond b (filter p xs) (y ∷ erase key k (filter p xs))) e)
    go ih true false e q =
        let z : times key k (filter p xs) ≡ 0 = omega (arith, times-kept key k p xs, times_none key k xs (once_head key y xs k h e)) in
        sym (erase_absent key k (filter p xs) z)
    go ih false true e q =
        ap (λ c. cond c (y ∷ filter p (erase key k xs)) (filter p (erase key k xs))) q
        ∙ (ap (λ ys. y ∷ ys) ih ∙ sym (ap (λ b. cond b (filter p xs) (y ∷ erase key k (filter p xs))) e))
    go ih false false e q = ap (λ c. cond c (y ∷ filter p (erase key k xs)) (filter p (erase key k xs))) q ∙ ih

-- one thing is removed
pub removes : (before after : Maps) (id : ℕ) (it : Thing) → Once member_id before.members → Update before after id None None None
    → after.members ≡ erase member_id id before.members → named before id ≡ it → Removes before after id it
removes before after id it h u m e =
    let here = eq-eqb id id refl in
    record {
      named_it = e;
      unbound = ap (λ (o : Option Template). is_some o || is_some (row_at after id)) (here_template before after id None None None u id here)
          ∙ ap is_some (here_row before after id None None None u id here);
      others = named_other before after id None None None u;
      in_no_reverse_set = λ t. omega (
        arith,
        times-kept member_id id (is_under t) after.members,
        times_none member_id id after.members (here_member before after id None None None u id here),
      );
      reverse_sets = λ t. ap (filter (is_under t)) m ∙ kept-erase member_id id (is_under t) before.members h;
    }

-- one thing is added
pub adds : (before after : Maps) (id : ℕ) (it : Thing) (t : Option Template) (r : Option PolicyRow) (x : Option Member) (members : List Member)
    → template_at before id ≡ None → row_at before id ≡ None → Update before after id t r x
    → after.members ≡ before.members ++ members → thing t (changed (whole after) r) ≡ it → Adds before after id it members
adds before after id it t r x members a b u m e =
    let here = eq-eqb id id refl in
    record {
      unbound = ap (λ (o : Option Template). is_some o || is_some (row_at before id)) a ∙ ap is_some b;
      names_it = ap (λ (o : Option Template). thing o (in_force after id)) (here_template before after id t r x u id here)
          ∙ (ap (λ (o : Option PolicyRow). thing t (changed (whole after) o)) (here_row before after id t r x u id here) ∙ e);
      others = named_other before after id t r x u;
      reverse_sets = λ j. ap (filter (is_under j)) m ∙ filter-append (is_under j) before.members members;
    }

-- a refused call leaves the maps as they were
pub refused : (m : Maps) (e : Refusal) → Refused m m e
refused m e = record { same = λ n. refl; names = λ k. refl }

pub refused_after : {X : Type 0} (answer : Result X Refusal) (after before : Maps) (e : Refusal) → Err e ≡ answer → before ≡ if_accepted answer after before
refused_after answer after before e q = ap (λ r. if_accepted r after before) q

pub accepted_after : {X : Type 0} (answer : Result X Refusal) (after before : Maps) (x : X) → Ok x ≡ answer → after ≡ if_accepted answer after before
accepted_after answer after before x q = ap (λ r. if_accepted r after before) q
