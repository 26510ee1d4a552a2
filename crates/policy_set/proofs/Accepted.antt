-- What holds where a call accepts.
use Rattle.std.proofs.Common.{◌≡◌, ℕ, ◌<◌, Bool, true, false, cond, not, ◌&&◌, eqb, List, [], ◌∷◌, length, is_some, Some, None, Ok, Err, Option, Result, sym, refl, ap, subst, arith}
use Rattle.std.proofs.lemmas.Bool.{or_parts, not-false, ltb-true, eqb-true, eqb-false}
use Rattle.refusals.specs.declared.refusal.Refusal.{Refusal}
use Rattle.refusals.specs.declared.refusal.Refusal.TheVariants.{Occupied, NoSuchTemplate, PolicyIdConflict, NotLinkError, UnlinkingError, NotTemplateError, RemoveTemplateNoTemplateError, RemoveTemplateWithLinksError, Slotless, Crossed, Full}
use Rattle.refusals.specs.declared.refusal.Table.TheVariants.{Templates, Policies}
use Rattle.policy.specs.Arity.{Parts, parts, bindable}
use Rattle.policy.specs.Equality.{template_equal}
use Rattle.policy.specs.declared.bound.Policy.{Policy}
use Rattle.policy.specs.Known.{and_then, names_known, values_names, template_known, policy_known}
use Rattle.policy.specs.Mentions.{condition_slots}
use Rattle.clauses.specs.Book.{Clause}
use Rattle.policy.specs.declared.template.Template.{Template}
use Rattle.policy.specs.declared.values.SlotEnv.{SlotEnv}
use Rattle.policy_set.specs.Tables.{has_room}
use Rattle.policy_set.specs.Maps.{Maps, template_at, row_at, passes, in_force, bound}
use Rattle.policy_set.specs.Sound.{has_slots}
use Rattle.policy_set.specs.Answers.{refuse_if, slots_cached, can_enter_answer, add_template_answer, add_static_answer, other_template, link_fits, id_of, add_answer, found_then, no_rows, reverse_set, linked_answer, link_answer, unlink_answer, remove_template_answer}
use Rattle.policy_set.proofs.Lookups.{is_none}

-- a test that accepted, and what came after it
pub accepted_then : {X : Type 0} (first : Result (Unit {0}) Refusal) (rest : Result X Refusal) (x : X) → Ok x ≡ and_then first rest → (first ≡ Ok tt) × (Ok x ≡ rest)
accepted_then (Ok u) rest x q = (refl, q)
accepted_then (Err d) rest x q = let z : ◌≡◌ {A = ℕ} 0 1 = cc in absurd (omega arith)

pub not_refused : (b : Bool) (e : Refusal) → refuse_if b e ≡ Ok tt → b ≡ false
not_refused true e q = let z : ◌≡◌ {A = ℕ} 0 1 = cc in absurd (omega arith)
not_refused false e q = refl

-- an id that is not bound
pub free : (m : Maps) (id : ℕ) (e : Refusal) → refuse_if (bound m id) e ≡ Ok tt → (template_at m id ≡ None) × (row_at m id ≡ None)
free m id e q =
    let p = or_parts (is_some (template_at m id)) (is_some (row_at m id)) (not_refused (bound m id) e q) in
    (is_none (template_at m id) p.0, is_none (row_at m id) p.1)

-- a table with room for one more
pub has_place : {X : Type 0} (limit : ℕ) (xs : List X) (e : Refusal) → refuse_if (not (has_room limit xs)) e ≡ Ok tt → length xs < limit
has_place limit xs e q = ltb-true (length xs) limit (not-false _ (not_refused (not (has_room limit xs)) e q))

-- what holds where a template is added
pub record NewTemplate {C : Type 0} (cs : List (Clause C)) (m : Maps) (t : Template) : Type 0 where
  pub template_free : template_at m t.id ≡ None
  pub policy_free : row_at m t.id ≡ None
  pub cached : t.slots.bits ≡ (condition_slots cs t).bits
  pub has_slots : has_slots t ≡ true
  pub room : length m.templates < 64

pub cached_slots : {C : Type 0} (cs : List (Clause C)) (t : Template) → slots_cached cs t ≡ Ok tt → t.slots.bits ≡ (condition_slots cs t).bits
cached_slots cs t e = eqb-true t.slots.bits (condition_slots cs t).bits (not-false _ (not_refused (not (eqb t.slots.bits (condition_slots cs t).bits)) _ e))

pub new_template : {C : Type 0} (names : ℕ) (cs : List (Clause C)) (m : Maps) (t : Template) → Ok tt ≡ add_template_answer names cs m t → NewTemplate cs m t
new_template names cs m t e =
    let h = accepted_then (can_enter_answer names cs m t) _ tt e in
    let a = accepted_then (template_known names cs t) _ tt (sym h.0) in
    let b = accepted_then (slots_cached cs t) _ tt a.1 in
    let d = accepted_then (refuse_if (not (has_slots t)) (Slotless t.id)) _ tt h.1 in
    let f = free m t.id _ (sym b.1) in
    record {
      template_free = f.0;
      policy_free = f.1;
      cached = cached_slots cs t b.0;
      has_slots = not-false _ (not_refused (not (has_slots t)) _ d.0);
      room = has_place 64 m.templates _ (sym d.1);
    }

-- what holds where a static policy is added
pub record NewStatic {C : Type 0} (cs : List (Clause C)) (m : Maps) (t : Template) : Type 0 where
  pub template_free : template_at m t.id ≡ None
  pub policy_free : row_at m t.id ≡ None
  pub cached : t.slots.bits ≡ (condition_slots cs t).bits
  pub template_room : length m.templates < 64
  pub policy_room : length m.policies < 256

pub new_static : {C : Type 0} (names : ℕ) (cs : List (Clause C)) (m : Maps) (t : Template) → Ok tt ≡ add_static_answer names cs m t → NewStatic cs m t
new_static names cs m t e =
    let h = accepted_then (can_enter_answer names cs m t) _ tt e in
    let a = accepted_then (template_known names cs t) _ tt (sym h.0) in
    let b = accepted_then (slots_cached cs t) _ tt a.1 in
    let d = accepted_then (refuse_if (not (has_room 64 m.templates)) (Full Templates)) _ tt h.1 in
    let f = free m t.id _ (sym b.1) in
    record {
      template_free = f.0;
      policy_free = f.1;
      cached = cached_slots cs t b.0;
      template_room = has_place 64 m.templates _ d.0;
      policy_room = has_place 256 m.policies _ (sym d.1);
    }

-- what holds where a policy is added
pub record NewPolicy {C : Type 0} (cs : List (Clause C)) (same : ℕ → ℕ → Bool) (m : Maps) (p : Parts) : Type 0 where
  pub cached : p.template.slots.bits ≡ (condition_slots cs p.template).bits
  pub equal : (s : Template) → template_at m p.template.id ≡ Some s → template_equal same s p.template ≡ true
  pub policy_free : row_at m (id_of p) ≡ None
  pub link : link_fits m p.template p.link ≡ Ok tt
  pub template_room : template_at m p.template.id ≡ None → length m.templates < 64
  pub policy_room : length m.policies < 256

pub new_policy : {C : Type 0} (names : ℕ) (cs : List (Clause C)) (same : ℕ → ℕ → Bool) (m : Maps) (p : Policy) → Ok tt ≡ add_answer names cs same m p → NewPolicy cs same m (parts p)
new_policy names cs same m p e =
    let a = accepted_then (policy_known names cs p) _ tt e in
    let b = accepted_then (slots_cached cs p.template) _ tt a.1 in
    let c = accepted_then (refuse_if (other_template same m p.template) (Occupied p.template.id)) _ tt b.1 in
    let d = accepted_then (refuse_if (is_some (row_at m (id_of (parts p)))) (Occupied (id_of (parts p)))) _ tt c.1 in
    let f = accepted_then (link_fits m p.template p.link) _ tt d.1 in
    let g = accepted_then (refuse_if (not (is_some (template_at m p.template.id)) && not (has_room 64 m.templates)) (Full Templates)) _ tt f.1 in
    record {
      cached = cached_slots cs p.template b.0;
      equal = λ s q. not-false _ (subst (λ (o : Option Template). passes (λ u. not (template_equal same u p.template)) o ≡ false) q (not_refused (other_template same m p.template) _ c.0));
      policy_free = is_none (row_at m (id_of (parts p))) (not_refused _ _ d.0);
      link = f.0;
      template_room = λ q. room q (not_refused _ _ g.0);
      policy_room = has_place 256 m.policies _ (sym g.1);
    }
  where
    room : template_at m p.template.id ≡ None → (not (is_some (template_at m p.template.id)) && not (has_room 64 m.templates)) ≡ false → length m.templates < 64
    room q h = ltb-true (length m.templates) 64 (not-false _ (subst (λ (o : Option Template). (not (is_some o) && not (has_room 64 m.templates)) ≡ false) q h))

-- what holds of a link that is added
pub record NewLink (m : Maps) (t : Template) (id : ℕ) : Type 0 where
  pub has_slots : has_slots t ≡ true
  pub other_id : id ≡ t.id → ⊥
  pub template_new : template_at m t.id ≡ None → row_at m t.id ≡ None
  pub id_free : template_at m id ≡ None

pub new_link : (m : Maps) (t : Template) (id : ℕ) → link_fits m t (Some id) ≡ Ok tt → NewLink m t id
new_link m t id e =
    let a = accepted_then (refuse_if (not (has_slots t)) (Slotless t.id)) _ tt (sym e) in
    let b = accepted_then (refuse_if (eqb id t.id) (Crossed id)) _ tt a.1 in
    let c = accepted_then (refuse_if (not (is_some (template_at m t.id)) && is_some (row_at m t.id)) (Crossed t.id)) _ tt b.1 in
    record {
      has_slots = not-false _ (not_refused (not (has_slots t)) _ a.0);
      other_id = eqb-false id t.id (not_refused (eqb id t.id) _ b.0);
      template_new = λ q. is_none (row_at m t.id) (subst (λ (o : Option Template). (not (is_some o) && is_some (row_at m t.id)) ≡ false) q (not_refused _ _ c.0));
      id_free = is_none (template_at m id) (not_refused (is_some (template_at m id)) _ (sym c.1));
    }

-- what holds where a link is made
pub record Linkable (m : Maps) (new : ℕ) (values : SlotEnv) (t : Template) (p : Parts) : Type 0 where
  pub template_free : template_at m new ≡ None
  pub policy_free : row_at m new ≡ None
  pub has_slots : has_slots t ≡ true
  pub room : length m.policies < 256
  pub made : p ≡ record { template = t; link = Some new; values = values }

pub linkable : (m : Maps) (new : ℕ) (values : SlotEnv) (t : Template) (p : Parts) → Ok p ≡ linked_answer m new values t → Linkable m new values t p
linkable m new values t p e =
    let a = accepted_then (bindable t.slots values) _ p e in
    let b = accepted_then (refuse_if (bound m new) (PolicyIdConflict new)) _ p a.1 in
    let c = accepted_then (refuse_if (not (has_slots t)) (Slotless t.id)) _ p b.1 in
    let d = accepted_then (refuse_if (not (has_room 256 m.policies)) (Full Policies)) _ p c.1 in
    let f = free m new _ b.0 in
    record {
      template_free = f.0;
      policy_free = f.1;
      has_slots = not-false _ (not_refused (not (has_slots t)) _ c.0);
      room = has_place 256 m.policies _ d.0;
      made = let q = d.1 in cc;
    }

-- a link is made from a template that is there
pub link_of_template : (names : ℕ) (m : Maps) (template new : ℕ) (values : SlotEnv) (p : Parts) → Ok p ≡ link_answer names m template new values
    → (t : Template) × (template_at m template ≡ Some t) × Linkable m new values t p
link_of_template names m template new values p e = there (template_at m template) (accepted_then (names_known names (template ∷ new ∷ values_names values)) _ p e).1
  where
    there : (o : Option Template) → Ok p ≡ found_then (NoSuchTemplate template) o (linked_answer m new values) → (t : Template) × (o ≡ Some t) × Linkable m new values t p
    there None q = let z : ◌≡◌ {A = ℕ} 0 1 = cc in absurd (omega arith)
    there (Some t) q = (t, refl, linkable m new values t p q)

-- what `found-then` went on with
pub found_some : {X : Type 0} (e : Refusal) (o : Option X) (x : X) → Ok x ≡ found_then e o Ok → o ≡ Some x
found_some e None x q = let z : ◌≡◌ {A = ℕ} 0 1 = cc in absurd (omega arith)
found_some e (Some y) x q = let z : y ≡ x = cc in ap Some z

-- what holds where a link is removed
pub record Unlinkable (m : Maps) (id : ℕ) (p : Parts) : Type 0 where
  pub no_template : template_at m id ≡ None
  pub policy : in_force m id ≡ Some p

pub unlinkable : (names : ℕ) (m : Maps) (id : ℕ) (p : Parts) → Ok p ≡ unlink_answer names m id → Unlinkable m id p
unlinkable names m id p e =
    let a = accepted_then (names_known names (id ∷ [])) _ p e in
    let b = accepted_then (refuse_if (is_some (template_at m id)) (NotLinkError id)) _ p a.1 in
    record {
      no_template = is_none (template_at m id) (not_refused (is_some (template_at m id)) _ b.0);
      policy = found_some (UnlinkingError id) (in_force m id) p b.1;
    }

-- what holds where a template is removed
pub record Removable (m : Maps) (id : ℕ) (t : Template) : Type 0 where
  pub template : template_at m id ≡ Some t
  pub no_policy : row_at m id ≡ None
  pub no_members : no_rows (reverse_set id m) ≡ true

pub removable : (names : ℕ) (m : Maps) (id : ℕ) (t : Template) → Ok t ≡ remove_template_answer names m id → Removable m id t
removable names m id t e =
    let a = accepted_then (names_known names (id ∷ [])) _ t e in
    let b = accepted_then (refuse_if (is_some (row_at m id)) (NotTemplateError id)) _ t a.1 in
    let c = there (template_at m id) (no_rows (reverse_set id m)) b.1 in
    record { template = c.0; no_policy = is_none (row_at m id) (not_refused (is_some (row_at m id)) _ b.0); no_members = c.1 }
  where
    there : (o : Option Template) (none : Bool)
        → Ok t ≡ found_then (RemoveTemplateNoTemplateError id) o (λ (u : Template). cond none (Ok u) (Err (RemoveTemplateWithLinksError id)))
        → (o ≡ Some t) × (none ≡ true)
    there None none q = let z : ◌≡◌ {A = ℕ} 0 1 = cc in absurd (omega arith)
    there (Some u) true q = let z : u ≡ t = cc in (ap Some z, refl)
    there (Some u) false q = let z : ◌≡◌ {A = ℕ} 0 1 = cc in absurd (omega arith)
