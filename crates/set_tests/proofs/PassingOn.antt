-- What is found under an id that passes to the next tenant.
use Rattle.std.proofs.Common.{◌≡◌, ℕ, List, [], ◌∷◌, Some, None, Ok, Err, Option, Result, refl, sym, ap, ◌∙◌, arith, rules}
use Rattle.refusals.specs.declared.refusal.Refusal.{Refusal}
use Rattle.policy.specs.Arity.{Parts}
use Rattle.policy.specs.Known.{and_then, names_known}
use Rattle.policy.specs.declared.values.SlotEnv.{SlotEnv}
use Rattle.policy.specs.declared.template.Template.{Template}
use Rattle.policy_set.specs.declared.rows.Member.{Member}
use Rattle.policy_set.specs.Maps.{Maps, template_at, in_force, thing, changed}
use Rattle.policy_set.specs.Maps.Thing.{policy}
use Rattle.policy_set.specs.Answers.{if_accepted, unlink_answer, unlink_after, without_policy, get_answer, link_answer}
use Rattle.policy_set.specs.Laws.{Adds}
use Rattle.set_tests.specs.Tenants.{leave_answer, Vacated, Taken, link_of_template, link_under}

-- `unlink` leaves the templates
templates_stay : (count : ℕ) (m : Maps) (id t : ℕ) → template_at (unlink_after count m id) t ≡ template_at m t
templates_stay count m id t = go (unlink_answer count m id)
  where
    go : (o : Result Parts Refusal) → template_at (if_accepted o (without_policy id m) m) t ≡ template_at m t
    go (Ok p) = refl
    go (Err e) = refl

-- an id that names a policy has it in force
in_force_of : (t : Option Template) (o : Option Parts) (q : Parts) → thing t o ≡ policy q → o ≡ Some q
in_force_of None None q e = let z : ◌≡◌ {A = ℕ} 0 1 = cc in absurd (omega arith)
in_force_of (Some t) None q e = let z : ◌≡◌ {A = ℕ} 0 1 = cc in absurd (omega arith)
in_force_of None (Some p) q e = cc
in_force_of (Some t) (Some p) q e = cc

-- the number of an id that `leave` accepts is known
known : (count : ℕ) (m : Maps) (id : ℕ) (o : Option Parts) → Ok o ≡ leave_answer count m id → names_known count (id ∷ []) ≡ Ok tt
known count m id o e = search (rules, e)

-- what `get` finds then
pub got : (count : ℕ) (m m1 m2 : Maps) (id : ℕ) (o : Option Parts) (q : Parts) (members : List Member) → Ok o ≡ leave_answer count m id
    → Adds m1 m2 id (policy q) members → get_answer count m2 id ≡ Ok (Some q)
got count m m1 m2 id o q members e a =
    ap (λ (k : Result (Unit {0}) Refusal). and_then k (Ok (in_force m2 id))) (known count m id o e)
    ∙ ap Ok (in_force_of (template_at m2 id) (in_force m2 id) q a.names_it)

-- what `link` makes, where it accepts
linked : (count : ℕ) (m : Maps) (template new : ℕ) (values : SlotEnv) (q : Parts) → Ok q ≡ link_answer count m template new values
    → Some q ≡ link_under m template new values
linked count m template new values q e = go (template_at m template) refl
  where
    go : (o : Option Template) → template_at m template ≡ o → Some q ≡ link_under m template new values
    go None f = search (rules, e, f)
    go (Some t) f = search (rules, e, f)

pub taken : (count : ℕ) (m m1 m2 : Maps) (id template : ℕ) (values : SlotEnv) (o : Option Parts) (q : Parts) (members : List Member)
    → Vacated m m1 id o → Adds m1 m2 id (policy q) members → m1 ≡ unlink_after count m id
    → Ok q ≡ link_answer count m1 template id values → Taken m m2 id template values (Some q)
taken count m m1 m2 id template values o q members r a same e = record {
  in_set = sym (in_force_of (template_at m2 id) (in_force m2 id) q a.names_it);
  is_link = linked count m1 template id values q e
      ∙ ap (changed (link_of_template id values)) (ap (λ n. template_at n template) same ∙ templates_stay count m id template);
  there = refl;
  others = λ k n. a.others k n ∙ r.others k n;
}
