-- A template whose slots are those of its condition has the slots of its scopes among them.
use Rattle.std.proofs.Common.{◌≡◌, Bool, true, false, cond, ◌&&◌, ◌||◌, List, sym, refl, ap, ◌∙◌}
use Rattle.std.proofs.lemmas.Bool.{and_from}
use Rattle.refusals.specs.declared.slots.SlotId.TheVariants.{Principal, Resource}
use Rattle.clauses.specs.Book.{Clause, Lawful}
use Rattle.clauses.specs.Tree.{written}
use Rattle.policy.specs.declared.template.Template.{Template}
use Rattle.policy.specs.Condition.{condition_tree}
use Rattle.policy.specs.Slots.{has, slots_where}
use Rattle.policy.specs.Filling.{slotted}
use Rattle.policy.specs.Mentions.{mentioned, clause_has, part_has, condition_slots}
use Rattle.policy.specs.Filled.{scopes_within}
use Rattle.policy.proofs.Mentioned.{here_condition}
use Rattle.refusals.proofs.Sets.{has_where, same_where}

-- The slots of the parts are those of the condition.
pub parts_slots : {C : Type 0} (cs : List (Clause C)) → Lawful cs → (t : Template)
    → slots_where (part_has cs t.principal t.resource t.clause) ≡ condition_slots cs t
parts_slots cs lawful t =
    same_where (part_has cs t.principal t.resource t.clause) (λ slot. mentioned cs slot (written (condition_tree cs t)))
    (λ slot. sym (here_condition cs slot lawful t))

first_has : (s r c : Bool) → cond s (((s && true) || (r && false)) || c) true ≡ true
first_has true r c = refl
first_has false r c = refl

second_has : (p s c : Bool) → cond s (((p && false) || (s && true)) || c) true ≡ true
second_has true true c = refl
second_has false true c = refl
second_has true false c = refl
second_has false false c = refl

pub within-parts : {C : Type 0} (cs : List (Clause C)) (t : Template)
    → t.slots ≡ slots_where (part_has cs t.principal t.resource t.clause) → scopes_within t ≡ true
within-parts cs t e =
    let test = part_has cs t.principal t.resource t.clause in
    let p : has Principal t.slots ≡ test Principal = ap (has Principal) e ∙ has_where test Principal in
    let r : has Resource t.slots ≡ test Resource = ap (has Resource) e ∙ has_where test Resource in
    and_from _ _
    (ap (λ (b : Bool). cond (slotted t.principal) b true) p ∙ first_has (slotted t.principal) (slotted t.resource) (clause_has cs t.clause Principal))
    (ap (λ (b : Bool). cond (slotted t.resource) b true) r ∙ second_has (slotted t.principal) (slotted t.resource) (clause_has cs t.clause Resource))

pub within_condition : {C : Type 0} (cs : List (Clause C)) → Lawful cs → (t : Template) → t.slots ≡ condition_slots cs t → scopes_within t ≡ true
within_condition cs lawful t e = within-parts cs t (e ∙ sym (parts_slots cs lawful t))
