-- The derived equality of scopes is their test.
use Rattle.std.proofs.Common.{◌≡◌, ◌&&◌, eqb, Bool, true, false, [], Decides, take, refl, ap, subst}
use mir.Syntax.{impl, tnil, dnil}
use Rattle.std.specs.Cmp.Lexicographic.{pointwise, pointwise_decides}
use Rattle.policy.specs.contracts.action.ActionList.{the_row}
use Rattle.std.proofs.lemmas.Bool.{and_from, and_parts, eqb-true, eq-eqb}
use Rattle.std.proofs.lemmas.Bool.Decides.{same_from_decides}
use Rattle.names.specs.declared.entity.EntityUID.{EntityUID}
use Rattle.names.specs.contracts.entity.EntityUIDPartialEq.TheImpl as entity
use Rattle.policy.specs.declared.action.ActionList.{ActionList}
use Rattle.policy.specs.declared.action.ActionIn.TheVariants as action
use Rattle.policy.specs.contracts.action.ActionInPartialEq.TheImpl as derived
use Rattle.policy.specs.contracts.action.ActionListPartialEq.TheImpl as derived_list
use Rattle.policy.specs.declared.constraint.EntityReference.{EntityReference}
use Rattle.policy.specs.declared.constraint.EntityReference.TheVariants.{EUID, Slot}
use Rattle.policy.specs.declared.constraint.PrincipalOrResourceConstraint.{PrincipalOrResourceConstraint}
use Rattle.policy.specs.declared.constraint.PrincipalOrResourceConstraint.TheVariants as scope
use Rattle.policy.specs.contracts.constraint.EntityReferencePartialEq.TheImpl as derived_reference
use Rattle.policy.specs.contracts.constraint.PrincipalOrResourceConstraintPartialEq.TheImpl as derived_scope
use Rattle.policy.specs.Scopes.{ActionConstraint, listed}
use Rattle.policy.specs.Equality.{entity_equal, action_equal, reference_equal, scope_equal}
use Rattle.policy.proofs.Records.{action_lists}
use Rattle.policy.proofs.Deciding.{entities, lists}

entities_decided : (a b : EntityUID) → Decides (entity.ghosts.eq a b) (a ≡ b)
entities_decided a b = (entities.only a b, entities.whenever a b)

lists_only : (l m : ActionList) → derived_list.ghosts.eq l m ≡ true → l ≡ m
lists_only l m h =
    let p = and_parts (pointwise entity.ghosts.eq l.items m.items) (eqb l.count m.count) h in
    let items = (pointwise_decides entities_decided l.items m.items).0 p.0 in
    let count = eqb-true l.count m.count p.1 in
    action_lists l m (λ i. take (count i) (items i))

lists_itself : (l : ActionList) → derived_list.ghosts.eq l l ≡ true
lists_itself l =
    and_from (pointwise entity.ghosts.eq l.items l.items) (eqb l.count l.count)
    ((pointwise_decides entities_decided l.items l.items).1 refl) (eq-eqb l.count l.count refl)

tests_decided : (l m : ActionList) → Decides (pointwise entity_equal (listed l) (listed m)) (l ≡ m)
tests_decided l m =
    let t = lists entity_equal entities in
    ((λ h. action_lists l m (t.only (listed l) (listed m) h)), λ e. t.whenever (listed l) (listed m) (ap listed e))

lists_decided : (l m : ActionList) → Decides (derived_list.ghosts.eq l m) (l ≡ m)
lists_decided l m = (lists_only l m, λ e. subst (λ (x : ActionList). derived_list.ghosts.eq l x ≡ true) e (lists_itself l))

-- The derived equality of actions is their test.
pub actions_alike : (a b : ActionConstraint) → action_equal a b ≡ (derived.ghosts the_row derived_list.ghosts (impl [] tnil dnil)).eq a b
actions_alike action.Any action.Any = refl
actions_alike action.Any (action.In l) = refl
actions_alike action.Any (action.Eq e) = refl
actions_alike (action.In l) action.Any = refl
actions_alike (action.In l) (action.In m) = same_from_decides (pointwise entity_equal (listed l) (listed m)) (derived_list.ghosts.eq l m) (tests_decided l m) (lists_decided l m)
actions_alike (action.In l) (action.Eq e) = refl
actions_alike (action.Eq e) action.Any = refl
actions_alike (action.Eq e) (action.In l) = refl
actions_alike (action.Eq e) (action.Eq f) = refl

references_alike : (r s : EntityReference) → reference_equal r s ≡ derived_reference.ghosts.eq r s
references_alike (EUID a) (EUID b) = refl
references_alike (EUID a) Slot = refl
references_alike Slot (EUID b) = refl
references_alike Slot Slot = refl

is_alone : (e : Bool) → (e && true) ≡ e
is_alone true = refl
is_alone false = refl

pub scopes_alike : (a b : PrincipalOrResourceConstraint) → scope_equal a b ≡ derived_scope.ghosts.eq a b
scopes_alike scope.Any scope.Any = refl
scopes_alike scope.Any (scope.In s) = refl
scopes_alike scope.Any (scope.Eq s) = refl
scopes_alike scope.Any (scope.Is u) = refl
scopes_alike scope.Any (scope.IsIn u s) = refl
scopes_alike (scope.In r) scope.Any = refl
scopes_alike (scope.In r) (scope.In s) = references_alike r s
scopes_alike (scope.In r) (scope.Eq s) = refl
scopes_alike (scope.In r) (scope.Is u) = refl
scopes_alike (scope.In r) (scope.IsIn u s) = refl
scopes_alike (scope.Eq r) scope.Any = refl
scopes_alike (scope.Eq r) (scope.In s) = refl
scopes_alike (scope.Eq r) (scope.Eq s) = references_alike r s
scopes_alike (scope.Eq r) (scope.Is u) = refl
scopes_alike (scope.Eq r) (scope.IsIn u s) = refl
scopes_alike (scope.Is t) scope.Any = refl
scopes_alike (scope.Is t) (scope.In s) = refl
scopes_alike (scope.Is t) (scope.Eq s) = refl
scopes_alike (scope.Is t) (scope.Is u) = is_alone (eqb t u)
scopes_alike (scope.Is t) (scope.IsIn u s) = refl
scopes_alike (scope.IsIn t r) scope.Any = refl
scopes_alike (scope.IsIn t r) (scope.In s) = refl
scopes_alike (scope.IsIn t r) (scope.Eq s) = refl
scopes_alike (scope.IsIn t r) (scope.Is u) = refl
scopes_alike (scope.IsIn t r) (scope.IsIn u s) = ap (λ (e : Bool). eqb t u && e) (references_alike r s)
