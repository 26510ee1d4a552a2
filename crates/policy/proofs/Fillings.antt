-- The laws of filling.
use Rattle.std.proofs.Common.{◌≡◌, true, false, List, is_some, Some, None, Option, sym, refl, ◌∙◌, subst}
use Rattle.std.proofs.lemmas.Bool.{false≢true}
use Rattle.names.specs.declared.entity.EntityUID.{EntityUID}
use Rattle.policy.specs.declared.constraint.EntityReference.{EntityReference}
use Rattle.policy.specs.declared.constraint.EntityReference.TheVariants.{EUID, Slot}
use Rattle.policy.specs.declared.constraint.PrincipalOrResourceConstraint.{PrincipalOrResourceConstraint}
use Rattle.policy.specs.declared.constraint.PrincipalOrResourceConstraint.TheVariants as scope
use Rattle.policy.specs.Hierarchy.{Edge}
use Rattle.policy.specs.Meaning.{Holds, Within, referred}
use Rattle.policy.specs.Filling.{fill_reference, fill, is_slot, slotted, Iff, Fills}

referred_same : (value : Option EntityUID) (r : EntityReference) → referred value (fill_reference value r) ≡ referred value r
referred_same value (EUID e) = refl
referred_same None Slot = refl
referred_same (Some e) Slot = refl

referred_fixed : (value other : Option EntityUID) (r : EntityReference) → (is_slot (Some r) ≡ true → is_some value ≡ true)
    → referred other (fill_reference value r) ≡ referred value r
referred_fixed value other (EUID e) h = refl
referred_fixed None other Slot h = elim (false≢true (h refl)) [ ]
referred_fixed (Some e) other Slot h = refl

closed : (value : Option EntityUID) (r : EntityReference) → (is_slot (Some r) ≡ true → is_some value ≡ true) → is_slot (Some (fill_reference value r)) ≡ false
closed value (EUID e) h = refl
closed None Slot h = elim (false≢true (h refl)) [ ]
closed (Some e) Slot h = refl

-- What holds by an equation holds both ways.
both : {X : Type 0} (P : X → Type 0) {a b : X} → a ≡ b → Iff (P a) (P b)
both P e = (subst P e, subst P (sym e))

module _ (h : List Edge) (x : EntityUID) (other value : Option EntityUID) where
  -- A scope whose reference stands for the same entity holds alike.
  alike : (s : PrincipalOrResourceConstraint) → ((r : EntityReference) → is_slot (Some r) ≡ slotted s → referred other (fill_reference value r) ≡ referred value r)
      → Iff (Holds h other x (fill value s)) (Holds h value x s)
  alike scope.Any e = ((λ p. p), λ p. p)
  alike (scope.In r) e = both (λ (o : Option EntityUID). Within h x o) (e r refl)
  alike (scope.Eq r) e = both (λ (o : Option EntityUID). o ≡ Some x) (e r refl)
  alike (scope.Is t) e = ((λ p. p), λ p. p)
  alike (scope.IsIn t r) e = both (λ (o : Option EntityUID). (x.ty ≡ t) × Within h x o) (e r refl)

closes_scope : (value : Option EntityUID) (s : PrincipalOrResourceConstraint) → (slotted s ≡ true → is_some value ≡ true) → slotted (fill value s) ≡ false
closes_scope value scope.Any c = refl
closes_scope value (scope.In r) c = closed value r c
closes_scope value (scope.Eq r) c = closed value r c
closes_scope value (scope.Is t) c = refl
closes_scope value (scope.IsIn t r) c = closed value r c

pub fills : (value : Option EntityUID) (s : PrincipalOrResourceConstraint) → Fills value s
fills value s = record {
  keeps = λ h x. alike h x value value s (λ r _. referred_same value r);
  closes = closes_scope value s;
  fixes = λ c h other x. alike h x other value s (λ r e. referred_fixed value other r (λ t. c (sym e ∙ t)));
}
