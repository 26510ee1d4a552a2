-- Validation: the test for action types, the mask, and the law.
use Rattle.std.proofs.Common.{◌≡◌, ℕ, zero, suc, ◌+◌, ◌*◌, ◌%◌, ◌^◌, ◌<◌, ◌≤◌, Bool, true, false, cond, not, eqb, ltb, List, [], ◌∷◌, length, get_or, drop, Some, None, Ok, Err, Option, Result, sym, refl, ap, ◌∙◌, one-mul, pow-suc, add-one, arith, pow_pos, shl_exact, ltb-false, ltb-true, lt-ltb, eqb-true}
use lib.Bits.{bit_and, bit_or, or_shifted_r}
use borrow.Author.Tests.{clash}
use Rattle.std.proofs.lemmas.Bool.Decides.{same_from_decides}
use Rattle.std.specs.Result.{result_unwrap_or}
use Rattle.std.proofs.lemmas.List.{at_drop_more}
use Rattle.refusals.specs.declared.slots.SlotId.{SlotId}
use Rattle.refusals.specs.declared.refusal.TemplateValidationError.{TemplateValidationError}
use Rattle.refusals.specs.declared.refusal.TemplateValidationError.TheVariants.{InvalidActionType}
use Rattle.refusals.specs.declared.refusal.InvalidTemplate.{InvalidTemplate as Invalid}
use Rattle.refusals.specs.declared.refusal.Refusal.{Refusal}
use Rattle.refusals.specs.declared.refusal.Refusal.TheVariants.{InvalidTemplate}
use Rattle.names.specs.Names.{AnswersWhether}
use Rattle.names.specs.TypeName.{IsAction, is_action}
use Rattle.names.specs.declared.entity.EntityUID.{EntityUID}
use Rattle.names.proofs.Actions.{action_decides}
use Rattle.clauses.specs.Book.{Clause, Lawful, at, slots_of}
use Rattle.policy.specs.Slots.{has, slots_where, first_slot}
use Rattle.policy.specs.Mentions.{clause_has}
use Rattle.refusals.proofs.Sets.{has_where}
use Rattle.refusals.specs.declared.slots.SlotId.TheVariants.{Principal, Resource}
use Rattle.policy.specs.Scopes.{actions_of}
use Rattle.policy.specs.declared.template.Template.{Template}
use Rattle.policy_set.specs.Validation.{action_typed, mask_from, clause_slots, mask_fault, slot_fault, template_fault, check_answer, fault_or, try_validate_answer, AllActions, AllValid, AcceptsValid}

-- What the name book tells of an entity's type, where it tells it.
pub told_action : (texts : List (List ℕ)) (e : EntityUID) (answer : Result Bool Refusal) → AnswersWhether texts e.ty IsAction answer
    → result_unwrap_or answer false ≡ action_typed texts e
told_action texts e answer t = by (ltb e.ty (length texts)) refl where
  by : (b : Bool) → ltb e.ty (length texts) ≡ b → result_unwrap_or answer false ≡ cond b (is_action (get_or texts e.ty [])) false
  by true h =
      let k = t.known (ltb-true e.ty (length texts) h) in
      ap (λ (r : Result Bool Refusal). result_unwrap_or r false) k.1
      ∙ same_from_decides k.0 (is_action (get_or texts e.ty [])) k.2 (action_decides (get_or texts e.ty []))
  by false h = ap (λ (r : Result Bool Refusal). result_unwrap_or r false) (t.unknown (ltb-false e.ty (length texts) h))

-- One bit more, above those of the mask.
raised : (mask k : ℕ) → mask < 2 ^ k → k < 8 → bit_or mask ((1 * 2 ^ k) % 256) ≡ mask + 2 ^ k
raised mask k h l =
    ap (bit_or mask) (shl_exact 1 k 8 (omega arith) (omega arith))
    ∙ or_shifted_r 1 k mask h
    ∙ (let e = one-mul (2 ^ k) in omega arith)

masked_more : (texts : List (List ℕ)) (actions : List EntityUID) (k mask next : ℕ) (d : EntityUID) → k < length actions
    → next ≡ mask + cond (action_typed texts (get_or actions k d)) 0 (2 ^ k)
    → mask + mask_from texts k (drop k actions) ≡ mask_from texts 0 actions
    → next + mask_from texts (k + 1) (drop (k + 1) actions) ≡ mask_from texts 0 actions
masked_more texts actions k mask next d h n inv =
    let s : mask_from texts k (drop k actions) ≡ cond (action_typed texts (get_or actions k d)) 0 (2 ^ k) + mask_from texts (k + 1) (drop (k + 1) actions) =
    at_drop_more (mask_from texts k) actions k d h in
    omega arith

doubled : (k : ℕ) → 2 ^ (k + 1) ≡ 2 ^ k + 2 ^ k
doubled k = ap (λ (n : ℕ). 2 ^ n) (add-one k) ∙ pow-suc 2 k ∙ (let e : 2 ^ k * 2 ≡ 2 ^ k + 2 ^ k = omega arith in e)

-- An entity of an action type sets no bit.
pub masked_typed : (texts : List (List ℕ)) (actions : List EntityUID) (k mask next : ℕ) (d : EntityUID) → k < length actions
    → action_typed texts (get_or actions k d) ≡ true → next ≡ mask
    → (mask < 2 ^ k) × (mask + mask_from texts k (drop k actions) ≡ mask_from texts 0 actions)
    → (next < 2 ^ (k + 1)) × (next + mask_from texts (k + 1) (drop (k + 1) actions) ≡ mask_from texts 0 actions)
masked_typed texts actions k mask next d h t n inv =
    let c = ap (λ (b : Bool). cond b 0 (2 ^ k)) t in
    let e = doubled k in
    (omega (arith, inv.0), masked_more texts actions k mask next d h (omega arith) inv.1)

-- Another sets bit k.
pub masked_other : (texts : List (List ℕ)) (actions : List EntityUID) (k mask next : ℕ) (d : EntityUID) → k < length actions → length actions ≤ 8
    → action_typed texts (get_or actions k d) ≡ false → next ≡ bit_or mask ((1 * 2 ^ k) % 256)
    → (mask < 2 ^ k) × (mask + mask_from texts k (drop k actions) ≡ mask_from texts 0 actions)
    → (next < 2 ^ (k + 1)) × (next + mask_from texts (k + 1) (drop (k + 1) actions) ≡ mask_from texts 0 actions)
masked_other texts actions k mask next d h l t n inv =
    let c = ap (λ (b : Bool). cond b 0 (2 ^ k)) t in
    let r : next ≡ mask + 2 ^ k = n ∙ raised mask k inv.0 (omega arith) in
    let e = doubled k in
    (omega (arith, inv.0), masked_more texts actions k mask next d h (omega arith) inv.1)

-- The slot of the lowest bit, the principal's before the resource's.
abbrev first_bit : ℕ → Option SlotId
first_bit bits = cond (eqb (bit_and bits 1) 0) (cond (eqb (bit_and bits 2) 0) None (Some Resource)) (Some Principal)

-- No slot is first exactly in the empty set.
first_none : (bits : ℕ) → bits < 4 → first_bit bits ≡ None → bits ≡ 0
first_none zero h e = refl
first_none (suc zero) h e = let z : ◌≡◌ {A = ℕ} 0 1 = cc in elim (let w : ⊥ = omega arith in w) [ ]
first_none (suc (suc zero)) h e = let z : ◌≡◌ {A = ℕ} 0 1 = cc in elim (let w : ⊥ = omega arith in w) [ ]
first_none (suc (suc (suc zero))) h e = let z : ◌≡◌ {A = ℕ} 0 1 = cc in elim (let w : ⊥ = omega arith in w) [ ]
first_none (suc (suc (suc (suc n)))) h e = elim (let w : ⊥ = omega arith in w) [ ]

-- The slots of a clause as a set have the same first slot as its bits.
first_where : (test : SlotId → Bool) → first_slot (slots_where test) ≡ cond (test Principal) (Some Principal) (cond (test Resource) (Some Resource) None)
first_where test =
    ap (λ b. cond b (Some Principal) (cond (has Resource (slots_where test)) (Some Resource) None)) (has_where test Principal)
    ∙ ap (λ b. cond (test Principal) (Some Principal) (cond b (Some Resource) None)) (has_where test Resource)

first_bits : (p r : Bool) → cond (not p) (Some Principal) (cond (not r) (Some Resource) None) ≡ cond p (cond r None (Some Resource)) (Some Principal)
first_bits true true = refl
first_bits true false = refl
first_bits false true = refl
first_bits false false = refl

first_clause : {C : Type 0} (cs : List (Clause C)) (clause : Option ℕ) → first_slot (slots_where (clause_has cs clause)) ≡ first_bit (clause_slots cs clause)
first_clause cs None = first_where (clause_has cs None)
first_clause cs (Some n) =
    first_where (clause_has cs (Some n)) ∙ first_bits (eqb (bit_and (slots_of (at cs n)) 1) 0) (eqb (bit_and (slots_of (at cs n)) 2) 0)

-- The mask is empty exactly where all are of action types.
mask_none : (texts : List (List ℕ)) (k : ℕ) (es : List EntityUID) → mask_from texts k es ≡ 0 → AllActions texts es
mask_none texts k [] e = tt
mask_none texts k (x ∷ es) e = by (action_typed texts x) refl e (mask_none texts (k + 1) es) where
  typed : (b : Bool) → ltb x.ty (length texts) ≡ b → cond b (is_action (get_or texts x.ty [])) false ≡ true
      → (x.ty < length texts) × IsAction (get_or texts x.ty [])
  typed true h t = (ltb-true x.ty (length texts) h, (action_decides (get_or texts x.ty [])).0 t)
  typed false h t = elim (clash t) [ ]

  by : (b : Bool) → action_typed texts x ≡ b → cond b 0 (2 ^ k) + mask_from texts (k + 1) es ≡ 0
      → (mask_from texts (k + 1) es ≡ 0 → AllActions texts es) → AllActions texts (x ∷ es)
  by true t e f = (typed (ltb x.ty (length texts)) refl t, f (omega arith))
  by false t e f = let p = pow_pos k in elim (let w : ⊥ = omega arith in w) [ ]

none_mask : (texts : List (List ℕ)) (k : ℕ) (es : List EntityUID) → AllActions texts es → mask_from texts k es ≡ 0
none_mask texts k [] a = refl
none_mask texts k (x ∷ es) a =
    let t : action_typed texts x ≡ true =
    ap (λ (b : Bool). cond b (is_action (get_or texts x.ty [])) false) (lt-ltb x.ty (length texts) a.0.0)
    ∙ (action_decides (get_or texts x.ty [])).1 a.0.1 in
    let c = ap (λ (b : Bool). cond b 0 (2 ^ k)) t in
    let r = none_mask texts (k + 1) es a.1 in
    omega arith

mask_fault_none : (mask : ℕ) → mask_fault mask ≡ None → mask ≡ 0
mask_fault_none mask e = by (eqb mask 0) refl e where
  by : (b : Bool) → eqb mask 0 ≡ b → cond b None (Some (InvalidActionType mask)) ≡ None → mask ≡ 0
  by true h e = eqb-true mask 0 h
  by false h e = let z : ◌≡◌ {A = ℕ} 0 1 = cc in elim (let w : ⊥ = omega arith in w) [ ]

slots_small : {C : Type 0} (cs : List (Clause C)) → Lawful cs → (clause : Option ℕ) → clause_slots cs clause < 4
slots_small cs law None = omega arith
slots_small cs law (Some n) = law.bits n

faultless : {C : Type 0} (texts : List (List ℕ)) (cs : List (Clause C)) → Lawful cs → (t : Template) → template_fault texts cs t ≡ None
    → (clause_slots cs t.clause ≡ 0) × AllActions texts (actions_of t.action)
faultless texts cs law t e = by (first_slot (slots_where (clause_has cs t.clause))) refl e where
  by : (o : Option SlotId) → first_slot (slots_where (clause_has cs t.clause)) ≡ o → slot_fault o (mask_fault (mask_from texts 0 (actions_of t.action))) ≡ None
      → (clause_slots cs t.clause ≡ 0) × AllActions texts (actions_of t.action)
  by None f e = (
    first_none (clause_slots cs t.clause) (slots_small cs law t.clause) (sym (first_clause cs t.clause) ∙ f),
    mask_none texts 0 (actions_of t.action) (mask_fault_none (mask_from texts 0 (actions_of t.action)) e),
  )
  by (Some s) f e = let z : ◌≡◌ {A = ℕ} 0 1 = cc in elim (let w : ⊥ = omega arith in w) [ ]

fault_none : {C : Type 0} (texts : List (List ℕ)) (cs : List (Clause C)) (t : Template) → clause_slots cs t.clause ≡ 0
    → AllActions texts (actions_of t.action) → template_fault texts cs t ≡ None
fault_none texts cs t s a =
    ap (λ o. slot_fault o (mask_fault (mask_from texts 0 (actions_of t.action)))) (first_clause cs t.clause ∙ ap first_bit s)
    ∙ ap mask_fault (none_mask texts 0 (actions_of t.action) a)

valid_of : {C : Type 0} (texts : List (List ℕ)) (cs : List (Clause C)) → Lawful cs → (ts : List Template) → try_validate_answer texts cs ts ≡ Ok tt
    → AllValid texts cs ts
valid_of texts cs law [] e = tt
valid_of texts cs law (t ∷ ts) e = by (template_fault texts cs t) refl e (valid_of texts cs law ts) where
  by : (o : Option TemplateValidationError) → template_fault texts cs t ≡ o
      → fault_or (check_answer t.id o) (try_validate_answer texts cs ts) ≡ Ok tt
      → (try_validate_answer texts cs ts ≡ Ok tt → AllValid texts cs ts) → AllValid texts cs (t ∷ ts)
  by None f e r = (faultless texts cs law t f, r e)
  by (Some x) f e r = let z : ◌≡◌ {A = ℕ} 0 1 = cc in elim (let w : ⊥ = omega arith in w) [ ]

of_valid : {C : Type 0} (texts : List (List ℕ)) (cs : List (Clause C)) (ts : List Template) → AllValid texts cs ts
    → try_validate_answer texts cs ts ≡ Ok tt
of_valid texts cs [] v = refl
of_valid texts cs (t ∷ ts) v =
    ap (λ (o : Option TemplateValidationError). fault_or (check_answer t.id o) (try_validate_answer texts cs ts)) (fault_none texts cs t v.0.0 v.0.1)
    ∙ of_valid texts cs ts v.1

-- The law of validation.
pub accepts_valid : {C : Type 0} (texts : List (List ℕ)) (cs : List (Clause C)) → Lawful cs → (ts : List Template) (answer : Result (Unit {0}) Refusal)
    → answer ≡ try_validate_answer texts cs ts → AcceptsValid texts cs ts answer
accepts_valid texts cs law ts answer e = record {
  only = λ h. valid_of texts cs law ts (sym e ∙ h);
  whenever = λ v. e ∙ of_valid texts cs ts v;
}

-- The answer from a place on, by the template there.
from_place : {C : Type 0} (texts : List (List ℕ)) (cs : List (Clause C)) (ts : List Template) (i : ℕ) (t : Template) → i < length ts → t ≡ get_or ts i t
    → try_validate_answer texts cs (drop i ts) ≡ fault_or (check_answer t.id (template_fault texts cs t)) (try_validate_answer texts cs (drop (i + 1) ts))
from_place texts cs ts i t h e =
    at_drop_more (try_validate_answer texts cs) ts i t h
    ∙ ap (λ (x : Template). fault_or (check_answer x.id (template_fault texts cs x)) (try_validate_answer texts cs (drop (i + 1) ts))) (sym e)

-- A template with a fault ends the search.
pub fault_at : {C : Type 0} (texts : List (List ℕ)) (cs : List (Clause C)) (ts : List Template) (i : ℕ) (t : Template) (invalid : Invalid) → i < length ts
    → t ≡ get_or ts i t → Err invalid ≡ check_answer t.id (template_fault texts cs t)
    → Err (InvalidTemplate invalid) ≡ try_validate_answer texts cs (drop i ts)
fault_at texts cs ts i t invalid h e f =
    ap (λ (r : Result (Unit {0}) Invalid). fault_or r (try_validate_answer texts cs (drop (i + 1) ts))) f ∙ sym (from_place texts cs ts i t h e)

-- One without is passed over.
pub fault_past : {C : Type 0} (texts : List (List ℕ)) (cs : List (Clause C)) (ts : List Template) (i : ℕ) (t : Template) → i < length ts
    → t ≡ get_or ts i t → Ok tt ≡ check_answer t.id (template_fault texts cs t)
    → try_validate_answer texts cs (drop (i + 1) ts) ≡ try_validate_answer texts cs (drop i ts)
fault_past texts cs ts i t h e f =
    ap (λ (r : Result (Unit {0}) Invalid). fault_or r (try_validate_answer texts cs (drop (i + 1) ts))) f ∙ sym (from_place texts cs ts i t h e)
