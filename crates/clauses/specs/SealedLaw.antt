-- The laws of sealed texts.
-- These are lemmas, and no reader has to believe them: they stand in specs/ since the impl of `Content` for `u8` names them.
use Rattle.std.specs.Prelude.{◌≡◌, ℕ, ◌<◌, Bool, true, false, cond, List, Some, None, codes, refl}
use Rattle.std.proofs.Common.{sym, ap, arith}
use Rattle.std.specs.Str.{bytes_eq}
use Rattle.std.proofs.lemmas.Slice.Eq.{bytes_eq-Decides}
use Rattle.refusals.specs.declared.slots.SlotId.TheVariants.{Principal, Resource}
use Rattle.clauses.specs.declared.sealed.scanner.Scanner.TheVariants.{Plain}
use Rattle.clauses.specs.Book.{DecidesEquality, Lawful, listing}
use Rattle.clauses.specs.Sealed.{scanned, text_slots, text_constant, text_clause}
use Rattle.clauses.specs.Listing.{lawful_by}
use Rattle.clauses.specs.SlotSets.{set_small}

-- Comparing byte by byte says yes exactly of equal texts.
pub texts_decide : DecidesEquality bytes_eq
texts_decide = record { only = λ s t. (bytes_eq-Decides s t).0; whenever = λ s t. (bytes_eq-Decides s t).1 }

-- What holds of `true` and of `false` holds of a text that is a constant.
either_text : (a b v : Bool) (n : ℕ) → (a ≡ true → n ≡ 0) → (b ≡ true → n ≡ 0)
    → cond a (Some true) (cond b (Some false) None) ≡ Some v → n ≡ 0
either_text true b v n f g h = f refl
either_text false true v n f g h = g refl
either_text false false v n f g h = let z : ◌≡◌ {A = ℕ} 0 1 = cc in absurd (omega arith)

-- Neither `true` nor `false` has a slot.
pub texts_slotless : (t : List ℕ) (v : Bool) → text_constant t ≡ Some v → text_slots t ≡ 0
texts_slotless t v h =
    either_text (bytes_eq (codes "true") t) (bytes_eq (codes "false") t) v (text_slots t)
    (λ e. ap text_slots (sym (texts_decide.only (codes "true") t e)))
    (λ e. ap text_slots (sym (texts_decide.only (codes "false") t e)))
    h

-- The slots of a text are two bits.
pub texts_small : (t : List ℕ) → text_slots t < 4
texts_small t = set_small (scanned Principal Plain t) (scanned Resource Plain t)

-- A book of any sealed texts shows the law of clause books.
pub lawful_texts : (ts : List (List ℕ)) → Lawful (listing text_clause ts)
lawful_texts ts = lawful_by text_clause (λ t. refl) texts_small texts_slotless ts
