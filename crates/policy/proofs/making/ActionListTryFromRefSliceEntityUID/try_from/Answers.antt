use Rattle.std.proofs.Common.{◌≡◌, ◌-◌, ◌≤◌, true, List, [], ◌∷◌, length, take, drop, Ok, refl, ap, ◌∙◌, arith, rules}
use borrow.Rule.Slice.PartMut.{put_mid}
use Rattle.std.proofs.lemmas.List.{places}
use Rattle.std.proofs.lemmas.Slice.{take-put_mid, drop-put_mid}
use Rattle.std.proofs.lemmas.Bool.{cond_above}
use Rattle.names.specs.declared.entity.EntityUID.{EntityUID}
use Rattle.policy.specs.Padding.{blank}
use Rattle.policy.proofs.Records.{blank-drop}
use Rattle.policy.proofs.making.ActionListTryFromRefSliceEntityUID.try_from.Goals as goal

abbrev no_entity : EntityUID
no_entity = record { ty = 0; eid = 0 }

abbrev blanks : List EntityUID
blanks = no_entity ∷ no_entity ∷ no_entity ∷ no_entity ∷ no_entity ∷ no_entity ∷ no_entity ∷ no_entity ∷ []

-- Some entities, then blanks.
module _ (es ys : List EntityUID) (e : ys ≡ es) (few : length es ≤ 8) where
  taken : take (length es) (put_mid 0 (length es - 0) blanks ys) ≡ es
  taken = take-put_mid 0 (length es - 0) blanks ys (length es) (omega (arith, ap length e)) (omega arith) ∙ e

  padded : blank (drop (length es) (put_mid 0 (length es - 0) blanks ys)) ≡ true
  padded =
      ap blank (drop-put_mid 0 (length es - 0) blanks ys (length es) (omega arith) (omega arith) (omega (arith, ap length e)))
      ∙ blank-drop (length es) blanks refl

pub invariant_of-result : goal.invariant_of-result
invariant_of-result c =
    record {
      whole = search (rules, places);
      few = omega arith;
      padded = padded c.args.entities.now c.copy_from_slice.new.self c.copy_from_slice.ensures.after (omega arith);
    }

pub returns : goal.returns
returns c =
    ap Ok (taken c.args.entities.now c.copy_from_slice.new.self c.copy_from_slice.ensures.after (omega arith))
    ∙ cond_above 8 (length c.args.entities.now) _ _ _ (omega arith) refl
