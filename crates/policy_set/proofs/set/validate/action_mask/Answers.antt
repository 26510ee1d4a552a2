use Rattle.std.proofs.Common.{sym, ◌∙◌, arith}
use Rattle.std.proofs.lemmas.List.{at_drop_all}
use Rattle.names.specs.Book.{texts}
use Rattle.policy_set.specs.Validation.{mask_from}
use Rattle.policy_set.proofs.Validates.{masked_typed, masked_other}
use Rattle.policy_set.proofs.set.validate.action_mask.Goals as goal
use Rattle.policy_set.proofs.set.validate.action_mask.Goals.{then-not-is_action_typed, else-not-is_action_typed}

pub loop-k-preserved : goal.loop-k-preserved
loop-k-preserved c = elim c.if-not-is_action_typed.branch [
  | then-not-is_action_typed w ↦
      masked_other (texts c.args.names.now) c.args.actions.now c.loop-k.k c.loop-k.mask c.if-not-is_action_typed.mask (record { ty = 0; eid = 0 })
      c.loop-k-test.true c.requires (sym c.is_action_typed.ensures ∙ w.if-not-is_action_typed.true) w.mask-is c.loop-k.invariant
  | else-not-is_action_typed w ↦
      masked_typed (texts c.args.names.now) c.args.actions.now c.loop-k.k c.loop-k.mask c.if-not-is_action_typed.mask (record { ty = 0; eid = 0 })
      c.loop-k-test.true (sym c.is_action_typed.ensures ∙ w.if-not-is_action_typed.false) w.mask-is c.loop-k.invariant
]

pub returns : goal.returns
returns c =
    let e = at_drop_all (mask_from (texts c.args.names.now) c.loop-k.k) c.args.actions.now c.loop-k.k c.loop-k-test.false in
    omega (arith, e, c.loop-k.invariant.1)
