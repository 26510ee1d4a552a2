use Rattle.std.proofs.Common.{ℕ, true, length, sym, refl, ap, ◌∙◌, arith}
use Rattle.std.proofs.lemmas.Fn.{says_at}
use Rattle.arrayvec.specs.ArrayVec.{ArrayVec}
use Rattle.policy_set.specs.Merge.{noted}
use Rattle.policy_set.proofs.RowCounts.{noted-length}
use Rattle.policy_set.proofs.Turns.{gather_turn}
use Rattle.policy_set.proofs.merge.gather.gather_ids.Goals as goal
use Rattle.policy_set.proofs.merge.gather.gather_ids.Goals.{then-test, else-test}

pub loop-row-preserved : goal.loop-row-preserved
loop-row-preserved g c =
    let ids = c.loop-row.ids.items in
    let x = c.row-item.result in (
      elim c.if-test.branch [
        | then-test w ↦ omega (arith, ap (λ (v : ArrayVec ℕ). length v.items) w.ids-is, ap length w.note_id.ensures, (noted-length true w.key.result ids).1, c.loop-row.invariant.0)
        | else-test w ↦ omega (arith, ap (λ (v : ArrayVec ℕ). length v.items) w.ids-is, c.loop-row.invariant.0)
      ],
      λ asks law. gather_turn g.R.Keyed.naming asks ids c.if-test.ids.items c.args.rows.now c.loop-row.row-index x c.loop-row-test.true c.row-item.is
          (let told = law x c.test.result (says_at g.F.Fn c.test.ensures refl) in elim c.if-test.branch [
            | then-test w ↦ ap (λ (v : ArrayVec ℕ). v.items) w.ids-is
                ∙ (w.note_id.ensures ∙ (ap (λ b. noted b w.key.result ids) (sym w.if-test.true ∙ told) ∙ ap (λ k. noted (asks x) k ids) w.key.ensures))
            | else-test w ↦ ap (λ (v : ArrayVec ℕ). v.items) w.ids-is ∙ ap (λ b. noted b (g.R.Keyed.naming x) ids) (sym w.if-test.false ∙ told)
          ])
          ∙ c.loop-row.invariant.1 asks law,
    )
