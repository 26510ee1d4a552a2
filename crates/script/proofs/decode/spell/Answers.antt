use Rattle.std.proofs.Common.{ℕ, List, vec_items, sym, ap, ◌∙◌}
use Rattle.script.specs.Percent.{spelled}
use Rattle.script.proofs.Spelling.{behind, behind_put}
use Rattle.script.proofs.decode.spell.Goals as goal

pub loop-byte-preserved : goal.loop-byte-preserved
loop-byte-preserved c =
    ap (λ (front : List ℕ). behind front (spelled c.in-Some.tail.now)) c.in_ok-push.ensures.items
    ∙ sym (behind_put (vec_items c.loop-byte.text) c.in-Some.byte (spelled c.in-Some.tail.now))
    ∙ ap (behind (vec_items c.loop-byte.text)) (sym c.in-Some.ensures.0)
    ∙ c.loop-byte.invariant
