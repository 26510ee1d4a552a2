use Rattle.std.proofs.Common.{◌≡◌, ◌+◌, ◌-◌, ◌++◌, Some, None, vec_items, sym, subst, arith}
use Rattle.console.specs.Places.{at_places, all_places}
use Rattle.console.proofs.AtPlaces.{one_place, last_place, no_place}
use Rattle.console.proofs.set_reads.places.Goals.{else-loop-place-test, then-loop-place-test+in_default}
use Rattle.console.proofs.set_reads.places.Goals as goal

pub loop-place-preserved : goal.loop-place-preserved
loop-place-preserved g c =
    λ f law.
    let place = c.loop-place.place in
    subst (λ xs. at_places f 0 256 ≡ xs ++ at_places f (place + 1) (256 - (place + 1))) (sym c.in_ok-push.ensures.items)
    (one_place f (at_places f 0 256) (vec_items c.loop-place.list) place (256 - place) (256 - (place + 1)) c.in-Some.item (c.loop-place.invariant f law) (omega arith)
    (law place (Some c.in-Some.item) c.in-Some.ensures))

pub returns : goal.returns
unfolding all_places
returns g c =
    λ f law.
    elim c.loop-place-test.branch [
      | else-loop-place-test w ↦ no_place f (at_places f 0 256) (vec_items c.loop-place.list) c.loop-place.place (256 - c.loop-place.place) (c.loop-place.invariant f law) (omega arith)
      | then-loop-place-test+in_default w ↦ last_place f (at_places f 0 256) (vec_items c.loop-place.list) c.loop-place.place (256 - c.loop-place.place) (256 - (c.loop-place.place + 1))
          (c.loop-place.invariant f law) (omega arith) (law c.loop-place.place None w.in_default.ensures)
    ]
