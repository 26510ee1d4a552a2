use Rattle.std.proofs.Common.{◌≡◌, ◌-◌, min, length, take, drop, List, Result, ap, ◌∙◌, arith}
use Rattle.clauses.specs.Book.{same_clause}
use Rattle.names.specs.Book.{texts, limits}
use Rattle.refusals.specs.declared.refusal.Refusal.{Refusal}
use Rattle.policy_set.specs.declared.rows.Renaming.{Renaming}
use Rattle.policy_set.specs.MergeCall.{merge_outcome, merge_after, merge_texts}
use Rattle.policy_set.specs.Meaning.{maps_of}
use Rattle.calls.proofs.Merging.{pairs_first, pairs_within, places_lent, with_room}
use Rattle.calls.proofs.sets.merging.merge_rows.Goals as goal

pub returns : goal.returns
returns g c =
    let live = c.args.live.now in
    let inc = c.args.incoming.now in
    let same = same_clause g.B.ClauseBook.equal (g.B.ClauseBook.listed c.args.clauses.now) in
    let ts = texts c.args.names.now in
    let ls = limits c.args.names.now in
    let rows = c.args.rows.now in
    let places = c.min-places.result in
    let lent = take (places - 0) (drop 0 rows) in
    let m : places ≡ min c.args.room 320 = c.min-places.ensures in
    let l : length lent ≡ places = places_lent places rows (omega (arith, m, c.requires)) in
    let out = merge_outcome ls ts same (maps_of live) (maps_of inc) c.args.rename (length lent) in
    let e = with_room ls ts same live inc c.args.rename c.args.room (length lent) (l ∙ m) in
    record {
      answer = pairs_first out c.merge_policyset.result lent c.merge_policyset.new.pairs _ c.merge_policyset.ensures.answer c.merge_policyset.ensures.buffer ∙ e;
      count = pairs_within out c.merge_policyset.result lent c.merge_policyset.new.pairs 320 c.merge_policyset.ensures.answer c.merge_policyset.ensures.buffer
          (omega (arith, c.merge_policyset.auto.pairs, l, m));
      after = c.merge_policyset.ensures.after ∙ ap (λ (o : Result (List Renaming) Refusal). merge_after o (maps_of live) (maps_of inc)) e;
      texts = c.merge_policyset.ensures.texts ∙ ap (λ (o : Result (List Renaming) Refusal). merge_texts o ts same (maps_of live) (maps_of inc)) e;
      limits = c.merge_policyset.ensures.limits;
    }
