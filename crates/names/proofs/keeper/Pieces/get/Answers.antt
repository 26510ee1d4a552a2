use Rattle.std.proofs.Common.{[], Some, sym, ap, ◌∙◌, arith}
use Rattle.std.proofs.lemmas.Option.{slice_get-get_or, slice_get_past}
use Rattle.names.specs.Kept.{kept}
use Rattle.names.proofs.Keeping.{kept_count}
use Rattle.names.proofs.keeper.Pieces.get.Goals as goal

pub piece-requires : goal.piece-requires
piece-requires g c = omega (arith, c.len.ensures, kept_count c.args.self.now)

pub returns-then-n-len : goal.returns-then-n-len
returns-then-n-len g c =
    ap Some c.piece.ensures
    ∙ sym (slice_get-get_or (kept c.args.self.now) c.args.n [] (omega (arith, c.len.ensures, kept_count c.args.self.now)))

pub returns-else-n-len : goal.returns-else-n-len
returns-else-n-len g c = sym (slice_get_past (kept c.args.self.now) c.args.n (omega (arith, c.len.ensures, kept_count c.args.self.now)))
