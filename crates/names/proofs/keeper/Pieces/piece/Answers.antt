use Rattle.std.proofs.Common.{◌≡◌, ℕ, ◌<◌, ◌≤◌, true, List, length, get_or, vec_items, ap, arith}
use borrow.Author.Rules.{get_or_read}
use Rattle.names.specs.Pieces.{start_of, rising}
use Rattle.names.proofs.Keeping.{kept_count}
use Rattle.names.proofs.Pieces.{piece_within, piece_at}
use Rattle.names.proofs.keeper.Pieces.piece.Goals as goal

-- The end and the start as they were read lie in order within the whole.
range : (ends : List ℕ) (total n end start : ℕ) → rising 0 ends total ≡ true → n < length ends → end ≡ get_or ends n end
    → start ≡ start_of 0 ends n → (start ≤ end) × (end ≤ total)
range ends total n end start r lt e s =
    let w = piece_within 0 ends total n r lt in
    let g = get_or_read ends n end lt e 0 in
    (omega (arith, w.0), omega (arith, w.1))

pub index-end-requires : goal.index-end-requires
index-end-requires g c = omega (arith, c.requires, kept_count c.args.self.now)

pub start-start-requires : goal.start-start-requires
start-start-requires g c = omega (arith, c.requires, kept_count c.args.self.now)

pub slice_bounds-result-count : goal.slice_bounds-result-count
slice_bounds-result-count g c =
    let lt : c.args.n < length (vec_items c.args.self.now.ends) = omega (arith, c.requires, kept_count c.args.self.now, c.args.self.now.ends.ok.0) in
    (range _ _ _ _ _ c.args.self.now.rising lt c.index-end.ensures c.start-start.ensures).0

pub slice_bounds-result-start : goal.slice_bounds-result-start
slice_bounds-result-start g c =
    let lt : c.args.n < length (vec_items c.args.self.now.ends) = omega (arith, c.requires, kept_count c.args.self.now, c.args.self.now.ends.ok.0) in
    (range _ _ _ _ _ c.args.self.now.rising lt c.index-end.ensures c.start-start.ensures).0

pub offset_bounds-as_slice-start : goal.offset_bounds-as_slice-start
offset_bounds-as_slice-start g c =
    let lt : c.args.n < length (vec_items c.args.self.now.ends) = omega (arith, c.requires, kept_count c.args.self.now, c.args.self.now.ends.ok.0) in
    let r = range _ _ _ _ _ c.args.self.now.rising lt c.index-end.ensures c.start-start.ensures in
    omega (arith, r.0, r.1, ap length c.as_slice.ensures.value)

pub slice_bounds-result-end : goal.slice_bounds-result-end
slice_bounds-result-end g c =
    let lt : c.args.n < length (vec_items c.args.self.now.ends) = omega (arith, c.requires, kept_count c.args.self.now, c.args.self.now.ends.ok.0) in
    let r = range _ _ _ _ _ c.args.self.now.rising lt c.index-end.ensures c.start-start.ensures in
    omega (arith, r.1, ap length c.as_slice.ensures.value)

pub returns : goal.returns
returns g c =
    let lt : c.args.n < length (vec_items c.args.self.now.ends) = omega (arith, c.requires, kept_count c.args.self.now, c.args.self.now.ends.ok.0) in
    let e = get_or_read (vec_items c.args.self.now.ends) c.args.n c.index-end.result.now lt c.index-end.ensures 0 in
    let k = piece_at 0 (vec_items c.args.self.now.ends) (vec_items c.args.self.now.items) c.args.n lt in
    let s = c.start-start.ensures in
    let v = c.as_slice.ensures.value in
    cc
