use Rattle.std.proofs.Common.{◌≡◌, ◌+◌, length, vec_items, vec_len, refl, ap, ◌∙◌, arith, length-append}
use Rattle.std.proofs.lemmas.Slice.{pushed}
use Rattle.names.proofs.Keeping.{roomy}
use Rattle.names.proofs.Pieces.{put_behind}
use Rattle.names.proofs.keeper.Pieces.push.Goals as goal

pub unwrap-requires : goal.unwrap-requires
unwrap-requires g c =
    let p = c.args.self.now in
    c.extend_from_slice.ensures.succeeds (omega (arith, (roomy p 1 (length c.args.piece.now) c.requires).1, p.room_reserved))

pub push_reserved-requires : goal.push_reserved-requires
push_reserved-requires g c =
    let p = c.args.self.now in
    omega (arith, (roomy p 1 (length c.args.piece.now) c.requires).0, p.places_reserved)

pub invariant_of-self : goal.invariant_of-self
invariant_of-self g c =
    let p = c.args.self.now in
    let q = c.push_reserved.ensures in
    let b = pushed c.args.piece.now refl c.unwrap.ensures c.extend_from_slice.ensures.items in
    let w = roomy p 1 (length c.args.piece.now) c.requires in
    let n : vec_len c.extend_from_slice.new.self ≡ vec_len c.args.self.now.items + length c.args.piece.now =
    omega (arith, simp length-append at (ap length b), c.extend_from_slice.new.self.ok.0, c.args.self.now.items.ok.0) in
    let r = put_behind (vec_items p.ends) (vec_items c.push_reserved.new.self) (vec_items p.items) (vec_items c.extend_from_slice.new.self) c.args.piece.now c.len-end.result
    p.rising q.items b (c.len-end.ensures ∙ c.extend_from_slice.new.self.ok.0) in
    record {
      rising = r.0;
      few = omega (arith, w.0, q.len);
      short = omega (arith, w.1, n);
      places_reserved = omega (arith, p.places_reserved, q.capacity);
      room_reserved = omega (arith, p.room_reserved, c.extend_from_slice.ensures.capacity);
    }

pub returns : goal.returns
returns g c =
    let p = c.args.self.now in
    let q = c.push_reserved.ensures in
    let b = pushed c.args.piece.now refl c.unwrap.ensures c.extend_from_slice.ensures.items in
    let r = put_behind (vec_items p.ends) (vec_items c.push_reserved.new.self) (vec_items p.items) (vec_items c.extend_from_slice.new.self) c.args.piece.now c.len-end.result
    p.rising q.items b (c.len-end.ensures ∙ c.extend_from_slice.new.self.ok.0) in
    record { kept = r.1; limits = refl }
