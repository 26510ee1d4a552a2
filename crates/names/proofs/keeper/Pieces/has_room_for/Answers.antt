use borrow.Author.Tests.{lt-leb}
use Rattle.names.proofs.Keeping.{no_places, by_items}
use Rattle.names.proofs.keeper.Pieces.has_room_for.Goals as goal
use Rattle.std.proofs.Common.{ℕ, ◌-◌, leb, ap, ◌∙◌, arith}

pub returns-then-pieces-self : goal.returns-then-pieces-self
returns-then-pieces-self g c =
    ap (λ (n : ℕ). leb c.args.items (c.args.self.now.room - n)) c.len-then-pieces-self.ensures
    ∙ by_items c.args.self.now c.args.pieces c.args.items (omega (arith, c.len.ensures))

pub returns-else-pieces-self : goal.returns-else-pieces-self
returns-else-pieces-self g c =
    lt-leb c.args.pieces (c.args.self.now.places - c.len.result) (omega arith)
    ∙ no_places c.args.self.now c.args.pieces c.args.items (omega (arith, c.len.ensures))
