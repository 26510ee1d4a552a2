use Rattle.std.proofs.Common.{◌≡◌, [], get_or, Some, sym, ap, arith}
use Rattle.names.specs.Book.{texts}
use Rattle.names.specs.Index.{past}
use Rattle.names.proofs.Names.{number_none, same_piece}
use Rattle.names.proofs.Indexes.{number_distinct}
use Rattle.names.proofs.kept.NameBook.find.Goals as goal

pub returns-then-eq : goal.returns-then-eq
returns-then-eq c =
    let p : past c.loop-next.next ≡ past (Some c.in-Some.n) = ap past c.in-Some.is in
    sym (number_distinct c.args.text.now (texts c.args.self.now) c.in-Some.n c.args.self.now.distinct (omega (arith, p, c.loop-next.invariant.0))
    (same_piece c.piece.result.now c.args.text.now (get_or (texts c.args.self.now) c.in-Some.n []) c.if-eq.ensures c.piece.ensures))

pub returns : goal.returns
returns c =
    sym (number_none c.args.text.now (texts c.args.self.now) (λ k l. c.loop-next.invariant.2 k (let p : past c.loop-next.next ≡ 0 = ap past c.in_default.is in omega (arith, p)) l))
