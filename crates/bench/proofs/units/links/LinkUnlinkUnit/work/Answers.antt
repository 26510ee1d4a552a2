use Rattle.std.proofs.Common.{length, ap, Some}
use Rattle.names.specs.Book.{texts}
use Rattle.policy.specs.Arity.{parts}
use Rattle.policy_set.specs.Meaning.{maps_of}
use Rattle.policy_set.proofs.Sets.{sound}
use Rattle.bench.proofs.Unlinking.{back, same}
use Rattle.bench.proofs.units.links.LinkUnlinkUnit.work.Goals as goal

pub returns-clause-back : goal.returns-clause-back
returns-clause-back c =
    let set = c.args.self.now.set in
    let link = c.next-link.result in
    back (length (texts c.args.self.now.books.names)) (maps_of set) (maps_of c.link.new.self) (maps_of c.unlink.new.self) (sound set) link.template link.id link.values
    (parts c.in_ok-link.field-0) (parts c.in_ok-unlink.field-0) c.in_ok-link.ensures.answer c.in_ok-link.ensures.after c.in_ok-unlink.ensures.answer c.in_ok-unlink.ensures.after

pub returns-clause-same : goal.returns-clause-same
returns-clause-same c =
    let set = c.args.self.now.set in
    let link = c.next-link.result in
    ap Some (same (length (texts c.args.self.now.books.names)) (maps_of set) (maps_of c.link.new.self) (maps_of c.unlink.new.self) (sound set) link.template link.id link.values
    (parts c.in_ok-link.field-0) (parts c.in_ok-unlink.field-0) c.in_ok-link.ensures.answer c.in_ok-link.ensures.after c.in_ok-unlink.ensures.answer c.in_ok-unlink.ensures.after)
