use Rattle.std.proofs.Common.{◌<◌, length, rules}
use Rattle.clauses.proofs.Scanning.{again, over}
use Rattle.clauses.proofs.Spelling.{slots_told}
use Rattle.clauses.proofs.sealed.text.slots_of_text.Goals as goal

pub loop-rest-preserved : goal.loop-rest-preserved
loop-rest-preserved c =
    let some : 0 < length c.loop-rest.rest.now = search rules in
    again c.loop-rest.slots.bits c.slots_seen.result.bits c.union-slots.result.bits c.loop-rest.scanner c.step.new.self c.loop-rest.rest.now c.args.text.now
    c.loop-rest.slots.two_bits some c.loop-rest.invariant c.slots_seen.ensures c.union-slots.ensures.bits c.step.ensures

pub returns : goal.returns
returns c =
    let none : length c.loop-rest.rest.now < 1 = search rules in
    let e = over c.loop-rest.slots.bits c.loop-rest.scanner c.loop-rest.rest.now c.args.text.now none c.loop-rest.invariant in
    record { slots = e; told = slots_told c.loop-rest.slots.bits c.args.text.now e }
