use Rattle.names.specs.Book.{limits}
use Rattle.policy_set.proofs.Sets.{sound}
use Rattle.calls.specs.Model.{told}
use Rattle.calls.specs.Meaning.{state_of}
use Rattle.calls.proofs.OneStep.{one_call}
use Rattle.calls.proofs.sets.Sets.make.Goals as goal

pub returns-clause-law : goal.returns-clause-law
returns-clause-law g c =
    one_call (limits c.args.names.now) g.B.ClauseBook.equal (g.B.ClauseBook.listed c.args.clauses.now) (g.met.B.ClauseBook.lawful c.args.clauses.now) g.met.B.ClauseBook.decides
    (state_of c.args.self.now c.args.names.now) (state_of c.made.new.self c.made.new.names) c.args.call (told c.made.result) c.made.ensures.answer c.made.ensures.after
    record { a = sound c.made.new.self.a; b = sound c.made.new.self.b }
