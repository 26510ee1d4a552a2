use Rattle.policy.proofs.Filled.{fills_policy}
use Rattle.policy.proofs.bound.Policy.with_filled_slots.Goals as goal

pub returns-in_err-known_policy-clause-laws : goal.returns-in_err-known_policy-clause-laws
returns-in_err-known_policy-clause-laws g c =
    fills_policy (g.B.ClauseBook.listed c.args.clauses.now) (g.met.B.ClauseBook.lawful c.args.clauses.now) c.args.self.now

pub returns-clause-laws : goal.returns-clause-laws
returns-clause-laws g c =
    fills_policy (g.B.ClauseBook.listed c.args.clauses.now) (g.met.B.ClauseBook.lawful c.args.clauses.now) c.args.self.now
