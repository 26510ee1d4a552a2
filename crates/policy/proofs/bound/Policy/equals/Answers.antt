use Rattle.policy.proofs.Deciding.{policies_decided}
use Rattle.policy.proofs.bound.Policy.equals.Goals as goal

pub returns-clause-words : goal.returns-clause-words
returns-clause-words g c =
    policies_decided g.B.ClauseBook.equal (g.B.ClauseBook.listed c.args.clauses.now) g.met.B.ClauseBook.decides
    c.args.self.now c.args.other.now c.policies_equal.result c.policies_equal.ensures
