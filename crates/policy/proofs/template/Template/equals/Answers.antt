use Rattle.policy.proofs.Deciding.{templates_decided}
use Rattle.policy.proofs.template.Template.equals.Goals as goal

pub returns-clause-words : goal.returns-clause-words
returns-clause-words g c =
    templates_decided g.B.ClauseBook.equal (g.B.ClauseBook.listed c.args.clauses.now) g.met.B.ClauseBook.decides
    c.args.self.now c.args.other.now c.templates_equal.result c.templates_equal.ensures
