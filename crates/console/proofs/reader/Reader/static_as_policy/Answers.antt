use Rattle.std.proofs.Common.{length, Ok, sym}
use Rattle.names.specs.Book.{texts}
use Rattle.policy.specs.Arity.{Parts, parts}
use Rattle.policy.specs.Known.{template_known}
use Rattle.policy.specs.declared.template.Template.{Template}
use Rattle.policy_set.specs.Answers.{static_parts}
use Rattle.console.proofs.Answers.{carried}
use Rattle.console.proofs.reader.Reader.static_as_policy.Goals as goal

pub returns-clause-policy : goal.returns-clause-policy
returns-clause-policy g c =
    let us = texts c.static_policy.new.self.book in
    let body = c.in_ok-policy.policy.body in
    let answered = carried (template_known (length us) (g.B.ClauseBook.listed c.args.clauses.now) body) (Ok (c.in_ok-policy-2.field-0-0, parts c.in_ok-policy-2.policy)) (body, static_parts body)
    (λ (x : Template × Parts). Ok x.1) c.in_ok-policy-2.ensures in
    (Ok c.in_ok-policy.policy, c.in_ok-policy.ensures.policy, sym answered)
