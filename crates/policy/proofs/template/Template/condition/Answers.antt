use Rattle.std.proofs.Common.{ℕ, List, length, Result, sym, refl, ap, ◌∙◌, rules}
use Rattle.refusals.specs.declared.refusal.Refusal.{Refusal}
use Rattle.clauses.specs.Book.{Clause}
use Rattle.clauses.specs.Tree.{written, One}
use Rattle.clauses.proofs.Rows.{one_tree as reads_once}
use Rattle.policy.specs.declared.node.ConditionNode.{ConditionNode}
use Rattle.policy.specs.declared.template.Template.{Template}
use Rattle.policy.specs.Known.{template_known}
use Rattle.policy.specs.Answer.{fitted, buffer_after}
use Rattle.policy.specs.Condition.{arity, condition_tree}
use Rattle.policy.proofs.Testing.{broke, stops, passes}
use Rattle.policy.proofs.Propers.{good_condition}
use Rattle.policy.proofs.Worded.{means}
use Rattle.policy.proofs.Reached.{in_decided}
use Rattle.policy.proofs.template.Template.condition.Goals as goal

one_tree : {C : Type 0} (cs : List (Clause C)) (t : Template) → One arity (written (condition_tree cs t))
one_tree cs t = record { tree = condition_tree cs t; proper = good_condition cs t; spelled = refl }

pub returns-in_err-known_template : goal.returns-in_err-known_template
returns-in_err-known_template g c =
    let t = c.args.self.now in
    let cs = g.B.ClauseBook.listed c.args.clauses.now in
    let e = broke c.from_residual.result c.from_residual.ensures.1 in
    record {
      answer = e ∙ stops _ (c.in_err-known_template.ensures ∙ ap (λ (n : ℕ). template_known n cs t) c.count.ensures.count);
      buffer = ap (λ (r : Result ℕ Refusal). buffer_after (written (condition_tree cs t)) c.args.buffer.now r) (sym e);
      few = search rules;
      one_tree = one_tree cs t;
      one_reading = reads_once arity (written (condition_tree cs t));
      means = means cs t;
      hierarchy = in_decided;
    }

pub returns : goal.returns
returns g c =
    let t = c.args.self.now in
    let cs = g.B.ClauseBook.listed c.args.clauses.now in
    let same = c.as_slice.ensures.value ∙ c.written_condition-nodes.ensures in
    record {
      answer =
          c.copy_out.ensures.answer
          ∙ ap (λ (ns : List ConditionNode). fitted ns (length c.args.buffer.now)) same
          ∙ passes _ (c.in_ok-known_template.ensures ∙ ap (λ (n : ℕ). template_known n cs t) c.count.ensures.count);
      buffer = c.copy_out.ensures.buffer ∙ ap (λ (ns : List ConditionNode). buffer_after ns c.args.buffer.now c.copy_out.result) same;
      few = search rules;
      one_tree = one_tree cs t;
      one_reading = reads_once arity (written (condition_tree cs t));
      means = means cs t;
      hierarchy = in_decided;
    }
