use Rattle.std.proofs.Common.{◌≡◌, Ok, Err, Result, vec_items, string_bytes, subst, rules}
use Rattle.std.specs.declared.alloc.Global.{Global}
use Rattle.names.specs.Book.{texts, limits}
use Rattle.names.specs.Names.{with_entered}
use Rattle.clauses.specs.TreeBooks.{trees}
use Rattle.clauses.specs.TreeEntering.{tree_answer}
use Rattle.console.specs.Answered.{AnswersAs}
use Rattle.console.specs.ClauseLines.{TreeLine, clause_answer}
use Rattle.console.specs.Args.{left}
use Rattle.console.specs.declared.stop.Wrong.{Wrong}
use Rattle.console.proofs.Errors.{same_error}
use Rattle.console.proofs.TreeEntered.{entered}
use Rattle.console.proofs.clause_calls.Clauses.tree.Goals as goal

pub returns-in_err-nodes-clause-line : goal.returns-in_err-nodes-clause-line
returns-in_err-nodes-clause-line c =
    let e : c.from_residual-in_err-nodes.result ≡ Err c.in_err-nodes.field-0.0 = search rules in
    let stay : trees c.settle.new.self.trees ≡ trees c.args.self.now.trees = search rules in
    let read = same_error (vec_items {Z = Global}) (λ ns. ns) c.in_err-nodes.field-0.0 (texts c.nodes.new.self.book) _ c.in_err-nodes.ensures.nodes in
    subst (λ (s : Result (Unit {0}) Wrong). TreeLine s (limits c.args.reader.now.book) (texts c.args.reader.now.book) (trees c.args.self.now.trees) (left c.args.args.now)
    c.from_residual-in_err-nodes.result (texts c.nodes.new.self.book) (trees c.settle.new.self.trees)) c.in_ok-settle.ensures.answer
    (Err c.in_err-nodes.field-0.0, read, (e, stay))

pub returns-in_err-number-clause-line : goal.returns-in_err-number-clause-line
returns-in_err-number-clause-line c =
    let us = texts c.nodes.new.self.book in
    let before = trees c.args.self.now.trees in
    let ns = vec_items c.in_ok-nodes.nodes in
    let answer : c.enter.result ≡ tree_answer us before ns = search rules in
    let left_so : trees c.enter.new.self ≡ with_entered c.enter.result before ns = search rules in
    let shown : AnswersAs string_bytes c.from_residual-in_err-number.result (clause_answer c.enter.result) = search rules in
    subst (λ (s : Result (Unit {0}) Wrong). TreeLine s (limits c.args.reader.now.book) (texts c.args.reader.now.book) before (left c.args.args.now)
    c.from_residual-in_err-number.result us (trees c.enter.new.self)) c.in_ok-settle.ensures.answer
    (Ok ns, c.in_ok-nodes.ensures.nodes, entered us before (trees c.enter.new.self) ns c.enter.result c.from_residual-in_err-number.result answer left_so shown)

pub returns-in_err-format-clause-line : goal.returns-in_err-format-clause-line
returns-in_err-format-clause-line c =
    let us = texts c.nodes.new.self.book in
    let before = trees c.args.self.now.trees in
    let ns = vec_items c.in_ok-nodes.nodes in
    let answer : c.enter.result ≡ tree_answer us before ns = search rules in
    let left_so : trees c.enter.new.self ≡ with_entered c.enter.result before ns = search rules in
    let shown : AnswersAs string_bytes c.from_residual-in_err-format.result (clause_answer c.enter.result) = search rules in
    subst (λ (s : Result (Unit {0}) Wrong). TreeLine s (limits c.args.reader.now.book) (texts c.args.reader.now.book) before (left c.args.args.now)
    c.from_residual-in_err-format.result us (trees c.enter.new.self)) c.in_ok-settle.ensures.answer
    (Ok ns, c.in_ok-nodes.ensures.nodes, entered us before (trees c.enter.new.self) ns c.enter.result c.from_residual-in_err-format.result answer left_so shown)

pub returns-clause-line : goal.returns-clause-line
returns-clause-line c =
    let us = texts c.nodes.new.self.book in
    let before = trees c.args.self.now.trees in
    let ns = vec_items c.in_ok-nodes.nodes in
    let answer : c.enter.result ≡ tree_answer us before ns = search rules in
    let left_so : trees c.enter.new.self ≡ with_entered c.enter.result before ns = search rules in
    let shown : AnswersAs string_bytes (Ok c.in_ok-format.field-0) (clause_answer c.enter.result) = search rules in
    subst (λ (s : Result (Unit {0}) Wrong). TreeLine s (limits c.args.reader.now.book) (texts c.args.reader.now.book) before (left c.args.args.now)
    (Ok c.in_ok-format.field-0) us (trees c.enter.new.self)) c.in_ok-settle.ensures.answer
    (Ok ns, c.in_ok-nodes.ensures.nodes, entered us before (trees c.enter.new.self) ns c.enter.result (Ok c.in_ok-format.field-0) answer left_so shown)
