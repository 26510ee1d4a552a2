use Rattle.std.proofs.Common.{rules}
use Rattle.names.specs.Book.{texts}
use Rattle.printing.specs.Answers.{policies_line}
use Rattle.console.specs.Places.{all_places}
use Rattle.console.specs.Reader.{given}
use Rattle.console.specs.Args.{left}
use Rattle.console.proofs.Ended.{wrong_end}
use Rattle.console.proofs.reader.Reader.policies.Goals as goal

pub returns-in_err-end : goal.returns-in_err-end
returns-in_err-end g c =
    λ f law.
    let us = texts c.args.self.now.book in
    wrong_end (left c.args.args.now) us (given (policies_line us (all_places f)) us) c.from_residual.result c.in_err-end.field-0.0 c.in_err-end.ensures (search rules)

pub returns-in_err-policies_line : goal.returns-in_err-policies_line
returns-in_err-policies_line g c = λ f law. search rules
