use Rattle.std.proofs.Common.{[], ◌∷◌, length, Ok, string_bytes, subst, rules}
use Rattle.names.specs.Book.{texts}
use Rattle.policy.specs.Arity.{parts}
use Rattle.policy.specs.Known.{names_known}
use Rattle.policy_set.specs.Maps.{changed, in_force}
use Rattle.policy_set.specs.Meaning.{maps_of}
use Rattle.console.specs.Answered.{AnswersAs}
use Rattle.console.specs.SetReads.{filled_line}
use Rattle.console.proofs.Answers.{answers_read, carried}
use Rattle.console.proofs.reader.Reader.filled.Goals as goal

pub returns-clause-line : goal.returns-clause-line
returns-clause-line g c =
    let us = texts c.last_id.new.self.book in
    let cs = g.B.ClauseBook.listed c.args.clauses.now in
    let id = c.in_ok-id.id in
    let found = carried (names_known (length us) (id ∷ [])) (Ok (changed parts c.in_ok-found.found)) (in_force (maps_of c.args.set.now) id) (filled_line us cs) c.in_ok-found.ensures.answer in
    let read = answers_read string_bytes c.filled_line.result _ us (subst (AnswersAs string_bytes c.filled_line.result) found c.filled_line.ensures) in
    search (rules, read)
