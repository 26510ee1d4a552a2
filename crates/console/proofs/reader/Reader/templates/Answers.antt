use Rattle.std.proofs.Common.{◌≡◌, string_bytes, vec_items, ap, ◌∙◌, rules}
use Rattle.names.specs.Book.{texts}
use Rattle.policy_set.specs.Listing.{templates_answer}
use Rattle.policy_set.specs.Meaning.{maps_of}
use Rattle.console.specs.Listings.{ids_line, templates}
use Rattle.console.specs.Reader.{given}
use Rattle.console.specs.Args.{left}
use Rattle.console.proofs.Ended.{wrong_end, whole_line}
use Rattle.console.proofs.reader.Reader.templates.Goals as goal

pub returns-in_err-end : goal.returns-in_err-end
returns-in_err-end c =
    let us = texts c.args.self.now.book in
    wrong_end (left c.args.args.now) us (given (ids_line us (templates (maps_of c.args.set.now))) us) c.from_residual.result c.in_err-end.field-0.0 c.in_err-end.ensures (search rules)

pub returns : goal.returns
returns c =
    let us = texts c.args.self.now.book in
    let m = maps_of c.args.set.now in
    let line : string_bytes c.in_ok-ids_line.field-0 ≡ ids_line us (vec_items c.in_ok-ids.ids) = search rules in
    let all = c.in_ok-ids.ensures (templates_answer m) (λ place r q. search (rules, q)) in
    whole_line (left c.args.args.now) us _ _ c.in_ok-end.ensures (line ∙ ap (ids_line us) all)
