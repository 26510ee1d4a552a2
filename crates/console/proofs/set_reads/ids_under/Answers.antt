use Rattle.std.proofs.Common.{◌≡◌, Ok, length, sym, ap, ◌∙◌, rules}
use Rattle.names.specs.Book.{texts}
use Rattle.policy.specs.Known.{and_then}
use Rattle.policy_set.specs.Meaning.{maps_of}
use Rattle.policy_set.specs.Listing.{linked_at}
use Rattle.console.specs.Listings.{ids_under, is_template}
use Rattle.console.proofs.Templates.{place_asked}
use Rattle.console.proofs.set_reads.ids_under.Goals as goal

pub returns-in_err-get_linked_policies : goal.returns-in_err-get_linked_policies
returns-in_err-get_linked_policies c =
    let asked = place_asked (length (texts c.args.book.now)) (maps_of c.args.set.now) c.args.id 0 c.get_linked_policies.result c.get_linked_policies.ensures.answer in
    search (rules, asked)

pub returns : goal.returns
returns c =
    let m = maps_of c.args.set.now in
    let asked = place_asked (length (texts c.args.book.now)) m c.args.id 0 c.get_linked_policies.result c.get_linked_policies.ensures.answer in
    let there : is_template (length (texts c.args.book.now)) m c.args.id ≡ Ok tt = search (rules, asked) in
    ap (λ o. and_then o (Ok (ids_under m c.args.id))) there
    ∙ ap Ok (sym (c.in_ok-places.ensures (linked_at m c.args.id) (λ place r q. search (rules, q))))
