use Rattle.std.proofs.Common.{◌≡◌, length, drop, string_bytes}
use Rattle.names.specs.Book.{texts}
use Rattle.policy.specs.Known.{in_turn}
use Rattle.policy_set.specs.Meaning.{maps_of}
use Rattle.console.specs.Listings.{is_template}
use Rattle.console.specs.Dump.{with_reverses}
use Rattle.console.proofs.dump.push_reverse.Given as goal

-- The lines so far, what is known so far, and the templates that are left.
abbrev pub invariant-loop-id : goal.invariant-loop-id
invariant-loop-id l =
    (in_turn (is_template (length (texts l.book)) (maps_of l.set)) (drop l.id-index l.ids) ≡ in_turn (is_template (length (texts l.book)) (maps_of l.set)) l.ids)
    × (with_reverses (texts l.book) (maps_of l.set) (string_bytes l.text) (drop l.id-index l.ids)
    ≡ with_reverses (texts l.book) (maps_of l.set) (string_bytes l.fn.text) l.ids)
