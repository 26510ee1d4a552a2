use Rattle.std.proofs.Common.{◌≡◌, length, drop, map, string_bytes}
use Rattle.names.specs.Book.{texts}
use Rattle.policy.specs.Known.{names_known}
use Rattle.policy_set.specs.Listing.{first_id}
use Rattle.policy_set.specs.Meaning.{maps_of}
use Rattle.console.specs.Dump.{with_policies}
use Rattle.console.proofs.dump.push_policies.Given as goal

-- The lines so far, what is known so far, and the policies that are left.
abbrev pub invariant-loop-id : goal.invariant-loop-id
invariant-loop-id l =
    (names_known (length (texts l.book)) (map first_id (drop l.id-index l.ids)) ≡ names_known (length (texts l.book)) (map first_id l.ids))
    × (with_policies (texts l.book) (maps_of l.set) (string_bytes l.text) (drop l.id-index l.ids)
    ≡ with_policies (texts l.book) (maps_of l.set) (string_bytes l.fn.text) l.ids)
