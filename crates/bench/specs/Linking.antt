-- A link that is made and removed again.
use Rattle.std.specs.Prelude.{ℕ, Ok, Err, Result}
use Rattle.refusals.specs.declared.refusal.Refusal.{Refusal}
use Rattle.policy.specs.Arity.{Parts}
use Rattle.policy_set.specs.Maps.{Maps}
use Rattle.policy_set.specs.Answers.{if_accepted, link_answer, link_after, unlink_answer, unlink_after}
use Rattle.bench.specs.declared.link.Link.{Link}

-- A second answer where the first is no refusal.
abbrev pub after_both : {X : Type 0} → Result X Refusal → Result X Refusal → Result X Refusal
after_both (Ok x) second = second
after_both (Err refusal) second = Err refusal

-- What `link` answers.
abbrev pub linked : ℕ → Maps → Link → Result Parts Refusal
linked count m l = link_answer count m l.template l.id l.values

-- The maps after `link`.
abbrev pub with_link : ℕ → Maps → Link → Maps
with_link count m l = link_after count m l.template l.id l.values

-- What `link` is refused for, or else what `unlink` answers.
abbrev pub unlinked : ℕ → Maps → Link → Result Parts Refusal
unlinked count m l = after_both (linked count m l) (unlink_answer count (with_link count m l) l.id)

-- The maps after both; a refused `link` leaves them as they were.
abbrev pub without_link : ℕ → Maps → Link → Maps
without_link count m l = if_accepted (linked count m l) (unlink_after count (with_link count m l) l.id) m
