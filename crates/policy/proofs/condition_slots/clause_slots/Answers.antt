use Rattle.std.proofs.Common.{ℕ, Option, sym, ap, ◌∙◌}
use Rattle.policy.specs.Slots.{slots_where, has_bit}
use Rattle.policy.specs.Mentions.{clause_has}
use Rattle.refusals.proofs.Sets.{as_slots}
use Rattle.policy.proofs.condition_slots.clause_slots.Goals as goal

pub returns-in-Some : goal.returns-in-Some
returns-in-Some g c =
    as_slots c.slots.result
    ∙ ap (λ (n : ℕ). slots_where (λ slot. has_bit slot n)) c.slots.ensures
    ∙ ap (λ (o : Option ℕ). slots_where (clause_has (g.B.ClauseBook.listed c.args.clauses.now) o)) (sym c.in-Some.is)
