use Rattle.std.proofs.Common.{◌+◌, arith}
use Rattle.names.specs.Book.{texts}
use Rattle.policy_set.proofs.Choices.{few_names, small_number}
use Rattle.policy_set.proofs.merge.choice.attempt.Goals as goal

pub overflow_add-count : goal.overflow_add-count
overflow_add-count c = omega (arith, few_names c.args.names.now, c.count.ensures.count, c.requires.fresh)

pub overflow_cast-result : goal.overflow_cast-result
overflow_cast-result c =
    let small = small_number (texts c.args.names.now) c.args.counter (c.count.result + c.args.fresh) c.number-found.result (omega (arith, c.count.ensures.count)) c.number-found.ensures in
    omega (arith, few_names c.args.names.now, c.count.ensures.count, c.requires.fresh, c.unwrap_or.ensures, small)
