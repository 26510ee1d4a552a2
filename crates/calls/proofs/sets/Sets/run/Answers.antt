use Rattle.std.proofs.Common.{◌≡◌, ◌+◌, [], ◌∷◌, ◌++◌, take, map, length, sym, ap, ◌∙◌, subst, arith}
use Rattle.std.proofs.lemmas.List.{take_more}
use Rattle.names.specs.Book.{limits}
use Rattle.calls.specs.declared.call.Call.{Call}
use Rattle.calls.specs.Model.{told}
use Rattle.calls.specs.Law.{Ran}
use Rattle.calls.specs.Meaning.{state_of}
use Rattle.calls.proofs.Runs.{ran_more, places_more}
use Rattle.calls.proofs.sets.Sets.run.Goals as goal

pub loop-i-preserved : goal.loop-i-preserved
loop-i-preserved g c =
    let equal = g.B.ClauseBook.equal in
    let cs = g.B.ClauseBook.listed c.args.clauses.now in
    let ls = limits c.args.names.now in
    let begin = state_of c.args.self.now c.args.names.now in
    let before = state_of c.loop-i.self c.loop-i.names in
    let after = state_of c.make.new.self c.make.new.names in
    let call = c.index-calls-i.result in
    let p = places_more told c.loop-i.answers c.args.answers.now c.loop-i.i c.make.result (omega (arith, c.loop-i-test.true, c.if-answers-calls.false, c.loop-i.auto.answers)) c.loop-i.invariant.2 in
    let q : take (c.loop-i.i + 1) c.args.calls.now ≡ take c.loop-i.i c.args.calls.now ++ call ∷ [] =
    take_more c.args.calls.now c.loop-i.i call c.loop-i-test.true ∙ ap (λ (x : Call). take c.loop-i.i c.args.calls.now ++ x ∷ []) (sym c.index-calls-i.is) in (
      c.make.ensures.limits ∙ c.loop-i.invariant.0,
      ran_more ls equal cs (limits c.loop-i.names) c.loop-i.invariant.0 begin before after (take c.loop-i.i c.args.calls.now) _ (map told (take c.loop-i.i c.loop-i.answers)) _
          call (told c.make.result) c.loop-i.invariant.1 c.make.ensures.answer c.make.ensures.after c.make.ensures.law q p.0,
      p.1,
    )

pub returns-clause-ran : goal.returns-clause-ran
returns-clause-ran g c =
    let z : c.loop-i.i ≡ length c.args.calls.now = omega (arith, c.loop-i-test.false, c.loop-i.auto.i-end) in
    subst (λ n. Ran g.B.ClauseBook.equal (g.B.ClauseBook.listed c.args.clauses.now) (limits c.args.names.now) (state_of c.args.self.now c.args.names.now)
    (state_of c.loop-i.self c.loop-i.names) (take n c.args.calls.now) (map told (take n c.loop-i.answers))) z c.loop-i.invariant.1
