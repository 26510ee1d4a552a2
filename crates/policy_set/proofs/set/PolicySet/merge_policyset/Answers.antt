use Rattle.std.proofs.Common.{◌≡◌, ℕ, Bool, List, ◌++◌, length, take, drop, Err, Result, sym, ap, ◌∙◌, subst, arith}
use Rattle.std.proofs.lemmas.Result.{err_from_is_err_and}
use Rattle.clauses.specs.Book.{same_clause}
use Rattle.names.specs.Book.{texts, limits}
use Rattle.refusals.specs.declared.refusal.Refusal.{Refusal}
use Rattle.policy_set.specs.declared.rows.Renaming.{Renaming}
use Rattle.policy_set.specs.Maps.{Maps}
use Rattle.policy_set.specs.Meaning.{maps_of}
use Rattle.policy_set.specs.Merge.{final, merged}
use Rattle.policy_set.specs.Choice.{candidates, enter_all, ReadsBack}
use Rattle.policy_set.specs.MergeCall.{merge_answer, merge_texts, news_for, Holdable}
use Rattle.policy_set.specs.MergeLaw.{Merges, GathersClashes}
use Rattle.policy_set.proofs.MergeSteps.{Ready, ready, few_rows, first_part}
use Rattle.policy_set.proofs.Outcomes.{few_pairs}
use Rattle.policy_set.proofs.Gathered.{gathers}
use Rattle.policy_set.proofs.Sets.{sound}
use Rattle.policy_set.proofs.set.PolicySet.merge_policyset.Goals.{Start, In_ok-plan, After-len}
use Rattle.policy_set.proofs.set.PolicySet.merge_policyset.Goals as goal

-- whether two numbers are of one clause of the book
abbrev same : (g : _) → Start g → ℕ → ℕ → Bool
same g c = same_clause g.B.ClauseBook.equal (g.B.ClauseBook.listed c.args.clauses.now)

-- which ids are gathered
gathered : (g : _) (c : Start g) → GathersClashes (same g c) (maps_of c.args.self.now) (maps_of c.args.incoming.now)
gathered g c = gathers (same g c) (maps_of c.args.self.now) (maps_of c.args.incoming.now) (sound c.args.self.now) (sound c.args.incoming.now)

pub returns-in_err-plan-clause-gathers : goal.returns-in_err-plan-clause-gathers
returns-in_err-plan-clause-gathers g c = gathered g (goal.at.returns-in_err-plan-clause-gathers g c).Start

pub returns-clause-gathers : goal.returns-clause-gathers
returns-clause-gathers g c = gathered g (goal.at.returns-clause-gathers g c).Start

pub returns-in_err-plan-clause-finds_names : goal.returns-in_err-plan-clause-finds_names
returns-in_err-plan-clause-finds_names g c =
    let p = err_from_is_err_and c.from_residual.result c.from_residual.ensures.1 in
    few_rows c.args.self.now c.args.incoming.now (limits c.args.names.now) (texts c.args.names.now)
    (same g (goal.at.returns-in_err-plan-clause-finds_names g c).Start) c.args.rename_duplicates (length c.args.pairs.now) c.from_residual.result
    (p.1 ∙ (ap Err p.2 ∙ ap merge_answer c.in_err-plan.ensures.value))

-- what is known of an accepted plan
accepted : (g : _) (c : In_ok-plan g)
    → Ready (limits c.args.names.now) (texts c.args.names.now) (same g (goal.at.In_ok-plan g c).Start)
    (maps_of c.args.self.now) (maps_of c.args.incoming.now) (length c.args.pairs.now) c.in_ok-plan.plan.pairs.items
accepted g c =
    ready (limits c.args.names.now) (texts c.args.names.now) (same g (goal.at.In_ok-plan g c).Start)
    (maps_of c.args.self.now) (maps_of c.args.incoming.now) c.args.rename_duplicates (length c.args.pairs.now) c.in_ok-plan.plan.pairs.items
    (sound c.args.self.now) (sound c.args.incoming.now) c.in_ok-plan.ensures.value

pub apply-requires : goal.apply-requires
apply-requires g c =
    subst (λ (ps : List Renaming). Holdable (merged (final ps) (maps_of c.args.self.now) (maps_of c.args.incoming.now))) (sym c.deref.ensures.0)
    (accepted g (goal.at.apply-requires g c).In_ok-plan).holdable

pub hand_out-requires : goal.hand_out-requires
hand_out-requires g c = omega (arith, ap length c.deref-2.ensures.0, (accepted g (goal.at.hand_out-requires g c).In_ok-plan).buffer)

-- the texts of the book afterwards
new_book : (g : _) (c : After-len g) → texts c.enter_all.new.names
    ≡ texts c.args.names.now ++ candidates (news_for (texts c.args.names.now) (same g (goal.at.After-len g c).Start) (maps_of c.args.self.now) (maps_of c.args.incoming.now))
new_book g c =
    c.enter_all.ensures.texts
    ∙ (ap (enter_all (limits c.args.names.now) (texts c.args.names.now)) (c.deref-3.ensures.0 ∙ c.in_ok-plan.ensures.texts)
    ∙ (accepted g (goal.at.After-len g c).In_ok-plan).book)

-- the buffer begins with the pairs of the plan
first_pairs : (g : _) (c : After-len g) → take c.len.result c.hand_out.new.buffer ≡ c.in_ok-plan.plan.pairs.items
first_pairs g c =
    ap (take c.len.result) c.hand_out.ensures
    ∙ (first_part c.len.result c.deref-2.result.now (drop (length c.deref-2.result.now) c.args.pairs.now) (ap length c.deref-2.ensures.0 ∙ sym c.len.ensures.value) ∙ c.deref-2.ensures.0)

pub returns-clause-texts : goal.returns-clause-texts
returns-clause-texts g c =
    new_book g c ∙ ap (λ (o : Result (List Renaming) Refusal). merge_texts o (texts c.args.names.now) (same g (goal.at.returns-clause-texts g c).Start) (maps_of c.args.self.now) (maps_of c.args.incoming.now)) c.in_ok-plan.ensures.value

pub returns-clause-law : goal.returns-clause-law
returns-clause-law g c =
    let live = maps_of c.args.self.now in
    let inc = maps_of c.args.incoming.now in
    let a : maps_of c.apply.new.self ≡ merged (final c.in_ok-plan.plan.pairs.items) live inc =
    c.apply.ensures ∙ ap (λ (ps : List Renaming). merged (final ps) live inc) c.deref.ensures.0 in
    subst (λ (ps : List Renaming). Merges (same g (goal.at.returns-clause-law g c).Start) live inc (maps_of c.apply.new.self) ps) (sym (first_pairs g c))
    (subst (λ (m : Maps). Merges (same g (goal.at.returns-clause-law g c).Start) live inc m c.in_ok-plan.plan.pairs.items) (sym a) (accepted g (goal.at.returns-clause-law g c).In_ok-plan).merges)

pub returns-clause-few : goal.returns-clause-few
returns-clause-few g c =
    omega (
      arith,
      c.len.ensures.value,
      few_pairs c.args.self.now c.args.incoming.now (same g (goal.at.returns-clause-few g c).Start) c.in_ok-plan.plan.pairs.items
          (accepted g (goal.at.returns-clause-few g c).In_ok-plan).merges.chosen,
    )

pub returns-clause-new_names : goal.returns-clause-new_names
returns-clause-new_names g c =
    subst (λ (ps : List Renaming). ReadsBack (texts c.enter_all.new.names) ps) (sym (first_pairs g c))
    (subst (λ (us : List (List ℕ)). ReadsBack us c.in_ok-plan.plan.pairs.items) (sym (new_book g c)) (accepted g (goal.at.returns-clause-new_names g c).In_ok-plan).reads)
