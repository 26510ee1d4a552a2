-- Entering a tree.
use Rattle.std.proofs.Common.{◌≡◌, ℕ, List, Ok, Result, String, string_bytes, subst, ◌∙◌, ap}
use Rattle.std.specs.declared.alloc.Global.{Global}
use Rattle.refusals.specs.declared.refusal.Refusal.{Refusal}
use Rattle.names.specs.Names.{with_entered}
use Rattle.clauses.specs.TreeEntering.{tree_answer}
use Rattle.clauses.specs.declared.tree.node.Node.{Node}
use Rattle.console.specs.Answered.{AnswersAs}
use Rattle.console.specs.ClauseLines.{clause_answer, TreeEnters}
use Rattle.console.specs.declared.stop.Stop.{Stop}

-- what the book answered is printed, and the trees are those it left
pub entered : (texts : List (List ℕ)) (trees after : List (List Node)) (ns : List Node) (answer : Result ℕ Refusal) (result : Result (String Global) Stop)
    → answer ≡ tree_answer texts trees ns → after ≡ with_entered answer trees ns → AnswersAs string_bytes result (clause_answer answer) → TreeEnters texts trees (Ok ns) result after
entered texts trees after ns answer result e t p =
    (subst (λ (a : Result ℕ Refusal). AnswersAs string_bytes result (clause_answer a)) e p, t ∙ ap (λ a. with_entered a trees ns) e)
