-- What lines that enter clauses give.
use Rattle.std.specs.Prelude.{◌≡◌, ℕ, List, ◌++◌, Ok, Err, Result, codes, decimal, string_bytes, String}
use Rattle.std.specs.declared.alloc.Global.{Global}
use Rattle.refusals.specs.declared.refusal.Refusal.{Refusal}
use Rattle.names.specs.Names.{Limits, with_entered}
use Rattle.clauses.specs.Entering.{sealed_answer}
use Rattle.clauses.specs.TreeEntering.{tree_answer}
use Rattle.clauses.specs.declared.tree.node.Node.{Node}
use Rattle.console.specs.Answered.{AnswersAs}
use Rattle.console.specs.Nodes.{nodes}
use Rattle.console.specs.Reader.{Reading, wrong, ReadsAs, ReadsInto, made, answered, if_some, if_end}
use Rattle.console.specs.Args.{rest, next_text}
use Rattle.console.specs.declared.stop.Stop.{Stop}
use Rattle.console.specs.declared.stop.Wrong.{Wrong}

-- `clause N`
abbrev pub clause_line : ℕ → List ℕ
clause_line n = codes "clause " ++ decimal n

-- `clause TEXT`, where a sealed text may come: its number, with the texts of the book of sealed texts; else the line is wrong.
abbrev pub sealed_line : Result (Unit {0}) Wrong → List (List ℕ) → List (List ℕ) → Reading (List ℕ)
sealed_line (Err w) texts words = wrong texts
sealed_line (Ok u) texts words =
    if_some (next_text words) texts (λ text. if_end (rest words) texts
    (made clause_line (answered (sealed_answer texts text) (with_entered (sealed_answer texts text) texts text))))

-- The line of the number that a clause gets.
abbrev pub clause_answer : Result ℕ Refusal → Result (List ℕ) Refusal
clause_answer (Ok n) = Ok (clause_line n)
clause_answer (Err refusal) = Err refusal

-- Nodes that were read are entered among the trees; else the error stays, and the trees.
abbrev pub TreeEnters : List (List ℕ) → List (List Node) → Result (List Node) Stop → Result (String Global) Stop → List (List Node) → Type 0
TreeEnters texts trees (Ok ns) result after =
    AnswersAs string_bytes result (clause_answer (tree_answer texts trees ns)) × (after ≡ with_entered (tree_answer texts trees ns) trees ns)
TreeEnters texts trees (Err stop) result after = (result ≡ Err stop) × (after ≡ trees)

-- `tree NODE ...`, where a tree may come: its number, with the texts and the trees then; else the line is wrong.
abbrev pub TreeLine : Result (Unit {0}) Wrong → Limits → List (List ℕ) → List (List Node) → List (List ℕ) → Result (String Global) Stop → List (List ℕ) → List (List Node) → Type 0
TreeLine (Err w) limits texts trees words result after trees_after = ReadsAs string_bytes result after (wrong texts) × (trees_after ≡ trees)
TreeLine (Ok u) limits texts trees words result after trees_after =
    (read : Result (List Node) Stop) × ReadsInto read after (nodes limits texts words) × TreeEnters after trees read result trees_after
