-- What lines that ask for a template's condition or binding give.
use Rattle.std.specs.Prelude.{ℕ, cond, List, [], length, map, Some, None, Ok, Err, Option, Result, ◌==◌, codes, string_bytes, String}
use Rattle.std.specs.declared.alloc.Global.{Global}
use Rattle.refusals.specs.declared.refusal.Refusal.{Refusal}
use Rattle.names.specs.Names.{Limits, name_answer, name_after}
use Rattle.clauses.specs.Book.{Clause}
use Rattle.clauses.specs.SealedBooks.{sealed_clauses}
use Rattle.clauses.specs.Tree.{written}
use Rattle.clauses.specs.TreeBooks.{tree_clauses}
use Rattle.policy.specs.Calls.{condition_answer, binding_answer}
use Rattle.policy.specs.Condition.{condition_tree}
use Rattle.policy.specs.Known.{and_then}
use Rattle.policy.specs.declared.template.Template.{Template}
use Rattle.policy.specs.declared.values.SlotEnv.{SlotEnv}
use Rattle.printing.specs.Answers.{counted_line}
use Rattle.printing.specs.Nodes.{node_word}
use Rattle.console.specs.Answered.{AnswersAs}
use Rattle.console.specs.Bodies.{TemplateParts, parts_of, body}
use Rattle.console.specs.Reader.{Reading, given, ReadsInto, next, made, answered, if_some, at_end, values}
use Rattle.console.specs.Args.{rest}
use Rattle.console.specs.Room.{room}
use Rattle.console.specs.Templates.{GoesOn, MakesTemplate}
use Rattle.console.specs.declared.body.Body.{Body}
use Rattle.console.specs.declared.clause_calls.Clauses.{Clauses}
use Rattle.console.specs.declared.clause_calls.Kind.{Kind}
use Rattle.console.specs.declared.clause_calls.Kind.TheVariants.{Sealed, Trees}
use Rattle.console.specs.declared.stop.Stop.{Stop}

-- The id of a template that stands in no set: the first of the book; where that is empty, the number that the empty text gets.
abbrev pub own_id : Limits → List (List ℕ) → Reading ℕ
own_id limits texts = cond (length texts == 0) (answered (name_answer limits texts []) (name_after limits texts [])) (given 0 texts)

-- A template of the parts under such an id.
abbrev pub OwnTemplate : {C : Type 0} → Limits → List (List ℕ) → List (Clause C) → TemplateParts → Result Template Stop → List (List ℕ) → Type 0
OwnTemplate limits texts cs p result after =
    (read : Result ℕ Stop) × ReadsInto read after (own_id limits texts) × GoesOn read after result after (λ id. MakesTemplate after cs id p result)

-- A body by its parts, and what was read with it.
abbrev pub body_and : {X : Type 0} → (Body × X) → (TemplateParts × X)
body_and both = (parts_of both.0, both.1)

-- The words behind EFFECT P A R CLAUSE.
abbrev pub behind_body : List (List ℕ) → List (List ℕ)
behind_body words = rest (rest (rest (rest (rest words))))

-- BODY [ROOM]
abbrev pub body_and_room : Limits → List (List ℕ) → List (List ℕ) → Reading (TemplateParts × ℕ)
body_and_room limits texts words =
    next (body limits texts words) (λ parts after. if_some (room 27 (behind_body words)) after (λ places. given (parts, places) after))

-- A line where something was answered.
abbrev pub shown : {X : Type 0} → Result X Refusal → List ℕ → Result (List ℕ) Refusal
shown (Ok x) line = Ok line
shown (Err refusal) line = Err refusal

-- The nodes of a condition: refusals 1 and 2 of the template, and 24 where there is too little room for all.
abbrev pub condition_line : {C : Type 0} → List (List ℕ) → List (Clause C) → Template → ℕ → Result (List ℕ) Refusal
condition_line texts cs t places =
    shown (condition_answer (length texts) cs t places) (counted_line (map (node_word texts) (written (condition_tree cs t))))

-- `condition BODY [ROOM]`: `ok N NODE ...`
abbrev pub ConditionRead : {C : Type 0} → Limits → List (List ℕ) → List (Clause C) → List (List ℕ) → Result (String Global) Stop → List (List ℕ) → Type 0
ConditionRead limits texts cs words result after =
    (read : Result (TemplateParts × ℕ) Stop) × (between : List (List ℕ)) × ReadsInto read between (body_and_room limits texts words)
    × GoesOn read between result after (λ x. (template : Result Template Stop)
    × OwnTemplate limits between cs x.0 template after
    × GoesOn template after result after (λ t. AnswersAs string_bytes result (condition_line after cs t x.1)))

-- BODY PV RV, to the end of the line
abbrev pub body_and_values : Limits → List (List ℕ) → List (List ℕ) → Reading (TemplateParts × SlotEnv)
body_and_values limits texts words =
    at_end (rest (rest (behind_body words)))
    (next (body limits texts words) (λ parts after. made (λ env. (parts, env)) (values limits after (behind_body words))))

-- `binding BODY PV RV`: `ok`
abbrev pub BindingRead : {C : Type 0} → Limits → List (List ℕ) → List (Clause C) → List (List ℕ) → Result (String Global) Stop → List (List ℕ) → Type 0
BindingRead limits texts cs words result after =
    (read : Result (TemplateParts × SlotEnv) Stop) × (between : List (List ℕ)) × ReadsInto read between (body_and_values limits texts words)
    × GoesOn read between result after (λ x. (template : Result Template Stop)
    × OwnTemplate limits between cs x.0 template after
    × GoesOn template after result after (λ t.
    AnswersAs string_bytes result (and_then (binding_answer (length after) cs t None x.1) (Ok (codes "ok")))))

-- `condition BODY [ROOM]` on the clause book that the script stands on.
abbrev pub ConditionOn : Clauses → Option Kind → Limits → List (List ℕ) → List (List ℕ) → Result (String Global) Stop → List (List ℕ) → Type 0
ConditionOn clauses (Some Trees) limits texts words result after = ConditionRead limits texts (tree_clauses clauses.trees) words result after
ConditionOn clauses (Some Sealed) limits texts words result after = ConditionRead limits texts (sealed_clauses clauses.sealed) words result after
ConditionOn clauses None limits texts words result after = ConditionRead limits texts (sealed_clauses clauses.sealed) words result after

-- `binding BODY PV RV`, likewise.
abbrev pub BindingOn : Clauses → Option Kind → Limits → List (List ℕ) → List (List ℕ) → Result (String Global) Stop → List (List ℕ) → Type 0
BindingOn clauses (Some Trees) limits texts words result after = BindingRead limits texts (tree_clauses clauses.trees) words result after
BindingOn clauses (Some Sealed) limits texts words result after = BindingRead limits texts (sealed_clauses clauses.sealed) words result after
BindingOn clauses None limits texts words result after = BindingRead limits texts (sealed_clauses clauses.sealed) words result after
