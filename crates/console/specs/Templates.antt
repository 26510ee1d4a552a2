-- What the reader makes of the words of templates and policies. `limits` and `texts` are those of the name book before,
-- `after` are the texts then, and `cs` the clauses of the clause book.
use Rattle.std.specs.Prelude.{◌≡◌, ℕ, cond, List, length, Some, None, Ok, Err, Option, Result, codes}
use Rattle.std.specs.Option.{option_and_then}
use Rattle.std.specs.Str.{bytes_eq}
use Rattle.refusals.specs.declared.refusal.Refusal.{Refusal}
use Rattle.names.specs.Names.{Limits}
use Rattle.names.specs.declared.entity.EntityUID.{EntityUID}
use Rattle.clauses.specs.Book.{Clause}
use Rattle.policy.specs.Arity.{parts}
use Rattle.policy.specs.Calls.{template_link_answer}
use Rattle.policy.specs.Known.{and_then, template_known}
use Rattle.policy.specs.Making.{Makes}
use Rattle.policy.specs.Scopes.{ActionScope}
use Rattle.policy.specs.Static.{static_answer}
use Rattle.policy.specs.declared.action.ActionIn.{ActionIn}
use Rattle.policy.specs.declared.action.ActionIn.TheVariants as action
use Rattle.policy.specs.declared.bound.Policy.{Policy}
use Rattle.policy.specs.declared.fixed.StaticPolicy.{StaticPolicy}
use Rattle.policy.specs.declared.template.Template.{Template}
use Rattle.policy.specs.declared.values.SlotEnv.{SlotEnv}
use Rattle.policy_set.specs.Answers.{static_parts}
use Rattle.console.specs.Answered.{AnswersAs}
use Rattle.console.specs.Bodies.{TemplateParts, parts_of, body}
use Rattle.console.specs.Reader.{Reading, wrong, ReadsInto, next, made, at_end, id, values}
use Rattle.console.specs.Args.{rest, next_word}
use Rattle.console.specs.declared.body.Body.{Body}
use Rattle.console.specs.declared.set_calls.PolicyKind.{PolicyKind}
use Rattle.console.specs.declared.set_calls.PolicyKind.TheVariants as kind
use Rattle.console.specs.declared.stop.Stop.{Stop}
use Rattle.console.specs.declared.stop.Stop.TheVariants.{Refused}

-- An answer of a call, as the console's.
abbrev pub or_stop : {X : Type 0} → Result X Refusal → Result X Stop
or_stop (Ok x) = Ok x
or_stop (Err refusal) = Err (Refused refusal)

-- Where something was read before, what is asked of the result with it; else the result is the same error, and the texts
-- stay as that reading left them.
abbrev pub GoesOn : {X Y : Type 0} → Result X Stop → List (List ℕ) → Result Y Stop → List (List ℕ) → (X → Type 0) → Type 0
GoesOn (Ok x) between result after P = P x
GoesOn (Err stop) between result after P = (result ≡ Err stop) × (after ≡ between)

-- An action scope, its list by the items.
abbrev pub lent_list : ActionScope → ActionIn (List EntityUID)
lent_list action.Any = action.Any
lent_list (action.Eq e) = action.Eq e
lent_list (action.In es) = action.In es.now

-- A template is made of an id and parts that were read, or refused.
abbrev pub MakesOf : {C : Type 0} → List (List ℕ) → List (Clause C) → ℕ → TemplateParts → Result Template Refusal → Type 0
MakesOf texts cs id p made =
    (action : ActionScope) × (lent_list action ≡ p.action) × Makes texts cs id p.effect p.principal action p.resource p.clause made

-- The same, of the console's result.
abbrev pub MakesTemplate : {C : Type 0} → List (List ℕ) → List (Clause C) → ℕ → TemplateParts → Result Template Stop → Type 0
MakesTemplate texts cs id p result = (made : Result Template Refusal) × MakesOf texts cs id p made × (result ≡ or_stop made)

-- ID BODY, to the end of the line
abbrev pub id_and_body : Limits → List (List ℕ) → List (List ℕ) → Reading (ℕ × TemplateParts)
id_and_body limits texts words =
    at_end (rest (rest (rest (rest (rest (rest words))))))
    (next (id limits texts words) (λ new after. made (λ parts. (new, parts)) (body limits after (rest words))))

-- An id and a body, the body by its parts.
abbrev pub by_parts : (ℕ × Body) → (ℕ × TemplateParts)
by_parts both = (both.0, parts_of both.1)

-- A template: ID BODY, to the end of the line
abbrev pub TemplateRead : {C : Type 0} → Limits → List (List ℕ) → List (Clause C) → List (List ℕ) → Result Template Stop → List (List ℕ) → Type 0
TemplateRead limits texts cs words result after =
    (read : Result (ℕ × TemplateParts) Stop) × ReadsInto read after (id_and_body limits texts words)
    × GoesOn read after result after (λ x. MakesTemplate after cs x.0 x.1 result)

-- A static policy: a template without slots
abbrev pub StaticRead : {C : Type 0} → Limits → List (List ℕ) → List (Clause C) → List (List ℕ) → Result StaticPolicy Stop → List (List ℕ) → Type 0
StaticRead limits texts cs words result after =
    (read : Result Template Stop) × TemplateRead limits texts cs words read after
    × GoesOn read after result after (λ t. AnswersAs (λ (p : StaticPolicy). p.body) result (static_answer (length after) cs t))

-- The kind of policy that a word names.
abbrev pub policy_kind : List ℕ → Option PolicyKind
policy_kind word = cond (bytes_eq word (codes "static")) (Some kind.Static) (cond (bytes_eq word (codes "link")) (Some kind.Link) None)

-- ID PV RV
abbrev pub id_and_values : Limits → List (List ℕ) → List (List ℕ) → Reading (ℕ × SlotEnv)
id_and_values limits texts words = next (id limits texts words) (λ new after. made (λ env. (new, env)) (values limits after (rest words)))

-- A policy by its kind: a static one, without link id and values; or ID PV RV and the template that it links
abbrev pub KindRead : {C : Type 0} → Limits → List (List ℕ) → List (Clause C) → PolicyKind → List (List ℕ) → Result Policy Stop → List (List ℕ) → Type 0
KindRead limits texts cs kind.Static words result after =
    (read : Result StaticPolicy Stop) × StaticRead limits texts cs words read after
    × GoesOn read after result after (λ p. AnswersAs parts result (and_then (template_known (length after) cs p.body) (Ok (static_parts p.body))))
KindRead limits texts cs kind.Link words result after =
    (read : Result (ℕ × SlotEnv) Stop) × (between : List (List ℕ)) × ReadsInto read between (id_and_values limits texts words)
    × GoesOn read between result after (λ x. (template : Result Template Stop)
    × TemplateRead limits between cs (rest (rest (rest words))) template after
    × GoesOn template after result after (λ t. AnswersAs parts result (template_link_answer (length after) cs t x.0 x.1)))

-- A policy of the kind that was named, if one was.
abbrev pub IfKindRead : {C : Type 0} → Limits → List (List ℕ) → List (Clause C) → Option PolicyKind → List (List ℕ) → Result Policy Stop → List (List ℕ) → Type 0
IfKindRead limits texts cs None words result after = ReadsInto result after (wrong texts)
IfKindRead limits texts cs (Some k) words result after = KindRead limits texts cs k words result after

-- A policy: static ID BODY, or link ID PV RV TEMPLATEID BODY
abbrev pub PolicyRead : {C : Type 0} → Limits → List (List ℕ) → List (Clause C) → List (List ℕ) → Result Policy Stop → List (List ℕ) → Type 0
PolicyRead limits texts cs words result after =
    IfKindRead limits texts cs (option_and_then policy_kind (next_word words)) (rest words) result after
