-- Making an action list.
use Rattle.std.specs.Prelude.{◌≡◌, cond, List, length, Ok, Err, Result, nat_lt}
use Rattle.std.specs.Borrow.{Bor}
use Rattle.refusals.specs.declared.refusal.Refusal.{Refusal}
use Rattle.refusals.specs.declared.refusal.Refusal.TheVariants.{TooManyActions}
use Rattle.names.specs.declared.entity.EntityUID.{EntityUID}
use Rattle.policy.specs.declared.action.ActionList.{ActionList}
use Rattle.policy.specs.Scopes.{listed}

-- A list that was made, by its entities.
abbrev pub listed_of : Result ActionList Refusal → Result (List EntityUID) Refusal
listed_of (Ok l) = Ok (listed l)
listed_of (Err e) = Err e

-- Refusal 6 above eight entities.
abbrev pub list_answer : List EntityUID → Result (List EntityUID) Refusal
list_answer es = cond (nat_lt 8 (length es)) (Err (TooManyActions (length es))) (Ok es)

-- A list is made of some entities, or they are too many.
abbrev pub Lists : Bor (List EntityUID) → Result ActionList Refusal → Type 0
Lists es r = listed_of r ≡ list_answer es.now
