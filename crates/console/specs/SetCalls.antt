-- The calls that lines on sets ask for.
use Rattle.std.specs.Prelude.{◌≡◌, ℕ, Bool, true, false, cond, List, None, Ok, Err, Option, Result}
use Rattle.std.specs.Option.{option_map, option_and_then}
use Rattle.names.specs.Names.{Limits}
use Rattle.clauses.specs.Book.{Clause}
use Rattle.calls.specs.declared.call.Call.{Call}
use Rattle.calls.specs.declared.call.Call.TheVariants as call
use Rattle.calls.specs.declared.call.Side.{Side}
use Rattle.calls.specs.declared.call.Side.TheVariants.{A, B}
use Rattle.console.specs.Args.{rest, next_word, side_of}
use Rattle.console.specs.Room.{room}
use Rattle.console.specs.Reader.{Reading, given, ReadsInto, next, made, if_some, at_end, id, last_id}
use Rattle.console.specs.declared.set_calls.Change.{Change}
use Rattle.console.specs.declared.set_calls.Change.TheVariants as change
use Rattle.console.specs.declared.stop.Stop.{Stop}
use Rattle.console.specs.SetWords.{renames}
use Rattle.console.specs.Templates.{id_and_values, TemplateRead, StaticRead, PolicyRead}

-- TEMPLATEID ID PV RV, to the end of the line
abbrev pub link : Limits → List (List ℕ) → Side → List (List ℕ) → Reading Call
link limits texts side words =
    at_end (rest (rest (rest (rest words))))
    (next (id limits texts words) (λ template after. made (λ both. call.Link side template both.0 both.1) (id_and_values limits after (rest words))))

-- Whether two sets are not the same one.
abbrev pub apart : Side → Side → Bool
apart A B = true
apart B A = true
apart A A = false
apart B B = false

-- FROM rename|refuse [ROOM]
abbrev pub merge : Side → List (List ℕ) → Option Call
merge into words =
    option_and_then (λ word. option_and_then (λ source. cond (apart into source)
    (option_and_then (λ second. option_and_then (λ rename. option_map (call.Merge into rename) (room 320 (rest (rest words)))) (renames second))
    (next_word (rest words))) None) (side_of word)) (next_word words)

-- The call with what was read for it.
abbrev pub call_of : {X : Type 0} → (X → Call) → Result X Stop → Result Call Stop
call_of call (Ok x) = Ok (call x)
call_of call (Err stop) = Err stop

-- The result is the call with something that was read so.
abbrev pub CallWith : {X : Type 0} → (X → Call) → (Result X Stop → Type 0) → Result Call Stop → Type 0
CallWith {X} call IsRead result = (read : Result X Stop) × IsRead read × (result ≡ call_of call read)

-- What a line that changes a set is read into, with the texts of the name book after.
abbrev pub ChangeRead : {C : Type 0} → Limits → List (List ℕ) → List (Clause C) → Change → Side → List (List ℕ) → Result Call Stop → List (List ℕ) → Type 0
ChangeRead limits texts cs change.Template side words result after = CallWith (call.AddTemplate side) (λ read. TemplateRead limits texts cs words read after) result
ChangeRead limits texts cs change.Static side words result after = CallWith (call.AddStatic side) (λ read. StaticRead limits texts cs words read after) result
ChangeRead limits texts cs change.Add side words result after = CallWith (call.Add side) (λ read. PolicyRead limits texts cs words read after) result
ChangeRead limits texts cs change.Link side words result after = ReadsInto result after (link limits texts side words)
ChangeRead limits texts cs change.Unlink side words result after = ReadsInto result after (made (call.Unlink side) (last_id limits texts words))
ChangeRead limits texts cs change.RemoveStatic side words result after = ReadsInto result after (made (call.RemoveStatic side) (last_id limits texts words))
ChangeRead limits texts cs change.RemoveTemplate side words result after = ReadsInto result after (made (call.RemoveTemplate side) (last_id limits texts words))
ChangeRead limits texts cs change.Merge side words result after = ReadsInto result after (if_some (merge side words) texts (λ c. given c texts))
