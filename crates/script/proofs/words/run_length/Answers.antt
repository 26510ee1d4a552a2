use Rattle.std.proofs.Common.{ℕ, length, not, Option, ap, ◌∙◌, rules, tests}
use mathlib.Core.Bool.{beq}
use Rattle.std.specs.Option.{unwrap_or}
use Rattle.std.proofs.lemmas.Iterator.{YieldsList-from_slice}
use Rattle.std.proofs.lemmas.Iterator.Search.{position_from_yields_List}
use Rattle.script.specs.Words.{separates}
use Rattle.script.proofs.FirstWord.{front-within, front_place, or_length}
use Rattle.script.proofs.words.run_length.Goals as goal

pub returns : goal.returns
returns c =
    let line = c.args.line.now in
    let found = position_from_yields_List (λ (b : ℕ). not (beq (separates b) c.args.separators)) _ _ _ c.position.ensures.ran (YieldsList-from_slice line cc)
    (λ x b q k. search (rules, tests)) in
    c.unwrap_or.ensures
    ∙ ap (λ (place : Option ℕ). unwrap_or place (length line)) found
    ∙ or_length _ _ (length line) (front_place c.args.separators line) (front-within c.args.separators line)
