-- How the answers of accepted calls on sets are printed.
use Rattle.std.specs.Prelude.{ℕ, List, ◌∷◌, ◌++◌, length, map, codes, decimal}
use Rattle.policy.specs.Arity.{parts}
use Rattle.policy.specs.declared.bound.Policy.{Policy}
use Rattle.policy_set.specs.declared.rows.Renaming.{Renaming}
use Rattle.calls.specs.declared.call.Side.{Side}
use Rattle.calls.specs.declared.call.Side.TheVariants.{A, B}
use Rattle.calls.specs.declared.call.Call.{Call}
use Rattle.calls.specs.declared.call.Call.TheVariants as call
use Rattle.calls.specs.declared.answer.Handed.{Handed}
use Rattle.calls.specs.declared.answer.Handed.TheVariants as hand
use Rattle.calls.specs.Pairs.{pairs_in}
use Rattle.printing.specs.Print.{spaced, id_word}
use Rattle.printing.specs.Records.{values_words, fields_words, template_words, policy_words, pair_word}

-- The word of a set.
abbrev pub side_word : Side → List ℕ
side_word A = codes "A"
side_word B = codes "B"

-- The line of a count and so many words.
abbrev pub counted_line : List (List ℕ) → List ℕ
counted_line words = spaced (codes "ok " ++ decimal (length words)) words

-- The line of a listing of policies: the id of each and its template's.
abbrev pub policies_line : List (List ℕ) → List (ℕ × ℕ) → List ℕ
policies_line texts ids = counted_line (map (λ both. pair_word texts both.0 (codes ",") both.1) ids)

-- The line of the pairs of a merge.
abbrev pub pairs_line : List (List ℕ) → List Renaming → List ℕ
pairs_line texts pairs = counted_line (map (λ pair. pair_word texts pair.old (codes ">") pair.new) pairs)

-- The line of a policy that was taken from a set.
abbrev pub taken_line : List (List ℕ) → Policy → List ℕ
taken_line texts p = spaced (spaced (codes "ok policy") (policy_words texts (parts p))) (fields_words texts p.template)

-- The line of a policy that a call handed back: of a new link by its ids and values.
abbrev pub policy_line : List (List ℕ) → Call → Policy → List ℕ
policy_line texts (call.Link side template id values) p = spaced (codes "ok link") (id_word texts id ∷ id_word texts template ∷ values_words texts p.values)
policy_line texts (call.Unlink side id) p = taken_line texts p
policy_line texts (call.RemoveStatic side id) p = taken_line texts p
policy_line texts (call.RemoveTemplate side id) p = taken_line texts p
policy_line texts (call.Merge side rename room) p = taken_line texts p
policy_line texts (call.Add side added) p = taken_line texts p
policy_line texts (call.AddStatic side added) p = taken_line texts p
policy_line texts (call.AddTemplate side added) p = taken_line texts p
policy_line texts (call.Name text) p = taken_line texts p

-- The line of an accepted call.
abbrev pub handed_line : List (List ℕ) → Call → Handed → List ℕ
handed_line texts c hand.Nothing = codes "ok"
handed_line texts c (hand.Name n) = codes "name " ++ decimal n
handed_line texts c (hand.Policy p) = policy_line texts c p
handed_line texts c (hand.Template t) = spaced (codes "ok template") (template_words texts t)
handed_line texts c (hand.Pairs ps) = pairs_line texts (pairs_in ps)
