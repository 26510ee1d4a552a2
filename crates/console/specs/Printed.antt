-- The line of an answer, or of why there is none.
use Rattle.std.specs.Prelude.{◌≡◌, ℕ, List, ◌++◌, Ok, Err, IfOk, IsErr, IsSomeAnd, Option, Result, String, codes, string_bytes}
use Rattle.std.specs.declared.alloc.Global.{Global}
use Rattle.std.specs.declared.alloc.AllocError.{AllocError}
use Rattle.printing.specs.Refused.{refused_line}
use Rattle.console.specs.declared.stop.Stop.{Stop}
use Rattle.console.specs.declared.stop.Stop.TheVariants as stop
use Rattle.console.specs.declared.stop.Wrong.{Wrong}
use Rattle.console.specs.declared.stop.Wrong.TheVariants as wrong

-- What the console says of a line that is no call.
abbrev pub wrong_text : Wrong → List ℕ
wrong_text wrong.UnknownCall = codes "unknown call"
wrong_text wrong.MissingWord = codes "too few words"
wrong_text wrong.ExtraWord = codes "too many words"
wrong_text wrong.BadPercent = codes "bad percent code"
wrong_text wrong.BadNumber = codes "no number from 0 to 65535"
wrong_text wrong.BadRoom = codes "a room is a number"
wrong_text wrong.BadEntity = codes "an entity is TYPE/EID"
wrong_text wrong.BadScope = codes "no such scope"
wrong_text wrong.BadEffect = codes "an effect is permit or forbid"
wrong_text wrong.BadNode = codes "no such node"
wrong_text wrong.BadSet = codes "a set is A or B"
wrong_text wrong.SameSet = codes "a set is merged into the other"
wrong_text wrong.BadKind = codes "a policy is static or link"
wrong_text wrong.BadMerge = codes "a merge is to rename or refuse"
wrong_text wrong.OtherBook = codes "a script has clauses or trees, not both"
wrong_text wrong.LateClause = codes "clauses come before the first call on a set"

-- An answer is printed as it is; of a line that is no call, what is wrong with it; of a refusal, its number and values.
-- The only error is that there is too little memory.
abbrev pub Printed : List (List ℕ) → Result (Option (String Global)) Stop → Result (Option (String Global)) AllocError → Type 0
Printed texts (Ok line) result = result ≡ Ok line
Printed texts (Err (stop.Wrong w)) result = IfOk result (λ line. IsSomeAnd line (λ s. string_bytes s ≡ codes "error " ++ wrong_text w))
Printed texts (Err (stop.Refused refusal)) result = IfOk result (λ line. IsSomeAnd line (λ s. string_bytes s ≡ refused_line texts refusal))
Printed texts (Err stop.NoMemory) result = IsErr result
