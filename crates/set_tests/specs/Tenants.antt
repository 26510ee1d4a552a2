-- A server's id from one tenant to the next: `count` is the name book's count, `m` are the maps before.
use Rattle.std.specs.Prelude.{◌≡◌, ℕ, true, false, is_some, ◌≢◌, ◌⊎◌, Some, None, Ok, Err, Option, Result, MatchResult}
use Rattle.refusals.specs.declared.refusal.Refusal.{Refusal}
use Rattle.policy.specs.Arity.{Parts}
use Rattle.policy.specs.declared.values.SlotEnv.{SlotEnv}
use Rattle.policy.specs.declared.template.Template.{Template}
use Rattle.policy_set.specs.Maps.{Maps, changed, template_at, in_force, bound, named}
use Rattle.policy_set.specs.Answers.{if_accepted, unlink_answer, unlink_after, link_answer, link_after}

-- What is answered after a call that accepts; else its refusal.
abbrev pub once_accepted : {X Y : Type 0} → Result X Refusal → Result Y Refusal → Result Y Refusal
once_accepted (Ok x) answer = answer
once_accepted (Err e) answer = Err e

-- `leave`: what `unlink` refuses; else nothing is found.
abbrev pub leave_answer : ℕ → Maps → ℕ → Result (Option Parts) Refusal
leave_answer count m id = once_accepted (unlink_answer count m id) (Ok None)

-- An answer with a policy, as one with a policy that was found.
abbrev pub as_found : Result Parts Refusal → Result (Option Parts) Refusal
as_found (Ok p) = Ok (Some p)
as_found (Err e) = Err e

-- `pass_on`: what `unlink` refuses, then what `link` refuses; else the new link is found.
abbrev pub pass_on_answer : ℕ → Maps → ℕ → ℕ → SlotEnv → Result (Option Parts) Refusal
pass_on_answer count m id template values =
    once_accepted (unlink_answer count m id) (as_found (link_answer count (unlink_after count m id) template id values))

-- The maps after `pass_on`: as before where `unlink` refuses; else without the former link, and with the new one unless `link` refuses it.
abbrev pub pass_on_after : ℕ → Maps → ℕ → ℕ → SlotEnv → Maps
pass_on_after count m id template values = if_accepted (unlink_answer count m id) (link_after count (unlink_after count m id) template id values) m

-- Every other id names what it named.
abbrev pub OthersStay : Maps → Maps → ℕ → Type 0
OthersStay before after id = (k : ℕ) → (k ≢ id) → named after k ≡ named before k

-- The tenant has left: nothing is found under the id, which is free; the others have noticed nothing.
pub record Vacated (before after : Maps) (id : ℕ) (found : Option Parts) : Type 0 where
  pub nothing : found ≡ None
  pub free : bound after id ≡ false
  pub others : OthersStay before after id

-- A refused `leave` changes nothing.
abbrev pub Leaving : Maps → Maps → ℕ → Result (Option Parts) Refusal → Type 0
Leaving before after id answer = MatchResult answer (Vacated before after id) (λ e. after ≡ before)

-- The link of a template under an id with these values.
abbrev pub link_of_template : ℕ → SlotEnv → Template → Parts
link_of_template id values t = record { template = t; link = Some id; values = values }

-- The link of the template that an id names, if it names one.
abbrev pub link_under : Maps → ℕ → ℕ → SlotEnv → Option Parts
link_under m template id values = changed (link_of_template id values) (template_at m template)

-- The next tenant has come: what is found under the id is in force in the set, and is the link of the template as it stood,
-- with the next tenant's values alone; the others have noticed nothing.
pub record Taken (before after : Maps) (id template : ℕ) (values : SlotEnv) (found : Option Parts) : Type 0 where
  pub in_set : found ≡ in_force after id
  pub is_link : found ≡ link_under before template id values
  pub there : is_some found ≡ true
  pub others : OthersStay before after id

-- A refused `pass_on` has changed nothing, or the former tenant has left and the id is free.
pub record NotTaken (before after : Maps) (id : ℕ) : Type 0 where
  pub same_or_free : (after ≡ before) ⊎ (bound after id ≡ false)
  pub others : OthersStay before after id

-- What passing an id on does.
abbrev pub PassingOn : Maps → Maps → ℕ → ℕ → SlotEnv → Result (Option Parts) Refusal → Type 0
PassingOn before after id template values answer = MatchResult answer (Taken before after id template values) (λ e. NotTaken before after id)
