-- The words of lines on sets.
use Rattle.std.specs.Prelude.{ℕ, Bool, true, false, cond, List, Some, None, codes, Option}
use Rattle.std.specs.Option.{option_map}
use Rattle.std.specs.Str.{bytes_eq}
use Rattle.console.specs.declared.set_calls.Change.{Change}
use Rattle.console.specs.declared.set_calls.Change.TheVariants as change
use Rattle.console.specs.declared.set_calls.SetWord.{SetWord}
use Rattle.console.specs.declared.set_calls.SetWord.TheVariants as first
use Rattle.console.specs.declared.set_reads.Read.{Read}
use Rattle.console.specs.declared.set_reads.Read.TheVariants as read

-- How a line's first word changes a set.
abbrev pub change_word : List ℕ → Option Change
change_word head =
    cond (bytes_eq head (codes "template")) (Some change.Template)
    (cond (bytes_eq head (codes "static")) (Some change.Static)
    (cond (bytes_eq head (codes "add")) (Some change.Add)
    (cond (bytes_eq head (codes "link")) (Some change.Link)
    (cond (bytes_eq head (codes "unlink")) (Some change.Unlink)
    (cond (bytes_eq head (codes "remove_static")) (Some change.RemoveStatic)
    (cond (bytes_eq head (codes "remove_template")) (Some change.RemoveTemplate)
    (cond (bytes_eq head (codes "merge")) (Some change.Merge) None)))))))

-- What a line's first word reads.
abbrev pub read_word : List ℕ → Option Read
read_word head =
    cond (bytes_eq head (codes "policies")) (Some read.Policies)
    (cond (bytes_eq head (codes "static_policies")) (Some read.StaticPolicies)
    (cond (bytes_eq head (codes "templates")) (Some read.Templates)
    (cond (bytes_eq head (codes "links")) (Some read.Links)
    (cond (bytes_eq head (codes "filled")) (Some read.Filled)
    (cond (bytes_eq head (codes "validate")) (Some read.Validate)
    (cond (bytes_eq head (codes "dump")) (Some read.Dump) None))))))

-- What a word that is no change does with a set.
abbrev pub change_or : Option Change → Option Read → Option SetWord
change_or None other = option_map first.Read other
change_or (Some change) other = Some (first.Change change)

-- What a line's first word does with a set.
abbrev pub set_word : List ℕ → Option SetWord
set_word head = change_or (change_word head) (read_word head)

-- Whether a merge may rename.
abbrev pub renames : List ℕ → Option Bool
renames word = cond (bytes_eq word (codes "rename")) (Some true) (cond (bytes_eq word (codes "refuse")) (Some false) None)
