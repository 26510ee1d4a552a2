use Rattle.std.proofs.Common.{◌≡◌, length, vec_items}
use Rattle.std.specs.List.{slice_split}
use Rattle.names.specs.Book.{texts as texts_of}
use Rattle.names.specs.Book.{limits as limits_of}
use Rattle.console.specs.Actions.{is_comma}
use Rattle.console.specs.Reader.{each, entity}
use Rattle.console.proofs.EachRead.{Under}
use Rattle.console.proofs.reader.Reader.entities.Given as goal

-- The entities so far, and the parts that are left.
abbrev pub invariant-loop-part : goal.invariant-loop-part
invariant-loop-part l =
    (limits_of l.self.book ≡ limits_of l.fn.self.book)
    × Under (entity (limits_of l.fn.self.book)) (each (entity (limits_of l.fn.self.book)) (texts_of l.fn.self.book) (slice_split is_comma l.fn.word))
    (vec_items l.list) (texts_of l.self.book) (slice_split is_comma l.rest)

-- What is left gets shorter.
abbrev pub decreases-loop-part : goal.decreases-loop-part
decreases-loop-part l = length l.rest
