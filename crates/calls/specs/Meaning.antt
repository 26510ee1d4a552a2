-- What two sets and a name book mean.
use Rattle.names.specs.declared.kept.NameBook.{NameBook}
use Rattle.names.specs.Book.{texts}
use Rattle.policy_set.specs.declared.set.PolicySet.{PolicySet}
use Rattle.policy_set.specs.Meaning.{maps_of}
use Rattle.calls.specs.declared.call.Side.{Side}
use Rattle.calls.specs.declared.call.Side.TheVariants.{A, B}
use Rattle.calls.specs.declared.sets.Sets.{Sets}
use Rattle.calls.specs.Model.{State}

-- The maps of both sets and the texts of a name book.
abbrev pub state_of : Sets → NameBook → State
state_of s names = record { a = maps_of s.a; b = maps_of s.b; texts = texts names }

-- One of the sets.
abbrev pub set_at : Side → Sets → PolicySet
set_at A s = s.a
set_at B s = s.b
