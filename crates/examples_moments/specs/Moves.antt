-- What may come next after the first moves of a history.
use Rattle.std.specs.Prelude.{ℕ, List, [], ◌∷◌}
use Rattle.bosh_base.specs.declared.entry.Entry.{Entry}
use Rattle.bosh_base.specs.declared.entry.Entry.TheVariants as entries
use Rattle.bosh_base.specs.declared.moves.Cause.TheVariants as causes
use Rattle.bosh_base.specs.declared.moves.Move.{Move}
use Rattle.bosh_base.specs.declared.moves.Move.TheVariants.{Note, Halt}
use Rattle.bosh_history.specs.Moments.{Moment}
use Rattle.bosh_history.specs.Permitted.{IsPermitted}
use Rattle.examples_histories.specs.Scenes.{Builder, History}
use Rattle.examples_histories.specs.Verdicts.{outside, after}

-- after so many moves of a history, counted on from a moment, the move is permitted
abbrev pub Permits : Moment → ℕ → History → Move → Type 0
Permits m k history move = (built : Builder) → IsPermitted (outside built) (after m k (history built)) move

abbrev pub Refuses : Moment → ℕ → History → Move → Type 0
Refuses m k history move = (built : Builder) → IsPermitted (outside built) (after m k (history built)) move → ⊥

-- .. or the note of an entry is
abbrev pub Notes : Moment → ℕ → History → Entry → Type 0
Notes m k history entry = Permits m k history (Note entry)

abbrev pub NeverNotes : Moment → ℕ → History → Entry → Type 0
NeverNotes m k history entry = Refuses m k history (Note entry)

-- nothing comes before
abbrev pub none : History
none built = []

-- the site halts, and one command is answered
abbrev pub halted : History
halted built = Halt causes.Stop ∷ []

abbrev pub release_of : List ℕ → List ℕ → Entry
release_of name version = entries.Release (record { name = name; version = version; jobs = []; packages = [] })

abbrev pub stemcell_of : List ℕ → List ℕ → Entry
stemcell_of os version = entries.Stemcell (record { os = os; version = version })
