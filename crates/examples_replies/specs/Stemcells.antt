-- A stemcell is noted.
use Rattle.std.specs.Prelude.{ℕ, List, [], ◌∷◌, codes}
use Rattle.bosh_base.specs.declared.moves.Move.TheVariants.{Note}
use Rattle.bosh_base.specs.declared.entry.Entry.TheVariants as entries
use Rattle.bosh_base.specs.declared.stemcell.Stemcell.{Stemcell}
use Rattle.examples_histories.specs.Scenes.{History}

abbrev pub jammy : List ℕ → Stemcell
jammy version = record { os = codes "jammy"; version = version }

abbrev pub noted : History
noted built = Note (entries.Stemcell (jammy (codes "1.2"))) ∷ []
