-- What is told along a history: what its entries tell, and the one that a stop kept.
use Rattle.std.specs.Prelude.{Option, Some, None}
use Rattle.bosh_base.specs.declared.entry.Entry.{Entry}
use Rattle.bosh_base.specs.declared.moves.Move.{Move}
use Rattle.bosh_base.specs.declared.moves.Move.TheVariants as moves
use Rattle.laws_stands.specs.Told.{Told, telling}

-- once a stop kept an entry, or none
abbrev pub told_kept : Told → Option Entry → Told
told_kept told (Some entry) = telling told entry
told_kept told None = told

-- once one more move was made
abbrev pub told_later : Told → Move → Told
told_later told (moves.Note entry) = telling told entry
told_later told (moves.Stop s) = told_kept told s.kept
told_later told move = told
