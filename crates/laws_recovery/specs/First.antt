-- What is told before the first entry.
use Rattle.std.specs.Prelude.{None}
use Rattle.bosh_history.specs.Known.{nothing_known}
use Rattle.laws_stands.specs.Told.{Told}

abbrev pub told_first : Told
told_first = record { known = nothing_known; calls = λ n. None; snapped = 0 }
