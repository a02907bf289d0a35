-- What a line adds to the events before it.
use Rattle.std.specs.Prelude.{ℕ, List, [], ◌∷◌, ◌++◌, Result, Ok}
use Rattle.bosh_yaml.specs.declared.event.Event.{Event}
use Rattle.bosh_yaml.specs.declared.fault.ReadFault.{ReadFault}
use Rattle.bosh_yaml.specs.declared.block.Frame.{Frame}
use Rattle.bosh_yaml.specs.declared.scan.Mode.{Mode}
use Rattle.bosh_yaml.specs.Events.{Scan, Scanned}
use Rattle.bosh_yaml.specs.Result.{◌>>=◌}

abbrev pub add_scanned : List Event → Result Scanned ReadFault → Result Scanned ReadFault
add_scanned events read = read >>= λ s. Ok (events ++ s.0, s.1)

abbrev pub add_event : List Event → Result Event ReadFault → Result (List Event) ReadFault
add_event events read = read >>= λ event. Ok (events ++ event ∷ [])

-- between two lines, where these frames are open, in this mode
abbrev pub scan_in : Mode → List Frame → List (List ℕ) → Scan
scan_in mode frames body = record { frames = frames; mode = mode; body = body }
