-- What follows from what a dash or a key does at the innermost frame.
use Rattle.std.specs.Prelude.{ℕ, List, [], ◌∷◌, ◌++◌, Option, Some, None, Result, Ok}
use Rattle.bosh_yaml.specs.declared.block.Fit.{Fit}
use Rattle.bosh_yaml.specs.declared.block.Fit.TheVariants.{Begins, Continues, Fills, Closes, Refused}
use Rattle.bosh_yaml.specs.declared.block.Frame.{Frame}
use Rattle.bosh_yaml.specs.declared.block.Frame.TheVariants.{Item, Entry}
use Rattle.bosh_yaml.specs.declared.event.Event.{Event}
use Rattle.bosh_yaml.specs.declared.event.Event.TheVariants as event
use Rattle.bosh_yaml.specs.declared.fault.ReadFault.{ReadFault}
use Rattle.bosh_yaml.specs.Block.{after_events, closing, nothing, Placed, place_dash, place_key}
use Rattle.bosh_yaml.specs.Word.{syntax_fault}

-- a dash, before the other frames
abbrev pub placed_dash : ℕ → ℕ → Frame → List Frame → Fit → Result Placed ReadFault
placed_dash line column frame frames (Begins parent) = Ok (event.OpenList ∷ [], Item column ∷ parent ∷ frames)
placed_dash line column frame frames Continues = Ok ([], Item column ∷ frames)
placed_dash line column frame frames Fills = Ok (nothing ∷ [], Item column ∷ frames)
placed_dash line column frame frames Closes = after_events (closing frame) (place_dash line column frames)
placed_dash line column frame frames Refused = syntax_fault line

-- a key, of a mapping that begins inside of a frame, or of the one that is open
abbrev pub with_key : ℕ → ℕ → List ℕ → List Event → List Frame → Option Frame → Placed
with_key line column key events frames (Some parent) =
    (events ++ event.OpenMap ∷ event.Key line key ∷ [], Entry column ∷ parent ∷ frames)
with_key line column key events frames None = (events ++ event.Key line key ∷ [], Entry column ∷ frames)

-- a key, before the other frames
abbrev pub placed_key : ℕ → ℕ → List ℕ → Frame → List Frame → Fit → Result Placed ReadFault
placed_key line column key frame frames (Begins parent) = Ok (with_key line column key [] frames (Some parent))
placed_key line column key frame frames Continues = Ok (with_key line column key [] frames None)
placed_key line column key frame frames Fills = Ok (with_key line column key (nothing ∷ []) frames None)
placed_key line column key frame frames Closes = after_events (closing frame) (place_key line column key frames)
placed_key line column key frame frames Refused = syntax_fault line
