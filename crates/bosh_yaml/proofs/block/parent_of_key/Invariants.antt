use Rattle.std.proofs.Common.{◌≡◌, ℕ, List, length}
use Rattle.bosh_yaml.specs.Block.{after_events, place_key}
use Rattle.bosh_yaml.proofs.block.parent_of_key.Given as goal

-- what is left places the key, after the frames that were closed
abbrev pub invariant-loop-frame : goal.invariant-loop-frame
invariant-loop-frame l =
    (key : List ℕ) → after_events l.events.items (place_key l.line l.column key l.frames.items) ≡ after_events l.initial.events.items (place_key l.line l.column key l.initial.frames.items)

abbrev pub decreases-loop-frame : goal.decreases-loop-frame
decreases-loop-frame l = length l.frames.items
