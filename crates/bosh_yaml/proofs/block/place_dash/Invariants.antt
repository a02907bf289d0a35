use Rattle.std.proofs.Common.{◌≡◌, length}
use Rattle.bosh_yaml.specs.Block.{after_events, place_dash}
use Rattle.bosh_yaml.proofs.block.place_dash.Given as goal

-- what is left places it, after the frames that were closed
abbrev pub invariant-loop-frame : goal.invariant-loop-frame
invariant-loop-frame l =
    after_events l.events.items (place_dash l.line l.column l.frames.items) ≡ after_events l.initial.events.items (place_dash l.line l.column l.initial.frames.items)

abbrev pub decreases-loop-frame : goal.decreases-loop-frame
decreases-loop-frame l = length l.frames.items
