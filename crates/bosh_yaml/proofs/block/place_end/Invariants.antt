use Rattle.std.proofs.Common.{◌≡◌, ◌++◌, length}
use Rattle.bosh_yaml.specs.Block.{place_end}
use Rattle.bosh_yaml.proofs.block.place_end.Given as goal

abbrev pub invariant-loop-frame : goal.invariant-loop-frame
invariant-loop-frame l = l.events.items ++ place_end l.frames.items ≡ l.initial.events.items ++ place_end l.initial.frames.items

abbrev pub decreases-loop-frame : goal.decreases-loop-frame
decreases-loop-frame l = length l.frames.items
