use Rattle.std.proofs.Common.{◌≡◌, ◌+◌, None, length}
use Rattle.bosh_yaml.specs.Content.{add_events, items_at}
use Rattle.bosh_yaml.proofs.content.take_line.Given as goal

-- the rest of the line stands behind the dashes so far
abbrev pub invariant-loop-b : goal.invariant-loop-b
invariant-loop-b l =
    (l.column + length l.rest ≡ length l.bytes) × (add_events l.events.items (items_at l.line l.owner l.column l.frames.items l.rest) ≡ add_events l.initial.events.items (items_at l.line None 0 l.initial.frames.items l.bytes))

abbrev pub decreases-loop-b : goal.decreases-loop-b
decreases-loop-b l = length l.rest
