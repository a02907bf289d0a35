use Rattle.std.proofs.Common.{◌+◌, ◌-◌, ◌*◌, ◌≤◌}
use Rattle.bosh_ports.proofs.folder.walk_from.Given as goal

abbrev pub invariant-loop-next : goal.invariant-loop-next
invariant-loop-next g l = l.walk.met ≤ 4096

-- each folder that is met may add itself once, and each turn takes one away
abbrev pub decreases-loop-next : goal.decreases-loop-next
decreases-loop-next g l = l.walk.pending + 2 * (4096 - l.walk.met)
