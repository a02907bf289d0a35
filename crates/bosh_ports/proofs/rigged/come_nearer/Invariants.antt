use Rattle.std.proofs.Common.{◌≡◌, ◌++◌, take, drop, map}
use Rattle.bosh_ports.specs.Rigged.{nearer}
use Rattle.bosh_ports.proofs.rigged.come_nearer.Given as goal

abbrev pub invariant-loop-rig : goal.invariant-loop-rig
invariant-loop-rig l = l.rig-items ≡ map nearer (take l.rig-index l.initial.rig-items) ++ drop l.rig-index l.initial.rig-items
