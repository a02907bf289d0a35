use Rattle.std.proofs.Common.{◌≡◌, ◌++◌, drop}
use Rattle.bosh_instances.specs.Machines.{net_addrs}
use Rattle.bosh_instances.proofs.machine.net_addrs.Given as goal

abbrev pub invariant-loop-place : goal.invariant-loop-place
invariant-loop-place l = net_addrs l.networks l.own ≡ l.addrs.items ++ net_addrs (drop l.place l.networks) (drop l.place l.own)
