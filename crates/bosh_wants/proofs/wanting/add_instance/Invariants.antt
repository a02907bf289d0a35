use Rattle.std.proofs.Common.{◌≡◌, ◌++◌, map, take}
use Rattle.bosh_wants.specs.Wants.{want_of}
use Rattle.bosh_wants.proofs.wanting.add_instance.Given as goal

abbrev pub invariant-loop-network : goal.invariant-loop-network
invariant-loop-network l =
    l.wants.items ≡ l.initial.wants.items ++ map (want_of l.dep l.rows l.group l.index) (take l.network-index l.networks)
