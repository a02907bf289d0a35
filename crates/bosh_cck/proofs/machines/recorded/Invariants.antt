use Rattle.std.proofs.Common.{◌≡◌, ◌==◌, drop, find}
use Rattle.bosh_cck.specs.Tables.{seen}
use Rattle.bosh_cck.proofs.machines.recorded.Given as goal

abbrev pub invariant-loop-machine : goal.invariant-loop-machine
invariant-loop-machine l =
    find (λ it. it.vm == l.vm.vm) (seen l.own) ≡ find (λ it. it.vm == l.vm.vm) (seen (drop l.machine-index l.own))
