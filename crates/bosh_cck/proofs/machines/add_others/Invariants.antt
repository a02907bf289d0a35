use Rattle.std.proofs.Common.{◌≡◌, ◌++◌, take}
use Rattle.bosh_cck.specs.Problems.{others}
use Rattle.bosh_cck.specs.Tables.{seen}
use Rattle.bosh_cck.proofs.machines.add_others.Given as goal

abbrev pub invariant-loop-machine : goal.invariant-loop-machine
invariant-loop-machine l =
    l.problems.items ≡ l.fn.problems.items ++ others l.row (seen (take l.machine-index l.own))
