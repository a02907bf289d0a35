use Rattle.std.proofs.Common.{◌≡◌, ◌++◌, take, drop, map}
use Rattle.bosh_traps.specs.Traps.{trap_after}
use Rattle.bosh_traps.proofs.trap.see_all.Given as goal

abbrev pub invariant-loop-trap : goal.invariant-loop-trap
invariant-loop-trap l =
    l.trap-items ≡ map (trap_after l.method l.owner) (take l.trap-index l.initial.trap-items)
    ++ drop l.trap-index l.initial.trap-items
