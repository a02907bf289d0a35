use Rattle.std.proofs.Common.{◌≡◌, ◌++◌, take, drop, map}
use Rattle.bosh_calls.specs.Calls.{performed}
use Rattle.bosh_calls.proofs.calls.perform_in.Given as goal

abbrev pub invariant-loop-call : goal.invariant-loop-call
invariant-loop-call l =
    l.call-items ≡ map (performed l.n l.place) (take l.call-index l.initial.call-items) ++ drop l.call-index l.initial.call-items
