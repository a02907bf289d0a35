use Rattle.std.proofs.Common.{◌≡◌, None}
use Rattle.bosh_claim.specs.Slot.{call_below}
use Rattle.bosh_claim.proofs.compile.first_slot_call.Given as goal

abbrev pub invariant-loop-slot : goal.invariant-loop-slot
invariant-loop-slot l = call_below l.records l.work l.slot ≡ None
