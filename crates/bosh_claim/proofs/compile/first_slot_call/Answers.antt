use Rattle.std.proofs.Common.{◌∙◌, sym}
use Rattle.bosh_claim.proofs.SlotLemmas.{below_found}
use Rattle.bosh_claim.proofs.compile.first_slot_call.Goals as goal

pub returns-in-Some : goal.returns-in-Some
returns-in-Some c =
    sym (below_found c.args.records.now c.args.work.now c.loop-slot.slot c.args.work.now.slots c.in-Some.call
    c.loop-slot-test.true c.loop-slot.invariant (sym c.in_ok-call.ensures ∙ c.in-Some.is))
