use Rattle.std.proofs.Common.{◌≡◌, take}
use Rattle.bosh_claim.specs.Phase.{least_stage}
use Rattle.bosh_claim.proofs.phase.stage.Given as goal

abbrev pub invariant-loop-group : goal.invariant-loop-group
invariant-loop-group l = l.least ≡ least_stage (take l.group-index l.groups)
