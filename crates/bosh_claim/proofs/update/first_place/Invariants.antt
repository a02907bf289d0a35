use Rattle.std.proofs.Common.{◌≡◌, None, take}
use Rattle.std.specs.Prelude.{fold}
use Rattle.std.specs.List.{enumerate_from}
use Rattle.bosh_claim.specs.Updated.{with_claimable}
use Rattle.bosh_claim.proofs.update.first_place.Given as goal

abbrev pub invariant-loop-group : goal.invariant-loop-group
invariant-loop-group l = l.found ≡ fold (with_claimable l.stage) None (take l.group (enumerate_from 0 l.groups))
