use Rattle.std.proofs.Common.{◌∙◌, ap, sym}
use Rattle.bosh_claim.specs.Updated.{with_claimable}
use Rattle.bosh_claim.proofs.GroupLemmas.{first_all, first_more}
use Rattle.bosh_claim.proofs.update.first_place.Goals as goal

pub loop-group-preserved : goal.loop-group-preserved
loop-group-preserved c =
    let k = c.loop-group.group in
    let it = c.index-groups-group.result in
    c.with_claimable-found.ensures
    ∙ ap (λ found. with_claimable c.args.stage found (k, it)) c.loop-group.invariant
    ∙ sym (first_more c.args.stage c.args.groups.now k it c.loop-group-test.true c.index-groups-group.is)

pub returns : goal.returns
returns c =
    c.loop-group.invariant ∙ first_all c.args.stage c.args.groups.now c.loop-group.group c.loop-group-test.false
