use Rattle.std.proofs.Common.{◌∙◌, ap, sym}
use Rattle.bosh_fold.specs.Anew.{deployment_read}
use Rattle.bosh_plan.proofs.FoldLemmas.{all_done, one_more}
use Rattle.bosh_fold.proofs.anew.note_deployments.Goals as goal

pub loop-place-preserved : goal.loop-place-preserved
loop-place-preserved c =
    let k = c.loop-place.place in
    let it = c.index-rows-place.result in
    c.in_ok-note_deployment.ensures
    ∙ ap (λ before. deployment_read before (k, it)) c.loop-place.invariant
    ∙ sym (one_more deployment_read c.args.deployments.now.places.entries c.args.rows.now k it c.loop-place-test.true c.index-rows-place.is)

pub returns : goal.returns
returns c =
    c.loop-place.invariant
    ∙ all_done deployment_read c.args.deployments.now.places.entries c.args.rows.now c.loop-place.place c.loop-place-test.false
