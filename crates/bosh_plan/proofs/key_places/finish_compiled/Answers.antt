use Rattle.std.proofs.Common.{◌∙◌, ap, sym}
use Rattle.bosh_plan.specs.WorkBy.{with_key}
use Rattle.bosh_plan.proofs.FoldLemmas.{all_done, one_more}
use Rattle.bosh_plan.proofs.key_places.finish_compiled.Goals as goal

pub loop-place-preserved : goal.loop-place-preserved
loop-place-preserved c =
    let k = c.loop-place.place in
    let it = c.index-works-place.result in
    c.finish_where_compiled.ensures
    ∙ ap (λ before. with_key c.args.keys.now before (k, it)) c.loop-place.invariant
    ∙ sym (one_more (with_key c.args.keys.now) c.args.line.now c.args.works.now k it c.loop-place-test.true c.index-works-place.is)

pub returns : goal.returns
returns c =
    c.loop-place.invariant
    ∙ all_done (with_key c.args.keys.now) c.args.line.now c.args.works.now c.loop-place.place c.loop-place-test.false
