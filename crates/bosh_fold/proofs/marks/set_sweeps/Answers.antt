use Rattle.std.proofs.Common.{◌∙◌, sym}
use Rattle.bosh_fold.specs.Tasks.{sweep_set}
use Rattle.bosh_plan.proofs.FoldLemmas.{all_done, counted_on, same_item}
use Rattle.bosh_fold.proofs.marks.set_sweeps.Goals as goal

pub loop-place-preserved : goal.loop-place-preserved
loop-place-preserved c =
    counted_on sweep_set c.args.machines.now.places.entries c.args.items.now c.loop-place.place _
    c.loop-place.machines.places.entries c.set_sweep.new.self.places.entries c.loop-place-test.true
    (sym (same_item c.args.items.now c.loop-place.place _)) c.loop-place.invariant c.set_sweep.ensures

pub returns : goal.returns
returns c =
    c.loop-place.invariant
    ∙ all_done sweep_set c.args.machines.now.places.entries c.args.items.now c.loop-place.place c.loop-place-test.false
