use Rattle.std.proofs.Common.{sym}
use Rattle.bosh_fold.specs.Tasks.{sweep_cleared}
use Rattle.bosh_plan.proofs.FoldLemmas.{gone_on, same_item}
use Rattle.bosh_fold.proofs.closing.clear_machines.Goals as goal

pub loop-name-preserved : goal.loop-name-preserved
loop-name-preserved c =
    gone_on sweep_cleared c.args.machines.now.places.entries c.args.items.now c.loop-name.name-index _
    c.loop-name.machines.places.entries c.set_sweep.new.self.places.entries c.loop-name-test.true
    (sym (same_item c.args.items.now c.loop-name.name-index _)) c.loop-name.invariant c.set_sweep.ensures
