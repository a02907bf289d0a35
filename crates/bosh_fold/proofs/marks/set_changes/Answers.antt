use Rattle.std.proofs.Common.{◌∙◌, ap, sym}
use Rattle.bosh_fold.specs.Tasks.{group_set, places_set}
use Rattle.bosh_plan.proofs.FoldLemmas.{all_done, one_more}
use Rattle.bosh_fold.proofs.marks.set_changes.Goals as goal

pub loop-group-preserved : goal.loop-group-preserved
loop-group-preserved c =
    let k = c.loop-group.group in
    let it = c.index-groups-group.result in
    let changed = c.args.changed.now in
    c.set_group.ensures
    ∙ ap (places_set changed k c.loop-group.instances.by_inst.entries) c.as_slice.ensures
    ∙ ap (λ before. group_set changed before (k, it)) c.loop-group.invariant
    ∙ sym (one_more (group_set changed) c.args.instances.now.by_inst.entries c.args.groups.now k it c.loop-group-test.true c.index-groups-group.is)

pub returns : goal.returns
returns c =
    c.loop-group.invariant
    ∙ all_done (group_set c.args.changed.now) c.args.instances.now.by_inst.entries c.args.groups.now c.loop-group.group c.loop-group-test.false
