use Rattle.std.proofs.Common.{◌≡◌, take}
use Rattle.std.specs.Prelude.{fold}
use Rattle.bosh_fold.specs.Tasks.{leaving_cleared}
use Rattle.bosh_fold.proofs.closing.clear_leavings.Given as goal

abbrev pub invariant-loop-inst : goal.invariant-loop-inst
invariant-loop-inst l = l.instances.by_inst.entries ≡ fold leaving_cleared l.initial.instances.by_inst.entries (take l.inst-index l.items)
