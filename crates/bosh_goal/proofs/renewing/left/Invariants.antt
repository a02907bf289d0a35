use Rattle.std.proofs.Common.{◌≡◌, filter, take}
use Rattle.bosh_goal.specs.Anew.{is_left}
use Rattle.bosh_goal.proofs.renewing.left.Given as goal

abbrev pub invariant-loop-work : goal.invariant-loop-work
invariant-loop-work l = l.all.items ≡ filter (is_left l.compiled) (take l.work-index l.works)
