use Rattle.std.proofs.Common.{◌≡◌, [], take}
use Rattle.std.specs.Prelude.{fold}
use Rattle.std.specs.List.{enumerate_from}
use Rattle.bosh_plan.specs.Grouping.{with_member}
use Rattle.bosh_plan.proofs.grouping.members.Given as goal

abbrev pub invariant-loop-place : goal.invariant-loop-place
invariant-loop-place l = l.groups.items ≡ fold (with_member l.changed) [] (take l.place (enumerate_from 0 l.changed))
