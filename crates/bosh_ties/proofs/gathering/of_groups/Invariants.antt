use Rattle.std.proofs.Common.{◌≡◌, take}
use Rattle.bosh_ties.specs.Links.{of_groups}
use Rattle.bosh_ties.proofs.gathering.of_groups.Given as goal

abbrev pub invariant-loop-group : goal.invariant-loop-group
invariant-loop-group g l = l.items.items ≡ of_groups g.T.OfJob.of_job l.dep (take l.group-index l.groups)
