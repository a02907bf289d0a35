use Rattle.std.proofs.Common.{◌≡◌, ◌++◌, take}
use Rattle.std.specs.List.{flat_map}
use Rattle.bosh_ties.proofs.gathering.add_of_group.Given as goal

abbrev pub invariant-loop-job : goal.invariant-loop-job
invariant-loop-job g l =
    l.items.items ≡ l.initial.items.items ++ flat_map (g.T.OfJob.of_job l.dep l.group.group.name) (take l.job-index l.group.jobs)
