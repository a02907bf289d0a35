use Rattle.std.proofs.Common.{◌≡◌, map, take}
use Rattle.bosh_instances.specs.Rows.{filed}
use Rattle.bosh_instances.proofs.filed.filed_jobs.Given as goal

abbrev pub invariant-loop-place : goal.invariant-loop-place
invariant-loop-place l = l.jobs.items ≡ map (filed l.scene l.used.group.name) (take l.place l.used.jobs)
