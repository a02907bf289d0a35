use Rattle.std.proofs.Common.{◌≡◌, map, take}
use Rattle.bosh_instances.specs.Applied.{job_mark}
use Rattle.bosh_instances.proofs.applied.job_marks.Given as goal

abbrev pub invariant-loop-used : goal.invariant-loop-used
invariant-loop-used l = l.marks.items ≡ map job_mark (take l.used-index l.jobs)
