use Rattle.std.proofs.Common.{◌≡◌, map, take}
use Rattle.bosh_shown.specs.Releases.{job_mark}
use Rattle.bosh_shown.proofs.releases.job_marks.Given as goal

-- those so far
abbrev pub invariant-loop-job : goal.invariant-loop-job
invariant-loop-job l = l.marks.items ≡ map job_mark (take l.job-index l.jobs)
