use Rattle.std.proofs.Common.{◌≡◌, take, map}
use Rattle.bosh_sound.specs.Places.{texts_of}
use Rattle.bosh_sound.proofs.names.job_names.Given as goal

-- the names so far
abbrev pub invariant-loop-job : goal.invariant-loop-job
invariant-loop-job l = texts_of l.names.items ≡ map (λ job. job.name) (take l.job-index l.jobs)
