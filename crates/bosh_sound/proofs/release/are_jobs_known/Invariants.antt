use Rattle.std.proofs.Common.{take}
use Rattle.bosh_sound.specs.Needs.{JobsKnow}
use Rattle.bosh_sound.specs.Places.{texts_of}
use Rattle.bosh_sound.proofs.release.are_jobs_known.Given as goal

-- those so far need only packages that are known
abbrev pub invariant-loop-job : goal.invariant-loop-job
invariant-loop-job l = JobsKnow (texts_of l.names) (take l.job-index l.jobs)
