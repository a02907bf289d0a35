use Rattle.std.proofs.Common.{◌≡◌, drop}
use Rattle.bosh_release_files.proofs.EachLemmas.{following}
use Rattle.bosh_release_files.specs.Answer.{each}
use Rattle.bosh_release.specs.Draft.{job_of}
use Rattle.bosh_release.proofs.draft.each_job.Given as goal

-- the jobs so far, and those of the other names, are those of all names
abbrev pub invariant-loop-name : goal.invariant-loop-name
invariant-loop-name l =
    each (job_of l.folder) l.names ≡ following l.jobs.items (each (job_of l.folder) (drop l.name-index l.names))
