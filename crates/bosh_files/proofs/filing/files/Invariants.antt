use Rattle.bosh_files.specs.Files.{FiledJob, bytes_of, env_at, job_files}
use Rattle.bosh_files.proofs.TakenLemmas.{AreGathered}
use Rattle.bosh_files.proofs.filing.files.Given as goal

abbrev pub invariant-loop-job : goal.invariant-loop-job
invariant-loop-job l =
    AreGathered (λ (job : FiledJob). job_files job.name (env_at l.index l.fn.az l.addr job.env) job.templates) bytes_of l.jobs l.job-index
    l.initial.budget l.budget l.initial.placed.items l.placed.items
