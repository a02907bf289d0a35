use Rattle.std.proofs.Common.{◌≡◌, ℕ, List, drop}
use Rattle.bosh_release_files.specs.Answer.{check_each}
use Rattle.bosh_release.specs.Draft.{check_job}
use Rattle.bosh_release.specs.Table.{IsTable}
use Rattle.bosh_release.proofs.needs.check_jobs.Given as goal

-- what is left to check decides
abbrev pub invariant-loop-job : goal.invariant-loop-job
invariant-loop-job l =
    (names : List (List ℕ)) → IsTable names l.table
    → check_each (check_job names) l.jobs ≡ check_each (check_job names) (drop l.job-index l.jobs)
