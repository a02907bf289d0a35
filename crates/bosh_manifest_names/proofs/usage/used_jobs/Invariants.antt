use Rattle.std.proofs.Common.{List, take}
use Rattle.bosh_base.specs.declared.release.Release.{Release}
use Rattle.bosh_manifest_names.specs.Answer.{Stands, each}
use Rattle.bosh_manifest_names.specs.Sources.{AreReleases}
use Rattle.bosh_manifest_names.specs.Uses.{used_job}
use Rattle.bosh_manifest_names.proofs.EachLemmas.{Are}
use Rattle.bosh_manifest_names.proofs.usage.used_jobs.Given as goal

abbrev pub invariant-loop-job : goal.invariant-loop-job
invariant-loop-job l =
    (releases : List Release) → AreReleases releases l.sources.releases
    → Stands Are (each (used_job releases) (take l.job-index l.asked)) l.jobs.items
