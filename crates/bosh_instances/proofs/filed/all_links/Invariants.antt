use Rattle.std.proofs.Common.{◌≡◌, map, take}
use Rattle.bosh_offers.specs.Tied.{job_links}
use Rattle.bosh_instances.proofs.filed.all_links.Given as goal

abbrev pub invariant-loop-job : goal.invariant-loop-job
invariant-loop-job l =
    map (λ links. links.items) l.all.items
    ≡ map (job_links l.scene.offered l.scene.dep l.used.group.name) (take l.job-index l.used.jobs)
