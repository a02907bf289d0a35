-- What the links of one more job give is what the list of links has in its place.
use Rattle.std.proofs.Common.{◌∙◌, List, ap, map, sym}
use Rattle.bosh_offers.specs.Tied.{job_links}
use Rattle.bosh_template.specs.Environment.{LinkEnv}
use Rattle.bosh_manifest_names.specs.Used.{UsedJob}
use Rattle.bosh_instances.proofs.MachineLemmas.{mapped-at}
use Rattle.bosh_instances.proofs.filed.filed_jobs.Goals as goal

pub filed-requires : goal.filed-requires
filed-requires c =
    let give : UsedJob → List LinkEnv = job_links c.args.scene.now.offered c.args.scene.now.dep c.args.used.now.group.name in
    c.as_slice.ensures.value
    ∙ mapped-at (λ links. links.items) give c.args.links.now c.jobs-job-items.result.now c.loop-place.place c.index-links-place.result c.job-item.result
    (c.requires ∙ ap (λ (jobs : List UsedJob). map give jobs) (sym c.jobs-job-items.ensures)) c.loop-place-test.true c.index-links-place.is c.job-item.is
