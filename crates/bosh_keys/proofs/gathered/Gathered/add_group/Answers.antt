-- One more job.
use Rattle.std.proofs.Common.{subst}
use Rattle.bosh_base.specs.declared.stemcell.Stemcell.{Stemcell}
use Rattle.bosh_keys.specs.Once.{Adds}
use Rattle.bosh_keys.specs.Works.{job_keys, job_works}
use Rattle.bosh_keys.proofs.GatherLemmas.{Adds-flat}
use Rattle.bosh_keys.proofs.gathered.Gathered.add_group.Goals as goal

pub loop-used-preserved : goal.loop-used-preserved
loop-used-preserved c =
    let stemcell = c.args.group.now.stemcell in
    let used = c.used-item.result in
    Adds-flat (job_works stemcell) (job_keys stemcell) c.jobs-used-items.result.now c.loop-used.used-index used
    c.args.self.now c.loop-used.self c.add_job.new.self c.loop-used-test.true c.used-item.is c.loop-used.invariant
    (subst (λ (s : Stemcell). Adds (job_works s used) (job_keys s used) c.loop-used.self c.add_job.new.self) c.stemcell.ensures c.in_ok-add_job.ensures)
