use Rattle.std.proofs.Common.{take}
use Rattle.std.specs.List.{flat_map}
use Rattle.bosh_keys.specs.Once.{Adds}
use Rattle.bosh_keys.specs.Works.{job_keys, job_works}
use Rattle.bosh_keys.proofs.gathered.Gathered.add_group.Given as goal

abbrev pub invariant-loop-used : goal.invariant-loop-used
invariant-loop-used l =
    Adds (flat_map (job_works l.group.stemcell) (take l.used-index l.used-items)) (flat_map (job_keys l.group.stemcell) (take l.used-index l.used-items))
    l.fn.self l.self
