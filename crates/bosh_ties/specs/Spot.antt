-- Where a link stands.
use Rattle.bosh_base.specs.declared.link.Joint.{Joint}
use Rattle.bosh_ties.specs.declared.spot.Spot.{Spot}

abbrev pub spot_joint : Spot → Joint
spot_joint spot = record { dep = spot.dep.now; group = spot.group.now; job = spot.job.now; link = spot.link.now.name }
