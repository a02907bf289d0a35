-- What a group of a manifest uses.
use Rattle.std.specs.Prelude.{ℕ, List, Option}
use Rattle.bosh_base.specs.declared.disk_want.DiskWant.{DiskWant}
use Rattle.bosh_base.specs.declared.release.JobSpec.{JobSpec}
use Rattle.bosh_base.specs.declared.release.Release.{Release}
use Rattle.bosh_base.specs.declared.stemcell.Stemcell.{Stemcell}
use Rattle.bosh_manifest.specs.declared.group.Group.{Group}
use Rattle.bosh_manifest_parts.specs.declared.job.JobUse.{JobUse}

-- a job of a group, with what its release says of it
pub record UsedJob : Type 0 where
  pub job : JobUse
  pub release : Release
  pub spec : JobSpec

-- a group, with what it names
pub record UsedGroup : Type 0 where
  pub group : Group
  pub stemcell : Stemcell
  -- the cloud properties of its machines
  pub machine : List ℕ
  pub disk : Option DiskWant
  pub jobs : List UsedJob
