-- What is true of every checked manifest (this project's profile).
use Rattle.std.specs.Prelude.{◌≡◌, ◌≢◌, ℕ, ◌≤◌, false, List, [], ◌∷◌, Option, Some, All, count_by, length, map, sum_by}
use Rattle.bosh_base.specs.Plan.{is_listed}
use Rattle.bosh_base.specs.declared.count.Count.{Count}
use Rattle.bosh_base.specs.declared.count.Count.TheVariants.{Whole, Percent}
use Rattle.bosh_manifest_parts.specs.Network.{has_gateway}
use Rattle.bosh_manifest_parts.specs.declared.disk.DiskUse.{DiskUse}
use Rattle.bosh_manifest_parts.specs.declared.disk.DiskUse.TheVariants.{Size}
use Rattle.bosh_manifest_parts.specs.declared.job.JobUse.{JobUse}
use Rattle.bosh_manifest_parts.specs.declared.network.NetUse.{NetUse}
use Rattle.bosh_manifest_parts.specs.declared.source.ReleaseUse.{ReleaseUse}
use Rattle.bosh_manifest_parts.specs.declared.source.StemcellUse.{StemcellUse}
use Rattle.bosh_manifest_update.specs.declared.update.Update.{Update}
use Rattle.bosh_manifest.specs.Manifest.{instances_of}
use Rattle.bosh_manifest.specs.declared.group.Group.{Group}
use Rattle.bosh_manifest.specs.declared.manifest.Contents.{Contents}

-- none of the names is one of those before it
abbrev pub AreNew : List (List ℕ) → List (List ℕ) → Type 0
AreNew before [] = Unit {0}
AreNew before (name ∷ names) = (is_listed name before ≡ false) × AreNew (name ∷ before) names

-- no name stands twice
abbrev pub AreDistinct : List (List ℕ) → Type 0
AreDistinct names = AreNew [] names

abbrev pub release_name : ReleaseUse → List ℕ
release_name release = release.name

abbrev pub alias_of : StemcellUse → List ℕ
alias_of stemcell = stemcell.alias

abbrev pub network_name : NetUse → List ℕ
network_name network = network.net

abbrev pub job_name : JobUse → List ℕ
job_name job = job.name

abbrev pub group_name : Group → List ℕ
group_name group = group.name

-- no less than the least, or a share of the whole
abbrev pub IsAmount : ℕ → Count → Type 0
IsAmount least (Whole n) = least ≤ n
IsAmount least (Percent n) = n ≤ 100

pub record IsSoundUpdate (update : Update) : Type 0 where
  pub canaries : IsAmount 0 update.canaries
  pub limit : IsAmount 1 update.limit

-- a disk has a size
abbrev pub IsSoundDisk : Option DiskUse → Type 0
IsSoundDisk (Some (Size size)) = (1 ≤ size) × (size ≤ 16777216)
IsSoundDisk other = Unit {0}

pub record IsSoundGroup (group : Group) : Type 0 where
  pub instances : group.instances ≤ 256
  pub zones : AreDistinct group.azs
  pub some_zone : 1 ≤ length group.azs
  pub networks : AreDistinct (map network_name group.networks)
  pub few_networks : length group.networks ≤ 16
  pub one_gateway : count_by has_gateway group.networks ≡ 1
  pub jobs : AreDistinct (map job_name group.jobs)
  pub few_jobs : length group.jobs ≤ 64
  pub disk : IsSoundDisk group.disk
  pub update : IsSoundUpdate group.update

pub record IsSound (contents : Contents) : Type 0 where
  pub named : contents.name ≢ []
  pub releases : AreDistinct (map release_name contents.releases)
  pub stemcells : AreDistinct (map alias_of contents.stemcells)
  pub groups : AreDistinct (map group_name contents.groups)
  pub few_groups : length contents.groups ≤ 64
  pub each_group : All IsSoundGroup contents.groups
  pub few_instances : sum_by instances_of contents.groups ≤ 512
