-- What a manifest uses, each by its name, or the first name that is not known (bosh.io, "Deployment manifest":
-- `releases`, `stemcells`, `instance_groups`; "Cloud config").
use Rattle.std.specs.Prelude.{ℕ, Bool, true, not, List, Option, Some, None, Result, Ok, Err, codes, find, map, option_map}
use Rattle.std.specs.Str.{bytes_eq}
use Rattle.bosh_base.specs.Plan.{is_listed}
use Rattle.bosh_base.specs.declared.disk_want.DiskWant.{DiskWant}
use Rattle.bosh_base.specs.declared.release.JobSpec.{JobSpec}
use Rattle.bosh_base.specs.declared.release.Release.{Release}
use Rattle.bosh_base.specs.declared.stemcell.Stemcell.{Stemcell}
use Rattle.bosh_cloudcfg.specs.declared.config.Config.{Config}
use Rattle.bosh_cloudcfg.specs.declared.config.DiskKind.{DiskKind}
use Rattle.bosh_cloudcfg.specs.declared.config.VmKind.{VmKind}
use Rattle.bosh_manifest.specs.declared.group.Group.{Group}
use Rattle.bosh_manifest.specs.declared.manifest.Contents.{Contents}
use Rattle.bosh_manifest_parts.specs.declared.disk.DiskUse.{DiskUse}
use Rattle.bosh_manifest_parts.specs.declared.disk.DiskUse.TheVariants as disk_use
use Rattle.bosh_manifest_parts.specs.declared.job.JobUse.{JobUse}
use Rattle.bosh_manifest_parts.specs.declared.network.NetUse.{NetUse}
use Rattle.bosh_manifest_parts.specs.declared.source.ReleaseUse.{ReleaseUse}
use Rattle.bosh_manifest_parts.specs.declared.source.StemcellUse.{StemcellUse}
use Rattle.bosh_manifest_names.specs.Answer.{◌>>=◌, each, or_fault}
use Rattle.bosh_manifest_names.specs.Edition.{edition}
use Rattle.bosh_lookup.specs.Table.{first_named}
use Rattle.bosh_manifest_names.specs.Used.{UsedGroup, UsedJob}
use Rattle.bosh_manifest_names.specs.declared.fault.GoalFault.{GoalFault}
use Rattle.bosh_manifest_names.specs.declared.fault.GoalFault.TheVariants.{Unknown}
use Rattle.bosh_manifest_names.specs.declared.fault.Kind.{Kind}
use Rattle.bosh_manifest_names.specs.declared.fault.Kind.TheVariants as kinds

-- what a name stands for
abbrev pub or_unknown : {A : Type 0} → Kind → List ℕ → Option A → Result A GoalFault
or_unknown kind name = or_fault (Unknown kind name)

abbrev pub none_unknown : Kind → Option (List ℕ) → Result Bool GoalFault
none_unknown kind None = Ok true
none_unknown kind (Some name) = Err (Unknown kind name)

-- each name is one of those, or else the first that is none is not known
abbrev pub all_known : Kind → List (List ℕ) → List (List ℕ) → Result Bool GoalFault
all_known kind names asked = none_unknown kind (find (λ name. not (is_listed name names)) asked)

-- ---- releases and stemcells

abbrev pub release_name : Release → List ℕ
release_name release = release.name

abbrev pub release_version : Release → List ℕ
release_version release = release.version

abbrev pub stemcell_os : Stemcell → List ℕ
stemcell_os stemcell = stemcell.os

abbrev pub stemcell_version : Stemcell → List ℕ
stemcell_version stemcell = stemcell.version

abbrev pub used_release : List Release → ReleaseUse → Result Release GoalFault
used_release releases asked =
    or_unknown kinds.Release asked.name (edition release_name release_version releases asked.name asked.version)

abbrev pub stemcell_for : List Stemcell → StemcellUse → Result Stemcell GoalFault
stemcell_for stemcells asked =
    or_unknown kinds.Stemcell asked.os (edition stemcell_os stemcell_version stemcells asked.os asked.version)

-- a stemcell, by its alias
abbrev pub used_stemcell : List Stemcell → StemcellUse → Result (List ℕ × Stemcell) GoalFault
used_stemcell stemcells asked = do
  stemcell ← stemcell_for stemcells asked
  Ok (asked.alias, stemcell)

-- the releases, then the stemcells
abbrev pub sources :
    List Release → List Stemcell → List ReleaseUse → List StemcellUse
    → Result (List Release × List (List ℕ × Stemcell)) GoalFault
sources releases stemcells asked_releases asked_stemcells = do
  used_releases ← each (used_release releases) asked_releases
  used_stemcells ← each (used_stemcell stemcells) asked_stemcells
  Ok (used_releases, used_stemcells)

-- ---- groups

abbrev pub net_name : NetUse → List ℕ
net_name network = network.net

abbrev pub machine_name : VmKind → List ℕ
machine_name machine = machine.name

abbrev pub machine_properties : VmKind → List ℕ
machine_properties machine = machine.properties

-- the cloud properties of a type of machines
abbrev pub used_machine : Config → List ℕ → Result (List ℕ) GoalFault
used_machine config name =
    or_unknown kinds.VmType name (option_map machine_properties (first_named machine_name config.vm_types name))

abbrev pub disk_name : DiskKind → List ℕ
disk_name disk = disk.name

abbrev pub disk_want : DiskKind → DiskWant
disk_want disk = disk.want

abbrev pub disk_of_type : Config → List ℕ → Result DiskWant GoalFault
disk_of_type config name =
    or_unknown kinds.DiskType name (option_map disk_want (first_named disk_name config.disk_types name))

-- no cloud properties
abbrev pub no_properties : List ℕ
no_properties = codes "null"

abbrev pub used_disk : Config → Option DiskUse → Result (Option DiskWant) GoalFault
used_disk config None = Ok None
used_disk config (Some (disk_use.Size size)) = Ok (Some (record { size = size; properties = no_properties }))
used_disk config (Some (disk_use.Kind name)) = do
  want ← disk_of_type config name
  Ok (Some want)

abbrev pub job_name : JobSpec → List ℕ
job_name job = job.name

-- the stemcell of an alias
abbrev pub stemcell_of_alias : List (List ℕ × Stemcell) → List ℕ → Option Stemcell
stemcell_of_alias stemcells alias = option_map (λ s. s.1) (find (λ s. bytes_eq s.0 alias) stemcells)

-- a job, whose release is among those that the manifest lists
abbrev pub used_job : List Release → JobUse → Result UsedJob GoalFault
used_job releases asked = do
  release ← or_unknown kinds.Release asked.release (first_named release_name releases asked.release)
  spec ← or_unknown kinds.Job asked.name (first_named job_name release.jobs asked.name)
  Ok (record { job = asked; release = release; spec = spec })

-- an alias that is none of the manifest's is what is not known
abbrev pub used_group : Config → List Release → List (List ℕ × Stemcell) → Group → Result UsedGroup GoalFault
used_group config releases stemcells group = do
  zones ← all_known kinds.Az config.azs group.azs
  machine ← used_machine config group.vm_type
  stemcell ← or_unknown kinds.Stemcell group.stemcell (stemcell_of_alias stemcells group.stemcell)
  networks ← all_known kinds.Network config.networks (map net_name group.networks)
  disk ← used_disk config group.disk
  jobs ← each (used_job releases) group.jobs
  Ok (record { group = group; stemcell = stemcell; machine = machine; disk = disk; jobs = jobs })

-- the releases and stemcells, then the groups
abbrev pub uses : Contents → Config → List Release → List Stemcell → Result (List UsedGroup) GoalFault
uses manifest config releases stemcells = do
  used ← sources releases stemcells manifest.releases manifest.stemcells
  each (used_group config used.0 used.1) manifest.groups
