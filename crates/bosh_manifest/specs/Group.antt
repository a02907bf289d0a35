-- The instance groups of a deployment (bosh.io, "Deployment manifest": `instance_groups`, in this project's profile).
use Rattle.std.specs.Prelude.{ℕ, Bool, ◌||◌, List, Option, Result, Ok, codes}
use Rattle.bosh_yaml.specs.Tree.{Tree}
use Rattle.bosh_fields.specs.Answer.{◌>>=◌, both}
use Rattle.bosh_fields.specs.Distinct.{a_distinct_list}
use Rattle.bosh_fields.specs.Empty.{is_empty, nothing_at, unless_asked}
use Rattle.bosh_fields.specs.Field.{required, value_at}
use Rattle.bosh_fields.specs.Kind.{a_name}
use Rattle.bosh_fields.specs.List.{no_limit}
use Rattle.bosh_fields.specs.Number.{a_number}
use Rattle.bosh_fields.specs.declared.fault.FieldFault.{FieldFault}
use Rattle.bosh_manifest_parts.specs.Disk.{group_disk}
use Rattle.bosh_manifest_parts.specs.Job.{group_jobs}
use Rattle.bosh_manifest_parts.specs.Named.{some_items}
use Rattle.bosh_manifest_parts.specs.Network.{group_networks}
use Rattle.bosh_manifest_parts.specs.Unoffered.{is_text}
use Rattle.bosh_manifest_update.specs.Update.{group_update}
use Rattle.bosh_manifest_parts.specs.declared.disk.DiskUse.{DiskUse}
use Rattle.bosh_manifest_parts.specs.declared.job.JobUse.{JobUse}
use Rattle.bosh_manifest_parts.specs.declared.network.NetUse.{NetUse}
use Rattle.bosh_manifest_update.specs.declared.update.Update.{Update}
use Rattle.bosh_manifest.specs.declared.group.Common.{Common}
use Rattle.bosh_manifest.specs.declared.group.Group.{Group}

-- the availability zones, of which there is one at least and none stands twice
abbrev pub zones : Tree → Result (List (List ℕ)) FieldFault
zones t = do
  names ← required (a_distinct_list a_name (λ name _. Ok name) no_limit) (codes "azs") t
  some_items (codes "azs") names

-- the zones, the type of machines and the stemcell
abbrev pub place : Tree → Result (List (List ℕ) × (List ℕ × List ℕ)) FieldFault
place t = both (zones t) (both (required a_name (codes "vm_type") t) (required a_name (codes "stemcell") t))

-- the one life cycle that is offered
abbrev pub service : Tree → Result Bool FieldFault
service t =
    unless_asked (codes "lifecycle")
    (is_empty (value_at (codes "lifecycle") t) || is_text (codes "service") (value_at (codes "lifecycle") t))

-- a group asks for nothing that is not offered
abbrev pub offered : Tree → Result Bool FieldFault
offered t = do
  first ← service t
  second ← nothing_at (codes "migrated_from") t
  third ← nothing_at (codes "vm_extensions") t
  nothing_at (codes "vm_resources") t

-- the update rules, before what is not offered
abbrev pub update_of : Update → Tree → Result Update FieldFault
update_of common t = do
  update ← group_update common t
  nothing ← offered t
  Ok update

abbrev pub contents : Common → Tree → Result ((List NetUse × List JobUse) × (Option DiskUse × Update)) FieldFault
contents common t =
    both (both (group_networks t) (group_jobs common.name t)) (both (group_disk t) (update_of common.update t))

abbrev pub group_of :
    List ℕ → ℕ → List (List ℕ) × (List ℕ × List ℕ) → (List NetUse × List JobUse) × (Option DiskUse × Update) → Group
group_of name instances placed held = record {
  name = name;
  instances = instances;
  azs = placed.0;
  vm_type = placed.1.0;
  stemcell = placed.1.1;
  networks = held.0.0;
  jobs = held.0.1;
  disk = held.1.0;
  update = held.1.1;
}

-- a group of at most 256 instances
abbrev pub a_group : Common → List ℕ → Tree → Result Group FieldFault
a_group common name t = do
  instances ← required (a_number 0 256) (codes "instances") t
  placed ← place t
  held ← contents common t
  Ok (group_of name instances placed held)
