-- The manifest of a deployment, key by key (bosh.io, "Deployment manifest", in this project's profile).
use Rattle.std.specs.Prelude.{ℕ, Bool, List, Result, Ok, Err, codes, nat_le, sum_by, if◌then◌else◌}
use Rattle.bosh_yaml.specs.Tree.{Tree}
use Rattle.bosh_fields.specs.Answer.{◌>>=◌}
use Rattle.bosh_fields.specs.Empty.{nothing_at}
use Rattle.bosh_fields.specs.Field.{required}
use Rattle.bosh_fields.specs.declared.fault.FieldFault.{FieldFault}
use Rattle.bosh_fields.specs.declared.fault.FieldFault.TheVariants.{Limit}
use Rattle.bosh_manifest_parts.specs.Named.{a_named_list}
use Rattle.bosh_manifest_parts.specs.Source.{sources}
use Rattle.bosh_manifest_update.specs.Update.{an_update}
use Rattle.bosh_manifest.specs.declared.group.Common.{Common}
use Rattle.bosh_manifest.specs.declared.group.Group.{Group}
use Rattle.bosh_manifest.specs.declared.manifest.Contents.{Contents}
use Rattle.bosh_manifest.specs.Group.{a_group}

-- a deployment asks for nothing that is not offered
abbrev pub offered : Tree → Result Bool FieldFault
offered t = do
  first ← nothing_at (codes "variables") t
  second ← nothing_at (codes "addons") t
  nothing_at (codes "properties") t

abbrev pub instances_of : Group → ℕ
instances_of group = group.instances

-- at most 512 instances in all
abbrev pub few_instances : List Group → Result (List Group) FieldFault
few_instances groups =
    if nat_le (sum_by instances_of groups) 512 then Ok groups else Err (Limit (codes "instances"))

-- at most 64 groups
unfoldable pub all_groups : Common → Tree → Result (List Group) FieldFault
all_groups common t = required (a_named_list (a_group common) 64) (codes "instance_groups") t

-- the groups, before what is not offered and how many instances there are
abbrev pub offered_groups : Common → Tree → Result (List Group) FieldFault
offered_groups common t = do
  read ← all_groups common t
  nothing ← offered t
  few_instances read

-- the groups, each with the update rules of the deployment for those that it does not give
abbrev pub groups : List ℕ → Tree → Result (List Group) FieldFault
groups name t = do
  update ← required an_update (codes "update") t
  offered_groups (record { name = name; update = update }) t

-- what follows the name
abbrev pub a_manifest : List ℕ → Tree → Result Contents FieldFault
a_manifest name t = do
  used ← sources t
  read ← groups name t
  Ok (record { name = name; releases = used.0; stemcells = used.1; groups = read })
