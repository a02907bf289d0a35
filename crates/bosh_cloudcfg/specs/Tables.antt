-- The tables of a cloud config, read in their order (bosh.io, "Cloud config", in this project's profile).
use Rattle.std.specs.Prelude.{ℕ, List, [], Result, Ok, codes, unwrap_or}
use Rattle.bosh_yaml.specs.Tree.{Tree}
use Rattle.bosh_fields.specs.Answer.{◌>>=◌, both}
use Rattle.bosh_fields.specs.Distinct.{a_distinct_list, name_in}
use Rattle.bosh_fields.specs.Field.{optional, required}
use Rattle.bosh_fields.specs.Kind.{Kind, a_mapping, a_name}
use Rattle.bosh_fields.specs.Number.{a_number}
use Rattle.bosh_fields.specs.declared.fault.FieldFault.{FieldFault}
use Rattle.bosh_cloudcfg.specs.declared.config.Compilation.{Compilation}
use Rattle.bosh_cloudcfg.specs.declared.config.DiskKind.{DiskKind}
use Rattle.bosh_cloudcfg.specs.declared.config.VmKind.{VmKind}
use Rattle.bosh_cloudcfg.specs.declared.items.Zone.{Zone}
use Rattle.bosh_cloudcfg.specs.declared.tables.Tables.{Tables}
use Rattle.bosh_cloudcfg.specs.Properties.{properties}
use Rattle.bosh_cloudcfg.specs.Subnet.{a_network}

-- a list of mappings, each with a name that none before it has
abbrev pub a_named_list : {A : Type 0} → (List ℕ → Tree → Result A FieldFault) → ℕ → Kind (List A)
a_named_list item most = a_distinct_list (name_in (codes "name")) item most

abbrev pub a_zone : List ℕ → Tree → Result Zone FieldFault
a_zone name t = Ok (record { name = name })

abbrev pub a_vm_kind : List ℕ → Tree → Result VmKind FieldFault
a_vm_kind name t = Ok (record { name = name; properties = properties t })

-- a size is in MB, up to 16 TB
abbrev pub a_disk_kind : List ℕ → Tree → Result DiskKind FieldFault
a_disk_kind name t = do
  size ← required (a_number 1 16777216) (codes "disk_size") t
  Ok (record { name = name; want = record { size = size; properties = properties t } })

-- the zone, the type of machines and the network
abbrev pub places : Tree → Result (List ℕ × (List ℕ × List ℕ)) FieldFault
places t =
    both (required a_name (codes "az") t)
    (both (required a_name (codes "vm_type") t) (required a_name (codes "network") t))

abbrev pub a_compilation : Kind Compilation
a_compilation key t = do
  given ← a_mapping key t
  workers ← required (a_number 1 64) (codes "workers") given
  names ← places given
  Ok (record { workers = workers; az = names.0; vm_type = names.1.0; network = names.1.1 })

-- the types of disks, of which there may be none
abbrev pub disk_types : Tree → Result (List DiskKind) FieldFault
disk_types t = do
  found ← optional (a_named_list a_disk_kind 64) (codes "disk_types") t
  Ok (unwrap_or found [])

-- the types of machines and of disks, and where packages are compiled
abbrev pub kinds : Tree → Result ((List VmKind × List DiskKind) × Compilation) FieldFault
kinds t =
    both (both (required (a_named_list a_vm_kind 64) (codes "vm_types") t) (disk_types t))
    (required a_compilation (codes "compilation") t)

abbrev pub tables : Tree → Result Tables FieldFault
tables t = do
  zoned ←
      both (required (a_named_list a_zone 64) (codes "azs") t) (required (a_named_list a_network 16) (codes "networks") t)
  others ← kinds t
  Ok (record {
    azs = zoned.0;
    networks = zoned.1;
    vm_types = others.0.0;
    disk_types = others.0.1;
    compilation = others.1;
  })
