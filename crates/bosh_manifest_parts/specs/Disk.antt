-- The persistent disk of each instance of a group (bosh.io, "Deployment manifest": `persistent_disk` and
-- `persistent_disk_type` of an instance group).
use Rattle.std.specs.Prelude.{ℕ, ◌==◌, List, Option, Some, None, Result, Ok, Err, codes, if◌then◌else◌}
use Rattle.bosh_yaml.specs.Tree.{Tree}
use Rattle.bosh_fields.specs.Answer.{◌>>=◌, both}
use Rattle.bosh_fields.specs.Field.{optional}
use Rattle.bosh_fields.specs.Kind.{a_name}
use Rattle.bosh_fields.specs.Number.{a_number}
use Rattle.bosh_fields.specs.declared.fault.FieldFault.{FieldFault}
use Rattle.bosh_fields.specs.declared.fault.FieldFault.TheVariants.{WrongKind}
use Rattle.bosh_manifest_parts.specs.declared.disk.DiskUse.{DiskUse}
use Rattle.bosh_manifest_parts.specs.declared.disk.DiskUse.TheVariants.{Size, Kind}

-- a size, of which 0 is none, or a type; not both
abbrev pub one_disk : Option ℕ → Option (List ℕ) → Result (Option DiskUse) FieldFault
one_disk None None = Ok None
one_disk None (Some kind) = Ok (Some (Kind kind))
one_disk (Some size) None = Ok (if size == 0 then None else Some (Size size))
one_disk (Some size) (Some kind) = Err (WrongKind (codes "persistent_disk"))

-- a size is in MB, up to 16 TB
abbrev pub group_disk : Tree → Result (Option DiskUse) FieldFault
group_disk t = do
  given ←
      both (optional (a_number 0 16777216) (codes "persistent_disk") t)
      (optional a_name (codes "persistent_disk_type") t)
  one_disk given.0 given.1
