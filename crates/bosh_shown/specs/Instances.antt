-- How instances are listed (bosh.io, "CLI v2", instances).
use Rattle.std.specs.Prelude.{ℕ, Bool, true, false, List, [], ◌∷◌, ◌++◌, Option, Some, None, find, map, option_map}
use Rattle.std.specs.Prelude.{is_none, is_some, if◌then◌else◌}
use Rattle.std.specs.Option.{option_map_or, option_to_list}
use Rattle.std.specs.Str.{bytes_eq}
use Rattle.bosh_base.specs.declared.addr.Addr.{Addr}
use Rattle.bosh_base.specs.declared.inst.Inst.{Inst}
use Rattle.bosh_base.specs.declared.make.Make.{Make}
use Rattle.bosh_base.specs.declared.reply.InstanceLine.{InstanceLine}
use Rattle.bosh_base.specs.declared.reply.Shown.{Shown}
use Rattle.bosh_base.specs.declared.reply.Shown.TheVariants as states
use Rattle.bosh_base.specs.declared.row.DiskRow.{DiskRow}
use Rattle.bosh_base.specs.declared.row.Role.{Role}
use Rattle.bosh_base.specs.declared.row.Role.TheVariants.{Active}
use Rattle.bosh_base.specs.declared.row.Row.{Row}
use Rattle.bosh_records.specs.declared.instances.Instance.{Instance}

-- the first that holds: a call is in doubt, there is no machine, it runs, it is stopped
abbrev pub shown : Row → Shown
shown row =
    if is_some row.doubt then states.Doubt
    else if is_none row.vm then states.Absent
    else if row.running then states.Running else states.Stopped

abbrev pub is_active : Role → Bool
is_active Active = true
is_active role = false

-- the disk that holds the contents
abbrev pub active : List DiskRow → Option ℕ
active disks = option_map (λ it. it.disk) (find (λ it. is_active it.role) disks)

-- the group, and the zone and the addresses that its machine was made with
abbrev pub placed : List ℕ → Option Make → List ℕ × Option (List ℕ) × List Addr
placed group (Some make) = (group, Some make.az, map (λ net. net.addr) make.nets)
placed group None = (group, None, [])

abbrev pub instance_line : Row → InstanceLine
instance_line row = record {
  group = row.inst.group;
  index = row.inst.index;
  state = shown row;
  az = option_map (λ make. make.az) row.make;
  addrs = option_map_or (λ make. map (λ net. net.addr) make.nets) row.make [];
  vm = option_map (λ vm. vm.vm) row.vm;
  disk = active row.disks;
}

-- what is recorded of an instance, where it is one of the deployment
abbrev pub row_in : List ℕ → Inst × Instance → Option Row
row_in dep it = if bytes_eq it.0.dep dep then it.1.row else None

-- the lines of the recorded instances of a deployment
abbrev pub instance_lines : List ℕ → List (Inst × Instance) → List InstanceLine
instance_lines dep [] = []
instance_lines dep (it ∷ others) = option_to_list (option_map instance_line (row_in dep it)) ++ instance_lines dep others
