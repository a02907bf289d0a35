-- How recorded instances are spelled.
use Rattle.std.specs.Prelude.{ℕ, Bool, true, false, not, List, ◌&&◌, [], ◌∷◌, ◌++◌}
use Rattle.bosh_base.specs.declared.row.Role.{Role}
use Rattle.bosh_base.specs.declared.row.Role.TheVariants.{Active, New, Old}
use Rattle.bosh_base.specs.declared.row.DiskRow.{DiskRow}
use Rattle.bosh_base.specs.declared.row.Vm.{Vm}
use Rattle.bosh_base.specs.declared.row.Doubt.{Doubt}
use Rattle.bosh_base.specs.declared.row.Row.{Row}
use Rattle.bosh_entry.specs.declared.format.Format.{Format}
use Rattle.bosh_entry.specs.Reading.{Reader, making, one_of_at, ◌with◌}
use Rattle.bosh_entry.specs.Number.{number, is_number, number_at}
use Rattle.bosh_entry.specs.Choice.{flag, is_flag, flag_at, option, is_option, option_at}
use Rattle.bosh_entry.specs.List.{list, is_list, list_at}
use Rattle.bosh_entry.specs.Later.{later, is_later, later_at}
use Rattle.bosh_entry.specs.Inst.{inst, is_inst, inst_at}
use Rattle.bosh_entry.specs.DiskWant.{disk_want, is_disk_want, disk_want_at}
use Rattle.bosh_entry.specs.Make.{make, is_make, make_at}
use Rattle.bosh_entry.specs.Spec.{spec, is_spec, spec_at}
use Rattle.bosh_entry.specs.Call.{call, is_call, call_at}

-- what a disk is to its instance
unfoldable pub role : Role → List ℕ
role Active = 0 ∷ []
role New = 1 ∷ []
role Old = 2 ∷ []

unfoldable pub is_role : Role → Bool
is_role x = true

abbrev pub roles : List (Reader Role)
roles =
    making Active
    ∷ making New
    ∷ making Old
    ∷ []

unfoldable pub role_at : Reader Role
role_at = one_of_at roles

-- a disk, as it is recorded
unfoldable pub disk_row : DiskRow → List ℕ
disk_row d =
    number d.disk
    ++ number d.tag
    ++ disk_want d.want
    ++ role d.role
    ++ flag d.attached
    ++ flag d.mounted

unfoldable pub is_disk_row : DiskRow → Bool
is_disk_row d =
    is_number d.disk
    && is_number d.tag
    && is_disk_want d.want
    && is_role d.role
    && is_flag d.attached
    && is_flag d.mounted

unfoldable pub disk_row_at : Reader DiskRow
disk_row_at =
    making (λ disk tag want role attached mounted. record {
      disk = disk;
      tag = tag;
      want = want;
      role = role;
      attached = attached;
      mounted = mounted;
    })
    with number_at
    with number_at
    with disk_want_at
    with role_at
    with flag_at
    with flag_at

-- a machine, as it is recorded
unfoldable pub vm : Vm → List ℕ
vm v = number v.vm ++ number v.agent

unfoldable pub is_vm : Vm → Bool
is_vm v = is_number v.vm && is_number v.agent

unfoldable pub vm_at : Reader Vm
vm_at = making (λ vm agent. record { vm = vm; agent = agent }) with number_at with number_at

-- a call whose answer is not known
unfoldable pub doubt : Doubt → List ℕ
doubt d = number d.n ++ call d.call

unfoldable pub is_doubt : Doubt → Bool
is_doubt d = is_number d.n && is_call d.call

unfoldable pub doubt_at : Reader Doubt
doubt_at = making (λ n call. record { n = n; call = call }) with number_at with call_at

-- what is recorded of an instance; the older format has not whether it is lost
unfoldable pub row : Format → Row → List ℕ
row format r =
    inst r.inst
    ++ option make r.make
    ++ option vm r.vm
    ++ option spec r.spec
    ++ flag r.running
    ++ flag r.drained
    ++ list disk_row r.disks
    ++ option doubt r.doubt
    ++ later flag format r.lost

unfoldable pub is_row : Format → Row → Bool
is_row format r =
    is_inst r.inst
    && is_option is_make r.make
    && is_option is_vm r.vm
    && is_option is_spec r.spec
    && is_flag r.running
    && is_flag r.drained
    && is_list is_disk_row r.disks
    && is_option is_doubt r.doubt
    && is_later not is_flag format r.lost

unfoldable pub row_at : Format → Reader Row
row_at format =
    making (λ inst make vm spec running drained disks doubt lost. record {
      inst = inst;
      make = make;
      vm = vm;
      spec = spec;
      running = running;
      drained = drained;
      disks = disks;
      doubt = doubt;
      lost = lost;
    })
    with inst_at
    with option_at make_at
    with option_at vm_at
    with option_at spec_at
    with flag_at
    with flag_at
    with list_at disk_row_at
    with option_at doubt_at
    with later_at false flag_at format
