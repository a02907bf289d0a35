-- When a row has no problem: it is as the cloud has it (this project's profile; bosh.io, "Cloud Check").
use Rattle.std.specs.Prelude.{ℕ, Bool, true, false, nat_eq, not, ◌&&◌, ◌==◌, Option, Some, None, is_some, List, [], ◌∷◌, filter, map}
use Rattle.std.specs.Cmp.Lexicographic.{pointwise}
use Rattle.std.specs.List.{list_any, list_all}
use Rattle.std.specs.Option.{option_eq}
use Rattle.bosh_base.specs.declared.machine.Disk.{Disk}
use Rattle.bosh_base.specs.declared.machine.Machine.{Machine}
use Rattle.bosh_base.specs.declared.owner.Owner.TheVariants.{Instance}
use Rattle.bosh_base.specs.declared.row.DiskRow.{DiskRow}
use Rattle.bosh_base.specs.declared.row.Row.{Row}
use Rattle.bosh_base.specs.declared.row.Vm.{Vm}
use Rattle.bosh_rows.specs.Same.{same_owner, same_spec}
use Rattle.bosh_rows.specs.Standing.{same_truth}

-- the machines of the instance
abbrev pub its_machines : Row → List Machine → List Machine
its_machines row machines = filter (λ it. same_owner it.owner (Instance row.inst)) machines

abbrev pub numbers : (DiskRow → Bool) → Row → List ℕ
numbers test row = map (λ d. d.disk) (filter test row.disks)

-- the machine is the recorded one, answers, and has what is recorded
abbrev pub is_as_recorded : Row → Vm → Machine → Bool
is_as_recorded row vm it =
    it.vm == vm.vm
    && (not it.silent
    && (option_eq same_spec it.spec row.spec
    && (same_truth it.running row.running
    && (same_truth it.drained row.drained
    && (pointwise nat_eq it.attached (numbers (λ d. d.attached) row)
    && pointwise nat_eq it.mounted (numbers (λ d. d.mounted) row))))))

abbrev pub has_machine : Row → Option Vm → List Machine → Bool
has_machine row (Some vm) (it ∷ []) = is_as_recorded row vm it
has_machine row None [] = true
has_machine row vm machines = false

-- its disks are there
abbrev pub has_disks : Row → List Disk → Bool
has_disks row disks = list_all (λ d. list_any (λ it. it.disk == d.disk) disks) row.disks

abbrev pub agrees : Row → List Machine → List Disk → Bool
agrees row machines disks =
    not (is_some row.doubt) && (has_machine row row.vm (its_machines row machines) && has_disks row disks)
