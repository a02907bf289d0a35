-- Whether an instance stands as it is wanted, so that nothing has to be done for it (this project's profile).
use Rattle.std.specs.Prelude.{◌≡◌, Bool, true, false, not, nat_lt, ◌&&◌, if◌then◌else◌, Option, Some, None, is_some, List, [], ◌∷◌}
use Rattle.std.specs.List.{list_all}
use Rattle.std.specs.Option.{option_eq}
use Rattle.bosh_base.specs.declared.disk_want.DiskWant.{DiskWant}
use Rattle.bosh_base.specs.declared.goal.GoalRow.{GoalRow}
use Rattle.bosh_base.specs.declared.row.DiskRow.{DiskRow}
use Rattle.bosh_base.specs.declared.row.Row.{Row}
use Rattle.bosh_base.specs.declared.row.Vm.{Vm}
use Rattle.bosh_rows.specs.Disks.{is_active, is_running, is_detached}
use Rattle.bosh_rows.specs.NextStep.{is_in_place}
use Rattle.bosh_rows.specs.Same.{same_make, same_spec}

abbrev pub is_empty : {A : Type 0} → List A → Bool
is_empty [] = true
is_empty (a ∷ others) = false

abbrev pub same_truth : Bool → Bool → Bool
same_truth true b = b
same_truth false b = not b

-- without a want it has nothing
abbrev pub has_nothing : Row → Bool
has_nothing row = not (is_some row.doubt) && (not (is_some row.vm) && is_empty row.disks)

-- detached it has no machine, and no disk but the active one
abbrev pub is_put_away : Row → Bool
is_put_away row = not (is_some row.doubt) && (not (is_some row.vm) && list_all is_active row.disks)

-- its machine is the wanted one, with the wanted spec, and runs where it is to run
abbrev pub has_machine : GoalRow → Row → Option Vm → Bool
has_machine want row (Some vm) =
    option_eq same_make row.make (Some want.make)
    && (nat_lt want.fresh_after vm.agent
    && (option_eq same_spec row.spec (Some want.spec)
    && same_truth row.running (is_running want.state)))
has_machine want row None = false

-- its disks are none where none is wanted, and else one, which is active, right and in its place
abbrev pub has_disks : Option DiskWant → List DiskRow → Bool
has_disks None disks = is_empty disks
has_disks (Some wanted) (d ∷ []) = is_active d && is_in_place wanted d
has_disks (Some wanted) disks = false

abbrev pub is_up : GoalRow → Row → Bool
is_up want row =
    not (is_some row.doubt) && (not row.lost && (has_machine want row row.vm && has_disks want.disk row.disks))

-- it stands as it is wanted
abbrev pub stands : Option GoalRow → Row → Bool
stands None row = has_nothing row
stands (Some want) row = if is_detached want.state then is_put_away row else is_up want row

abbrev pub IsStanding : Option GoalRow → Row → Type 0
IsStanding want row = stands want row ≡ true
