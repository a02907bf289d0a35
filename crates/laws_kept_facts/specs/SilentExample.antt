-- The smallest row that meets all facts of a row but one, and whose machine does not hold what is recorded after its
-- next call.
use Rattle.std.specs.Prelude.{true, false, Some, None, List, [], ◌∷◌}
use Rattle.bosh_base.specs.CloudExamples.{small, ten}
use Rattle.bosh_base.specs.declared.call.Call.TheVariants.{CreateVm, DeleteVm, CreateDisk}
use Rattle.bosh_base.specs.declared.entry.Entry.{Entry}
use Rattle.bosh_base.specs.declared.entry.Entry.TheVariants.{Lost}
use Rattle.bosh_base.specs.declared.row.Role.TheVariants.{Active}
use Rattle.bosh_base.specs.declared.row.Row.{Row}
use Rattle.laws_rows.specs.RowExample.{attaching, for_web}

-- machine 1 and disk 1 were made, the disk was never attached, and the agent of the machine does not answer any more
abbrev pub silenced : List Entry
silenced =
    for_web 1 (CreateVm small [])
    ∷ for_web 2 (CreateDisk ten 1)
    ∷ Lost (record { vm = 1; whole = false })
    ∷ []

-- the machine is silent, which nobody noticed, its deletion is in doubt, and the disk is recorded as attached to it
abbrev pub deleting : Row
deleting = record attaching {
  disks = record { disk = 1; tag = 2; want = ten; role = Active; attached = true; mounted = false } ∷ [];
  doubt = Some (record { n = 3; call = DeleteVm 1 });
}
