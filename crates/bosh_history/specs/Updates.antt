-- What the updates of instances tell, and what becomes of their disks (this project's profile).
use Rattle.std.specs.Prelude.{ℕ, eqb, Option, Some, None, List, [], ◌∷◌, map}
use Rattle.std.specs.Ordering.{nat_cmp}
use Rattle.bosh_base.specs.declared.goal.GoalRow.{GoalRow}
use Rattle.bosh_base.specs.declared.inst.Inst.{Inst}
use Rattle.bosh_base.specs.declared.row.DiskRow.{DiskRow}
use Rattle.bosh_base.specs.declared.snapshot.Orphan.{Orphan}
use Rattle.bosh_history.specs.Known.{Known, Task}
use Rattle.bosh_history.specs.Words.{at, all_inserted, without}
use Rattle.bosh_roll.specs.declared.upd.Upd.{Upd}
use Rattle.bosh_rows.specs.After.{bare, updated_row, left_behind}
use Rattle.bosh_rows.specs.Same.{same_inst}

abbrev pub orphan_of : Inst → DiskRow → Orphan
orphan_of i d = record { disk = d.disk; want = d.want; inst = i; doubt = None }

abbrev pub orphans_after : Inst → List DiskRow → (ℕ → Option Orphan) → ℕ → Option Orphan
orphans_after i [] old = old
orphans_after i (d ∷ disks) old = orphans_after i disks (at eqb d.disk (Some (orphan_of i d)) old)

abbrev pub disks_orphaned : Inst → List DiskRow → Known → Known
disks_orphaned i disks k = record k {
  orphans = all_inserted nat_cmp (map (λ d. d.disk) disks) k.orphans;
  orphan = orphans_after i disks k.orphan;
}

abbrev pub update_at : Upd → Inst → Task → Task
update_at upd i t = record t { upd = at same_inst i upd t.upd }

abbrev pub update_done : Option GoalRow → Inst → Known → Known
update_done (Some want) i k = record (disks_orphaned i (left_behind want (k.row i)) k) {
  row = at same_inst i (updated_row want (k.row i)) k.row;
}
update_done None i k = k

abbrev pub instance_gone : Inst → Known → Known
instance_gone i k = record (disks_orphaned i (k.row i).disks k) {
  instances = without same_inst i k.instances;
  row = at same_inst i (bare i) k.row;
}
