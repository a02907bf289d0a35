-- What is recorded once an update begins or is done, or an obsolete instance has nothing left.
use Rattle.std.specs.Prelude.{ℕ, List, Option, Some, None, fold}
use Rattle.std.specs.Ordering.{nat_cmp}
use Rattle.bosh_base.specs.Inst.{inst_cmp}
use Rattle.bosh_base.specs.declared.row.Row.{Row}
use Rattle.bosh_base.specs.declared.snapshot.Orphan.{Orphan}
use Rattle.bosh_base.specs.declared.entry.Entry.{Entry}
use Rattle.bosh_base.specs.declared.entry.Entry.TheVariants as entries
use Rattle.bosh_base.specs.declared.entry.Update.{Update}
use Rattle.bosh_plan.specs.declared.updating.Updated.{Updated}
use Rattle.bosh_records.specs.Changes.{with_left}
use Rattle.bosh_records.specs.Places.{part_of}
use Rattle.bosh_records.specs.Recorded.{Recorded}
use Rattle.bosh_records.specs.Table.{altered, changed, put_at}
use Rattle.bosh_records.specs.declared.orphans.LooseDisk.{LooseDisk}
use Rattle.bosh_work.specs.Work.{update_begun, update_finished}
use Rattle.bosh_fold.specs.Calls.{with_row}

abbrev pub update_begun_in : Update → Recorded → Recorded
update_begun_in update it =
    record it { works = changed nat_cmp update.task (λ work. update_begun work (part_of it update.inst).change) it.works }

abbrev pub update_finished_in : Update → Recorded → Recorded
update_finished_in update it =
    record it { works = changed nat_cmp update.task (λ work. update_finished work (part_of it update.inst).change) it.works }

-- an instance that goes has nothing left
abbrev pub left_in : Update → Recorded → Recorded
left_in update it = record it {
  works = changed nat_cmp update.task (with_left (part_of it update.inst).leaving) it.works;
  instances = altered inst_cmp update.inst (λ known. record known { row = None }) it.instances;
}

abbrev pub update_in : Entry → Recorded → Recorded
update_in (entries.UpdDone update) it = update_finished_in update it
update_in (entries.Gone update) it = left_in update it
update_in entry it = it

-- the row, where there is one
abbrev pub with_row_of : Option Row → Recorded → Recorded
with_row_of (Some row) it = with_row row it
with_row_of None it = it

-- a disk belongs to no instance from now on
abbrev pub loose : Orphan → LooseDisk
loose orphan = record { orphan = orphan; deleting = None; call = None }

abbrev pub with_loose : List (ℕ × Option LooseDisk) → Orphan → List (ℕ × Option LooseDisk)
with_loose orphans orphan = put_at nat_cmp orphan.disk (loose orphan) orphans

abbrev pub with_orphans : List Orphan → List (ℕ × Option LooseDisk) → List (ℕ × Option LooseDisk)
with_orphans left orphans = fold with_loose orphans left

abbrev pub with_left_behind : List Orphan → Recorded → Recorded
with_left_behind left it = record it { orphans = with_orphans left it.orphans }

abbrev pub updated_in : Entry → Updated → Recorded → Recorded
updated_in entry updated it = with_left_behind updated.left.items (with_row_of updated.row (update_in entry it))

-- an update begins, or the entry changes nothing
abbrev pub other_in : Entry → Recorded → Recorded
other_in (entries.UpdBegin update) it = update_begun_in update it
other_in entry it = it
