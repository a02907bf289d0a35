-- What the end of an update, or the leaving of an instance, needs of what was told before it.
use Rattle.std.specs.Prelude.{◌≡◌, ℕ, List, Option, Some, eqb, false, is_some, map, slice_get, true}
use Rattle.std.specs.Ordering.{nat_cmp}
use Rattle.bosh_base.specs.declared.entry.Update.{Update}
use Rattle.bosh_base.specs.declared.goal.GoalRow.{GoalRow}
use Rattle.bosh_base.specs.declared.owner.Owner.TheVariants.{Disk}
use Rattle.bosh_base.specs.declared.row.DiskRow.{DiskRow}
use Rattle.bosh_history.specs.Known.{want_in}
use Rattle.bosh_history.specs.Words.{is_among}
use Rattle.bosh_records.specs.Table.{found}
use Rattle.bosh_records.specs.declared.orphans.LooseDisk.{LooseDisk}
use Rattle.bosh_rows.specs.After.{bare}
use Rattle.bosh_rows.specs.Same.{same_inst}
use Rattle.bosh_rows.specs.SoundSnapshot.{are_distinct}
use Rattle.std.specs.Str.{bytes_eq}
use Rattle.laws_stands.specs.Told.{Told, idle_in, is_going, is_idle}

-- the numbers of disks
abbrev pub numbers_of : List DiskRow → List ℕ
numbers_of disks = map (λ it. it.disk) disks

-- there is a place for each of the disks
abbrev pub HavePlaces : List (ℕ × Option LooseDisk) → List DiskRow → Type 0
HavePlaces orphans disks = (d : ℕ) → is_among eqb d (numbers_of disks) ≡ true
    → is_some (found nat_cmp orphans d) ≡ true

-- disks may be left behind: none of them has an open call, and no open task lists one
pub record AllowsLeft (told : Told) (disks : List DiskRow) : Type 0 where
  pub idle : (d : ℕ) → is_among eqb d (numbers_of disks) ≡ true → is_idle told (Disk d) ≡ true
  pub unlisted : (t j d : ℕ) → is_going told.known t ≡ true → slice_get (told.known.task t).disks j ≡ Some d →
      is_among eqb d (numbers_of disks) ≡ false

-- an update of an open task may be done: the goal of the task, which wants the instance, is the current one of its
-- deployment, and the disks of the instance may be left behind
pub record AllowsFinish (told : Told) (update : Update) : Type 0 where
  pub want : GoalRow
  pub wanted : want_in (told.known.task update.task).goal update.inst ≡ Some want
  pub going : is_going told.known update.task ≡ true
  pub dep : (told.known.task update.task).dep ≡ Some update.inst.dep
  pub current : told.known.goal update.inst.dep ≡ (told.known.task update.task).goal
  pub listed : is_among bytes_eq update.inst.dep told.known.deployments ≡ true
  pub changed_apart : are_distinct same_inst (told.known.task update.task).changed ≡ true
  pub own_row : (told.known.row update.inst).inst ≡ update.inst
  pub bare_row : is_among same_inst update.inst told.known.instances ≡ false →
      told.known.row update.inst ≡ bare update.inst
  pub left : AllowsLeft told (told.known.row update.inst).disks

-- an instance of an open task may leave: its disks may be left behind
pub record AllowsLeave (told : Told) (update : Update) : Type 0 where
  pub going : is_going told.known update.task ≡ true
  pub dep : (told.known.task update.task).dep ≡ Some update.inst.dep
  pub obsolete_apart : are_distinct same_inst (told.known.task update.task).obsolete ≡ true
  pub idle : idle_in told update.inst ≡ true
  pub bare_row : is_among same_inst update.inst told.known.instances ≡ false →
      told.known.row update.inst ≡ bare update.inst
  pub left : AllowsLeft told (told.known.row update.inst).disks
