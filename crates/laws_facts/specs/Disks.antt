-- Facts on one disk: one that is there is recorded once, and an orphaned one is what its record says.
use Rattle.std.specs.Prelude.{◌≡◌, ℕ, ◌+◌, Bool, true, false, not, ◌||◌, ◌==◌, Option, Some, None, is_some, List, ◌++◌, count_by, codes}
use Rattle.bosh_base.specs.Cloud.{disk_creation, is_disk_there}
use Rattle.bosh_base.specs.declared.entry.Effect.{Effect}
use Rattle.bosh_base.specs.declared.entry.Entry.{Entry}
use Rattle.bosh_base.specs.declared.inst.Inst.{Inst}
use Rattle.bosh_base.specs.declared.owner.Owner.{Owner}
use Rattle.bosh_base.specs.declared.owner.Owner.TheVariants.{Instance}
use Rattle.bosh_base.specs.declared.row.Row.{Row}
use Rattle.laws_slots.specs.Orphans.{is_orphan_as_recorded}
use Rattle.laws_facts.specs.Words.{unless}
use Rattle.laws_row_facts.specs.Words.{where_any}
use Rattle.bosh_history.specs.Known.{Known}
use Rattle.bosh_history.specs.Ties.{is_making}
use Rattle.bosh_rows.specs.Tied.{one_if}

-- ---- a disk that is there was created for an instance, and is recorded once

-- in these rows, as what a call in doubt made, and as an orphan
abbrev pub times_recorded : Row → Bool → ℕ → ℕ → ℕ
times_recorded row is_orphan d tag =
    count_by (λ it. it.disk == d) row.disks + one_if (is_making tag row.doubt) + one_if is_orphan

-- it was made for an instance, whose row and the orphans have it once
abbrev pub is_counted_by : (Inst → Row) → Bool → ℕ → Option Effect → Bool
is_counted_by rows is_orphan d (Some e) = by_owner e.owner
  where
    by_owner : Owner → Bool
    by_owner (Instance i) = times_recorded (rows i) is_orphan d e.n == 1
    by_owner owner = false
is_counted_by rows is_orphan d None = false

-- .. where it is there
abbrev pub is_recorded_once : List Entry → (Inst → Row) → Bool → ℕ → Bool
is_recorded_once effects rows is_orphan d =
    not (is_disk_there effects d) || is_counted_by rows is_orphan d (disk_creation effects d)

-- ---- all

-- the facts on one disk
pub record DiskFacts (effects : List Entry) (k : Known) (d : ℕ) : Type 0 where
  -- a disk that is there is recorded once
  pub once : is_recorded_once effects k.row (is_some (k.orphan d)) d ≡ true
  -- an orphaned disk is what its record says
  pub orphan : where_any (is_orphan_as_recorded effects d) (k.orphan d) ≡ true

-- the tags of those that do not hold
abbrev pub disk_broken : List Entry → Known → ℕ → List (List ℕ)
disk_broken effects k d =
    unless (codes "disk recorded once") (is_recorded_once effects k.row (is_some (k.orphan d)) d)
    ++ unless (codes "orphan as recorded") (where_any (is_orphan_as_recorded effects d) (k.orphan d))
