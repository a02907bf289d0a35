-- The facts on disks and the cloud, each of all its subjects.
use Rattle.std.specs.Prelude.{◌≡◌, ℕ, true, Some, is_some}
use Rattle.bosh_base.specs.declared.owner.Owner.TheVariants.{Disk}
use Rattle.bosh_history.specs.Moments.{Moment, OpenCall}
use Rattle.laws_facts.specs.CallFacts.{is_disk_kept_by, IsOwnerKept}
use Rattle.laws_facts.specs.Disks.{is_recorded_once}
use Rattle.laws_facts.specs.OpenCalls.{fits_owner}
use Rattle.laws_row_facts.specs.Words.{where_any}
use Rattle.laws_slots.specs.Orphans.{is_orphan_as_recorded}

-- each orphaned disk is what its record says
abbrev pub AreOrphansAsRecorded : Moment → Type 0
AreOrphansAsRecorded m = (d : ℕ) → where_any (is_orphan_as_recorded m.effects d) (m.known.orphan d) ≡ true

-- an open call on an orphaned disk is the one that was to be made for it
abbrev pub AreOrphansFitting : Moment → Type 0
AreOrphansFitting m =
    (n : ℕ) (call : OpenCall) (d : ℕ) → m.calls n ≡ Some call → call.begin.owner ≡ Disk d →
    fits_owner m.known call.begin (Disk d) ≡ true

-- the answer to it leaves the disk what its record says
abbrev pub AreOrphansAnswered : Moment → Type 0
AreOrphansAnswered m =
    (n : ℕ) (call : OpenCall) (d : ℕ) → m.calls n ≡ Some call → call.begin.owner ≡ Disk d →
    IsOwnerKept m call.begin call.did (Disk d)

-- a disk that is there is recorded once
abbrev pub AreRecordedOnce : Moment → Type 0
AreRecordedOnce m = (d : ℕ) → is_recorded_once m.effects m.known.row (is_some (m.known.orphan d)) d ≡ true

-- .. also once an open call is answered
abbrev pub AreRecordedOnceAnswered : Moment → Type 0
AreRecordedOnceAnswered m =
    (n : ℕ) (call : OpenCall) (d : ℕ) → m.calls n ≡ Some call →
    where_any (is_disk_kept_by m call.begin d) call.did ≡ true
