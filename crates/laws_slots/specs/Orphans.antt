-- Facts on one orphaned disk: it is what its record says.
use Rattle.std.specs.Prelude.{ℕ, Bool, false, not, ◌&&◌, ◌==◌, if◌then◌else◌, Option, Some, None, is_some, List}
use Rattle.bosh_base.specs.Cloud.{disk_creation, is_disk_there}
use Rattle.bosh_base.specs.declared.answer.Answer.{Answer}
use Rattle.bosh_base.specs.declared.call.Call.{Call}
use Rattle.bosh_base.specs.declared.call.Call.TheVariants.{DeleteDisk, HasDisk}
use Rattle.bosh_base.specs.declared.entry.Effect.{Effect}
use Rattle.bosh_base.specs.declared.entry.Entry.{Entry}
use Rattle.bosh_base.specs.declared.snapshot.Orphan.{Orphan}
use Rattle.laws_effects.specs.Orderly.{is_taken}
use Rattle.bosh_history.specs.Calls.{orphan_told, shows_gone, shows_there}
use Rattle.bosh_history.specs.Ties.{is_wanted_as}
use Rattle.laws_row_facts.specs.Words.{is_some_with, where_any}
use Rattle.bosh_rows.specs.Standing.{same_truth}

-- the call deletes the disk
abbrev pub is_deletion_of_disk : ℕ → Call → Bool
is_deletion_of_disk d (DeleteDisk disk) = disk == d
is_deletion_of_disk d call = false

-- the deletion in doubt had its effect
abbrev pub is_deleted : List Entry → Orphan → Bool
is_deleted effects it = is_some_with (λ doubt. is_taken effects doubt.n) it.doubt

-- It was made as it is recorded; only its deletion may be in doubt, and it is there unless that had its effect.
abbrev pub is_orphan_as_recorded : List Entry → ℕ → Orphan → Bool
is_orphan_as_recorded effects d it =
    is_wanted_as it (disk_creation effects d)
    && (where_any (λ doubt. is_deletion_of_disk d doubt.call) it.doubt
    && same_truth (is_disk_there effects d) (not (is_deleted effects it)))

-- the call is one for the orphaned disk: to ask what became of its deletion, and else to delete it
abbrev pub is_call_of_orphan : ℕ → Call → Orphan → Bool
is_call_of_orphan d (DeleteDisk disk) it = disk == d && not (is_some it.doubt)
is_call_of_orphan d (HasDisk disk) it = disk == d && is_some it.doubt
is_call_of_orphan d call it = false

-- the record, once the call is answered; none where the disk is not there
abbrev pub orphan_answered : Call → Answer → Orphan → Option Orphan
orphan_answered call answer it =
    if shows_gone call answer then None else Some (orphan_told (shows_there call answer) it)

-- the effect deletes another disk or none, and is not of the call in doubt
abbrev pub leaves_orphan : ℕ → Orphan → Effect → Bool
leaves_orphan d it e =
    not (is_deletion_of_disk d e.call) && where_any (λ doubt. not (e.n == doubt.n)) it.doubt
