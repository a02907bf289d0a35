-- Disks are deleted by clean-up commands alone (this project's profile; bosh.io, "Persistent disks").
use Rattle.std.specs.Prelude.{ℕ, Bool, true, false, eqb, not, ◌&&◌, ◌||◌, Option, Some, None}
use Rattle.std.specs.List.{list_all}
use Rattle.bosh_base.specs.declared.call.Call.{Call}
use Rattle.bosh_base.specs.declared.call.Call.TheVariants.{DeleteDisk}
use Rattle.bosh_base.specs.declared.moves.Move.{Move}
use Rattle.bosh_base.specs.declared.moves.Move.TheVariants as moves
use Rattle.bosh_base.specs.declared.task.TaskKind.{TaskKind}
use Rattle.bosh_base.specs.declared.task.TaskKind.TheVariants.{DeleteDisk as OneDisk, CleanUp}
use Rattle.bosh_history.specs.Known.{Known, Task}
use Rattle.bosh_history.specs.Moments.{Moment, OpenCall}
use Rattle.bosh_history.specs.Words.{is_among}

abbrev pub is_clean_up : TaskKind → Bool
is_clean_up CleanUp = true
is_clean_up (OneDisk d) = true
is_clean_up kind = false

-- the task is one that deletes disks, it lists the disk, and the disk was recorded orphaned when the task opened
abbrev pub lists_orphan : Task → ℕ → Bool
lists_orphan t d = is_clean_up t.kind && (is_among eqb d t.disks && is_among eqb d t.orphans)

abbrev pub is_asked_for : Known → ℕ → Call → Bool
is_asked_for k t (DeleteDisk d) = lists_orphan (k.task t) d
is_asked_for k t call = true

abbrev pub deletes_as_asked : Moment → Option OpenCall → Bool
deletes_as_asked m (Some call) = is_asked_for m.known call.begin.task call.begin.call
deletes_as_asked m None = true

abbrev pub is_deletion_asked : Moment → Move → Bool
is_deletion_asked m (moves.Did d) = not d.effect || deletes_as_asked m (m.calls d.n)
is_deletion_asked m (moves.Stop s) = list_all (λ n. deletes_as_asked m (m.calls n)) s.took
is_deletion_asked m move = true
