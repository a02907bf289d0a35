-- A disk that grows, and a stop after the migration.
use Rattle.std.specs.Prelude.{true, codes, Some, None, List, [], ◌∷◌, ◌++◌}
use Rattle.bosh_base.specs.declared.answer.Answer.TheVariants as answers
use Rattle.bosh_base.specs.declared.call.Call.TheVariants as calls
use Rattle.bosh_base.specs.declared.entry.Entry.TheVariants as entries
use Rattle.bosh_base.specs.declared.failure.Failure.TheVariants as failures
use Rattle.bosh_base.specs.declared.goal.Goal.{Goal}
use Rattle.bosh_base.specs.declared.moves.Cause.TheVariants as causes
use Rattle.bosh_base.specs.declared.moves.Move.{Move}
use Rattle.bosh_base.specs.declared.moves.Move.TheVariants.{Note, Halt}
use Rattle.bosh_base.specs.declared.owner.Owner.TheVariants.{Instance, Disk}
use Rattle.bosh_base.specs.declared.state.State.TheVariants.{Running}
use Rattle.bosh_base.specs.declared.task.TaskKind.TheVariants as kinds
use Rattle.examples_histories.specs.Scenes.{History, sourced, opening, beginning_of, upd_begin, upd_done, task_error, did, written, stop, said, called, part}
use Rattle.examples_histories.specs.Values.{web, z1, plain, no_jobs, disk, row, group, goal}

abbrev pub migrated_g1 : Goal
migrated_g1 =
    goal (codes "dep") (row (web 0) (plain z1 10) no_jobs (Some (disk 10)) Running 0 ∷ [])
    (group (codes "web") 1 1 ∷ []) [] [] [] []

abbrev pub migrated_g2 : Goal
migrated_g2 =
    goal (codes "dep") (row (web 0) (plain z1 10) no_jobs (Some (disk 20)) Running 0 ∷ [])
    (group (codes "web") 1 1 ∷ []) [] [] [] []

abbrev pub migrated_g3 : Goal
migrated_g3 =
    goal (codes "dep") (row (web 0) (plain z1 10) no_jobs (Some (disk 30)) Running 0 ∷ [])
    (group (codes "web") 1 1 ∷ []) [] [] [] []

abbrev pub migrated : History
migrated built =
    (Note (opening 1 kinds.Deploy (Some (codes "dep")) (Some migrated_g1) ((web 0) ∷ []) [] [] sourced)
    ∷ Note (upd_begin 1 (web 0))
    ∷ [])
    ++ called 1 1 0 (Instance (web 0)) (calls.CreateVm (plain z1 10) []) true (answers.Cid 1)
    ++ called 2 1 0 (Instance (web 0)) (calls.CreateDisk (disk 10) 1) true (answers.Cid 1)
    ++ called 3 1 0 (Instance (web 0)) (calls.AttachDisk 1 1) true answers.Done
    ++ called 4 1 0 (Instance (web 0)) (calls.MountDisk 1 1) true answers.Done
    ++ called 5 1 0 (Instance (web 0)) (calls.Apply 1 no_jobs) true answers.Done
    ++ called 6 1 0 (Instance (web 0)) (calls.Start 1) true answers.Done
    ++
    (Note (upd_done 1 (web 0))
    ∷ Note (entries.TaskDone 1)
    ∷ said 3
    ∷ written (web 0) (codes "hello")
    ∷ said 4
    ∷ said 5
    ∷ Note (opening 2 kinds.Deploy (Some (codes "dep")) (Some migrated_g2) ((web 0) ∷ []) [] [] sourced)
    ∷ Note (upd_begin 2 (web 0))
    ∷ [])
    ++ called 7 2 0 (Instance (web 0)) (calls.Drain 1) true answers.Done
    ++ called 8 2 0 (Instance (web 0)) (calls.Stop 1) true answers.Done
    ++ called 9 2 0 (Instance (web 0)) (calls.CreateDisk (disk 20) 1) true (answers.Cid 2)
    ++ called 10 2 0 (Instance (web 0)) (calls.AttachDisk 1 2) true answers.Done
    ++ called 11 2 0 (Instance (web 0)) (calls.MountDisk 1 2) true answers.Done
    ++
    (Note (beginning_of 12 2 0 (Instance (web 0)) (calls.MigrateDisk 1 1 2))
    ∷ Halt causes.Stop
    ∷ said 6
    ∷ stop None (12 ∷ []) None
    ∷ Note (task_error 2 failures.Interrupted)
    ∷ said 7
    ∷ Note (opening 3 kinds.Deploy (Some (codes "dep")) (Some migrated_g3) ((web 0) ∷ []) [] [] sourced)
    ∷ Note (upd_begin 3 (web 0))
    ∷ [])
    ++ called 13 3 0 (Instance (web 0)) (calls.UnmountDisk 1 2) true answers.Done
    ++ called 14 3 0 (Instance (web 0)) (calls.DetachDisk 1 2) true answers.Done
    ++ called 15 3 0 (Instance (web 0)) (calls.CreateDisk (disk 30) 1) true (answers.Cid 3)
    ++ called 16 3 0 (Instance (web 0)) (calls.AttachDisk 1 3) true answers.Done
    ++ called 17 3 0 (Instance (web 0)) (calls.MountDisk 1 3) true answers.Done
    ++ called 18 3 0 (Instance (web 0)) (calls.MigrateDisk 1 1 3) true answers.Done
    ++ called 19 3 0 (Instance (web 0)) (calls.UnmountDisk 1 1) true answers.Done
    ++ called 20 3 0 (Instance (web 0)) (calls.DetachDisk 1 1) true answers.Done
    ++ called 21 3 0 (Instance (web 0)) (calls.Start 1) true answers.Done
    ++ (Note (upd_done 3 (web 0)) ∷ Note (entries.TaskDone 3) ∷ said 8 ∷ [])

-- A second task stops the jobs and lets go of the disk ..
abbrev pub disk_let_go : List Move
disk_let_go =
    called 7 2 0 (Instance (web 0)) (calls.Drain 1) true answers.Done
    ++ called 8 2 0 (Instance (web 0)) (calls.Stop 1) true answers.Done
    ++ called 9 2 0 (Instance (web 0)) (calls.UnmountDisk 1 1) true answers.Done
    ++ called 10 2 0 (Instance (web 0)) (calls.DetachDisk 1 1) true answers.Done

-- .. and deletes the machine.
abbrev pub machine_deleted : List Move
machine_deleted = disk_let_go ++ called 11 2 0 (Instance (web 0)) (calls.DeleteVm 1) true answers.Done

-- The old disk deleted after the migration.
abbrev pub deletes_old_disk : History
deletes_old_disk built =
    part 1 75 (migrated built)
    ++ (Note (beginning_of 21 3 0 (Disk 1) (calls.DeleteDisk 1)) ∷ [])
    ++ (did 21 true answers.Done ∷ [])

-- A New disk made Active without a migration.
abbrev pub active_without_migration : History
active_without_migration built =
    part 1 67 (migrated built)
    ++ part 69 69 (migrated built)

-- The same where nobody wrote to the disk.
abbrev pub active_without_migration_empty : History
active_without_migration_empty built =
    part 1 23 (migrated built)
    ++ part 26 67 (migrated built)
    ++ part 69 69 (migrated built)

-- UpdDone with the New disk mounted beside the Active one.
abbrev pub migration_left_out : History
migration_left_out built =
    part 1 66 (migrated built)
    ++ (Note (upd_done 3 (web 0)) ∷ [])

-- A migration from the New disk to the Active one.
abbrev pub migrated_backwards : History
migrated_backwards built =
    part 1 66 (migrated built)
    ++ (Note (beginning_of 18 3 0 (Instance (web 0)) (calls.MigrateDisk 1 3 1)) ∷ [])

-- A disk created though the Active one is right.
abbrev pub disk_too_many : History
disk_too_many built =
    part 1 14 (migrated built)
    ++ (Note (beginning_of 5 1 0 (Instance (web 0)) (calls.CreateDisk (disk 10) 1)) ∷ [])

-- A job that writes while its machine is stopped.
abbrev pub wrote_while_stopped : History
wrote_while_stopped built =
    part 1 34 (migrated built)
    ++ (written (web 0) (codes "more") ∷ [])

-- A job that writes though no command asked for it.
abbrev pub wrote_unasked : History
wrote_unasked built =
    part 1 25 (migrated built)
    ++ part 24 24 (migrated built)
