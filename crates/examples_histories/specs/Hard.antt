-- A hard stop keeps the disk.
use Rattle.std.specs.Prelude.{true, codes, Some, None, [], ◌∷◌, ◌++◌}
use Rattle.bosh_base.specs.declared.answer.Answer.TheVariants as answers
use Rattle.bosh_base.specs.declared.call.Call.TheVariants as calls
use Rattle.bosh_base.specs.declared.entry.Entry.TheVariants as entries
use Rattle.bosh_base.specs.declared.goal.Goal.{Goal}
use Rattle.bosh_base.specs.declared.moves.Move.TheVariants.{Note}
use Rattle.bosh_base.specs.declared.owner.Owner.TheVariants.{Instance, Disk}
use Rattle.bosh_base.specs.declared.state.State.TheVariants.{Running, Detached}
use Rattle.bosh_base.specs.declared.task.TaskKind.TheVariants as kinds
use Rattle.examples_histories.specs.Scenes.{History, sourced, opening, beginning_of, upd_begin, upd_done, did, said, called, part}
use Rattle.examples_histories.specs.Values.{web, z1, plain, no_jobs, disk, row, group, goal}
use Rattle.examples_histories.specs.Migrated.{machine_deleted, migrated}

abbrev pub hard_g1 : Goal
hard_g1 =
    goal (codes "dep") (row (web 0) (plain z1 10) no_jobs (Some (disk 10)) Running 0 ∷ [])
    (group (codes "web") 1 1 ∷ []) [] [] [] []

abbrev pub hard_g2 : Goal
hard_g2 =
    goal (codes "dep") (row (web 0) (plain z1 10) no_jobs (Some (disk 10)) Detached 0 ∷ [])
    (group (codes "web") 1 1 ∷ []) [] [] [] []

abbrev pub hard : History
hard built =
    part 1 23 (migrated built)
    ++
    (Note (opening 2 (kinds.Stop (web 0)) (Some (codes "dep")) (Some hard_g2) ((web 0) ∷ []) [] [] None)
    ∷ Note (upd_begin 2 (web 0))
    ∷ [])
    ++ machine_deleted
    ++
    (Note (upd_done 2 (web 0))
    ∷ Note (entries.TaskDone 2)
    ∷ said 4
    ∷ Note (opening 3 kinds.Deploy (Some (codes "dep")) (Some hard_g2) [] [] [] sourced)
    ∷ Note (entries.TaskDone 3)
    ∷ said 5
    ∷ Note (opening 4 (kinds.Start (web 0)) (Some (codes "dep")) (Some hard_g1) ((web 0) ∷ []) [] [] None)
    ∷ Note (upd_begin 4 (web 0))
    ∷ [])
    ++ (called 12 4 0 (Instance (web 0)) (calls.CreateVm (plain z1 10) (1 ∷ [])) true (answers.Cid 2))
    ++ called 13 4 0 (Instance (web 0)) (calls.AttachDisk 2 1) true answers.Done
    ++ called 14 4 0 (Instance (web 0)) (calls.MountDisk 2 1) true answers.Done
    ++ called 15 4 0 (Instance (web 0)) (calls.Apply 2 no_jobs) true answers.Done
    ++ called 16 4 0 (Instance (web 0)) (calls.Start 2) true answers.Done
    ++ (Note (upd_done 4 (web 0)) ∷ Note (entries.TaskDone 4) ∷ said 6 ∷ [])

-- A delete_disk of a disk that is in a row.
abbrev pub disk_of_a_row_deleted : History
disk_of_a_row_deleted built =
    part 1 43 (hard built)
    ++ (Note (opening 3 (kinds.DeleteDisk 1) None None [] [] (1 ∷ []) None) ∷ [])
    ++ (Note (beginning_of 12 3 0 (Disk 1) (calls.DeleteDisk 1)) ∷ [])
    ++ (did 12 true answers.Done ∷ [])

-- A deploy that makes a machine for a detached instance.
abbrev pub machine_of_detached : History
machine_of_detached built =
    part 1 44 (hard built)
    ++ (Note (beginning_of 12 3 0 (Instance (web 0)) (calls.CreateVm (plain z1 10) (1 ∷ []))) ∷ [])
