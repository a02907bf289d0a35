-- An obsolete instance's disk, and a stop in the clean-up.
use Rattle.std.specs.Prelude.{false, codes, Some, None, [], ◌∷◌, ◌++◌}
use Rattle.bosh_base.specs.declared.answer.Answer.TheVariants as answers
use Rattle.bosh_base.specs.declared.call.Call.TheVariants as calls
use Rattle.bosh_base.specs.declared.entry.Entry.TheVariants as entries
use Rattle.bosh_base.specs.declared.failure.Failure.TheVariants as failures
use Rattle.bosh_base.specs.declared.goal.Goal.{Goal}
use Rattle.bosh_base.specs.declared.moves.Cause.TheVariants as causes
use Rattle.bosh_base.specs.declared.moves.Move.TheVariants.{Note, Halt}
use Rattle.bosh_base.specs.declared.owner.Owner.TheVariants.{Disk}
use Rattle.bosh_base.specs.declared.state.State.TheVariants.{Running}
use Rattle.bosh_base.specs.declared.task.TaskKind.TheVariants as kinds
use Rattle.examples_histories.specs.Scenes.{History, sourced, opening, beginning_of, gone, task_error, stop, said, called, part}
use Rattle.examples_histories.specs.Values.{web, z1, plain, no_jobs, disk, row, group, goal}
use Rattle.examples_histories.specs.Migrated.{machine_deleted, migrated}

abbrev pub orphan_g1 : Goal
orphan_g1 =
    goal (codes "dep") (row (web 0) (plain z1 10) no_jobs (Some (disk 10)) Running 0 ∷ [])
    (group (codes "web") 1 1 ∷ []) [] [] [] []

abbrev pub orphan_g2 : Goal
orphan_g2 =
    goal (codes "dep") [] (group (codes "web") 1 1 ∷ []) [] [] [] []

abbrev pub orphan : History
orphan built =
    part 1 23 (migrated built)
    ++ (Note (opening 2 kinds.Deploy (Some (codes "dep")) (Some orphan_g2) [] ((web 0) ∷ []) [] sourced) ∷ [])
    ++ machine_deleted
    ++
    (Note (gone 2 (web 0))
    ∷ Note (entries.TaskDone 2)
    ∷ said 4
    ∷ said 5
    ∷ Note (opening 3 kinds.CleanUp None None [] [] (1 ∷ []) None)
    ∷ Note (beginning_of 12 3 0 (Disk 1) (calls.DeleteDisk 1))
    ∷ Halt causes.Stop
    ∷ said 6
    ∷ stop None (12 ∷ []) None
    ∷ Note (task_error 3 failures.Interrupted)
    ∷ said 7
    ∷ Note (opening 4 kinds.CleanUp None None [] [] (1 ∷ []) None)
    ∷ [])
    ++ called 13 4 0 (Disk 1) (calls.HasDisk 1) false answers.No
    ++ (Note (entries.TaskDone 4) ∷ said 8 ∷ [])

-- Gone while a disk is attached.
abbrev pub gone_while_attached : History
gone_while_attached built =
    part 1 33 (orphan built)
    ++ (Note (gone 2 (web 0)) ∷ [])

-- TaskDone while an obsolete row has no Gone.
abbrev pub gone_left_out : History
gone_left_out built =
    part 1 39 (orphan built)
    ++ part 41 41 (orphan built)

-- A clean-up that is done and has deleted nothing.
abbrev pub clean_up_of_nothing : History
clean_up_of_nothing built =
    part 1 44 (orphan built)
    ++ (Note (entries.TaskDone 3) ∷ [])

-- A clean-up that lists no disk though one is orphaned.
abbrev pub clean_up_of_less : History
clean_up_of_less built =
    part 1 43 (orphan built)
    ++ (Note (opening 3 kinds.CleanUp None None [] [] [] None) ∷ [])
    ++ (Note (entries.TaskDone 3) ∷ [])

-- A clean-up that lists the orphaned disk twice.
abbrev pub clean_up_of_more : History
clean_up_of_more built =
    part 1 43 (orphan built)
    ++ (Note (opening 3 kinds.CleanUp None None [] [] (1 ∷ 1 ∷ []) None) ∷ [])

-- A deletion in doubt that is repeated without asking.
abbrev pub deletion_not_asked : History
deletion_not_asked built =
    part 1 51 (orphan built)
    ++ (Note (beginning_of 13 4 0 (Disk 1) (calls.DeleteDisk 1)) ∷ [])
