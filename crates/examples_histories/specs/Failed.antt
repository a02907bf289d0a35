-- A failed call.
use Rattle.std.specs.Prelude.{true, false, codes, Some, None, [], ◌∷◌, ◌++◌}
use Rattle.bosh_base.specs.declared.answer.Answer.TheVariants as answers
use Rattle.bosh_base.specs.declared.call.Call.TheVariants as calls
use Rattle.bosh_base.specs.declared.entry.Entry.TheVariants as entries
use Rattle.bosh_base.specs.declared.failure.Failure.TheVariants as failures
use Rattle.bosh_base.specs.declared.goal.Goal.{Goal}
use Rattle.bosh_base.specs.declared.moves.Move.TheVariants.{Note}
use Rattle.bosh_base.specs.declared.owner.Owner.TheVariants.{Instance}
use Rattle.bosh_base.specs.declared.state.State.TheVariants.{Running}
use Rattle.bosh_base.specs.declared.task.TaskKind.TheVariants as kinds
use Rattle.examples_histories.specs.Scenes.{History, sourced, opening, beginning_of, ending, upd_begin, upd_done, task_error, said, called, part}
use Rattle.examples_histories.specs.Values.{web, z1, z2, plain, no_jobs, row, group, goal}

abbrev pub failed_g1 : Goal
failed_g1 =
    goal (codes "dep")
    (row (web 0) (plain z1 10) no_jobs None Running 0 ∷ row (web 1) (plain z2 11) no_jobs None Running 0 ∷ [])
    (group (codes "web") 1 1 ∷ []) [] [] [] []

abbrev pub failed : History
failed built =
    (said 3
    ∷ Note (opening 1 kinds.Deploy (Some (codes "dep")) (Some failed_g1) ((web 0) ∷ (web 1) ∷ []) [] [] sourced)
    ∷ Note (upd_begin 1 (web 0))
    ∷ [])
    ++ called 1 1 0 (Instance (web 0)) (calls.CreateVm (plain z1 10) []) true (answers.Cid 1)
    ++ called 2 1 0 (Instance (web 0)) (calls.Apply 1 no_jobs) true answers.Done
    ++ called 3 1 0 (Instance (web 0)) (calls.Start 1) true answers.Done
    ++ (Note (upd_done 1 (web 0)) ∷ Note (upd_begin 1 (web 1)) ∷ [])
    ++ called 4 1 0 (Instance (web 1)) (calls.CreateVm (plain z2 11) []) true (answers.Cid 2)
    ++ called 5 1 0 (Instance (web 1)) (calls.Apply 2 no_jobs) true answers.Done
    ++ called 6 1 0 (Instance (web 1)) (calls.Start 2) false answers.Failed
    ++
    (Note (task_error 1 (failures.Call 6))
    ∷ said 4
    ∷ Note (opening 2 kinds.Deploy (Some (codes "dep")) (Some failed_g1) ((web 1) ∷ []) [] [] sourced)
    ∷ Note (upd_begin 2 (web 1))
    ∷ [])
    ++ called 7 2 0 (Instance (web 1)) (calls.GetState 2) false (answers.Facts (Some no_jobs) false false)
    ++ called 8 2 0 (Instance (web 1)) (calls.Start 2) true answers.Done
    ++ (Note (upd_done 2 (web 1)) ∷ Note (entries.TaskDone 2) ∷ said 5 ∷ [])

-- A Begin in a task that has a failed call.
abbrev pub work_after_failure : History
work_after_failure built =
    part 1 23 (failed built)
    ++ (Note (beginning_of 7 1 0 (Instance (web 1)) (calls.GetState 2)) ∷ [])

-- TaskDone of a task that has a failed call.
abbrev pub done_after_failure : History
done_after_failure built =
    part 1 23 (failed built)
    ++ (Note (entries.TaskDone 1) ∷ [])

-- TaskError that names another call than the least failed one.
abbrev pub other_call_blamed : History
other_call_blamed built =
    part 1 23 (failed built)
    ++ (Note (task_error 1 (failures.Call 5)) ∷ [])

-- An End that says Done of a call that failed.
abbrev pub failure_hidden : History
failure_hidden built =
    part 1 22 (failed built)
    ++ (Note (ending 6 answers.Done) ∷ [])

-- The next task starts the machine without asking.
abbrev pub doubt_forgotten : History
doubt_forgotten built =
    part 1 27 (failed built)
    ++ (Note (beginning_of 7 2 0 (Instance (web 1)) (calls.Start 2)) ∷ [])
