-- A failed call that had its effect.
use Rattle.std.specs.Prelude.{true, false, codes, Some, None, [], ◌∷◌, ◌++◌}
use Rattle.bosh_base.specs.declared.answer.Answer.TheVariants as answers
use Rattle.bosh_base.specs.declared.call.Call.TheVariants as calls
use Rattle.bosh_base.specs.declared.entry.Entry.TheVariants as entries
use Rattle.bosh_base.specs.declared.failure.Failure.TheVariants as failures
use Rattle.bosh_base.specs.declared.goal.Goal.{Goal}
use Rattle.bosh_base.specs.declared.moves.Cause.TheVariants as causes
use Rattle.bosh_base.specs.declared.moves.Move.TheVariants.{Note, Halt}
use Rattle.bosh_base.specs.declared.owner.Owner.TheVariants.{Instance}
use Rattle.bosh_base.specs.declared.state.State.TheVariants.{Running}
use Rattle.bosh_base.specs.declared.task.TaskKind.TheVariants as kinds
use Rattle.examples_histories.specs.Scenes.{History, sourced, opening, upd_begin, upd_done, task_error, stop, said, called, part}
use Rattle.examples_histories.specs.Values.{web, z1, plain, no_jobs, row, group, goal}

abbrev pub late_g1 : Goal
late_g1 =
    goal (codes "dep") (row (web 0) (plain z1 10) no_jobs None Running 0 ∷ []) (group (codes "web") 1 1 ∷ []) [] [] []
    []

abbrev pub late : History
late built =
    (said 3
    ∷ Note (opening 1 kinds.Deploy (Some (codes "dep")) (Some late_g1) ((web 0) ∷ []) [] [] sourced)
    ∷ Note (upd_begin 1 (web 0))
    ∷ [])
    ++ called 1 1 0 (Instance (web 0)) (calls.CreateVm (plain z1 10) []) true answers.Failed
    ++
    (Note (task_error 1 (failures.Call 1))
    ∷ said 4
    ∷ Note (opening 2 kinds.Deploy (Some (codes "dep")) (Some late_g1) ((web 0) ∷ []) [] [] sourced)
    ∷ Note (upd_begin 2 (web 0))
    ∷ [])
    ++ called 2 2 0 (Instance (web 0)) (calls.FindVm 1) false (answers.Found (Some 1))
    ++ called 3 2 0 (Instance (web 0)) (calls.Apply 1 no_jobs) true answers.Done
    ++ called 4 2 0 (Instance (web 0)) (calls.Start 1) true answers.Done
    ++ (Note (upd_done 2 (web 0)) ∷ Note (entries.TaskDone 2) ∷ said 5 ∷ [])

-- A took that names a call which changes nothing.
abbrev pub took_probe : History
took_probe built =
    part 1 11 (late built)
    ++ (Halt causes.Stop ∷ [])
    ++ (stop None (2 ∷ []) None ∷ [])
