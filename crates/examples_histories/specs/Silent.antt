-- A silent agent.
use Rattle.std.specs.Prelude.{true, false, codes, Some, None, [], ◌∷◌, ◌++◌}
use Rattle.bosh_base.specs.declared.answer.Answer.TheVariants as answers
use Rattle.bosh_base.specs.declared.call.Call.TheVariants as calls
use Rattle.bosh_base.specs.declared.entry.Entry.TheVariants as entries
use Rattle.bosh_base.specs.declared.failure.Failure.TheVariants as failures
use Rattle.bosh_base.specs.declared.goal.Goal.{Goal}
use Rattle.bosh_base.specs.declared.moves.Cause.TheVariants as causes
use Rattle.bosh_base.specs.declared.moves.Move.TheVariants.{Note, Halt}
use Rattle.bosh_base.specs.declared.owner.Owner.TheVariants.{Instance}
use Rattle.bosh_base.specs.declared.state.State.TheVariants.{Running}
use Rattle.bosh_base.specs.declared.task.TaskKind.TheVariants as kinds
use Rattle.examples_histories.specs.Scenes.{History, sourced, opening, beginning_of, upd_begin, upd_done, task_error, did, loss, stop, said, called, part}
use Rattle.examples_histories.specs.Values.{web, z1, z2, plain, no_jobs, row, group, goal}
use Rattle.examples_histories.specs.Two.{two}

abbrev pub silent_g1 : Goal
silent_g1 =
    goal (codes "dep")
    (row (web 0) (plain z1 10) no_jobs None Running 0 ∷ row (web 1) (plain z2 11) no_jobs None Running 0 ∷ [])
    (group (codes "web") 1 1 ∷ []) [] [] [] []

abbrev pub silent_g2 : Goal
silent_g2 =
    goal (codes "dep")
    (row (web 0) (plain z1 10) no_jobs None Running 6 ∷ row (web 1) (plain z2 11) no_jobs None Running 0 ∷ [])
    (group (codes "web") 1 1 ∷ []) [] [] [] []

abbrev pub silent : History
silent built =
    part 1 25 (two built)
    ++
    (loss 1 false
    ∷ said 4
    ∷ Note (opening 2 (kinds.Recreate (web 0)) (Some (codes "dep")) (Some silent_g2) ((web 0) ∷ []) [] [] None)
    ∷ Note (upd_begin 2 (web 0))
    ∷ [])
    ++ called 7 2 0 (Instance (web 0)) (calls.Drain 1) false answers.Gone
    ++
    (Note (task_error 2 (failures.Gone 7))
    ∷ said 5
    ∷ Note (opening 3 kinds.Fix (Some (codes "dep")) (Some silent_g1) ((web 0) ∷ (web 1) ∷ []) [] [] sourced)
    ∷ [])
    ++ called 8 3 0 (Instance (web 0)) (calls.Ping 1) false answers.Gone
    ++ called 9 3 0 (Instance (web 1)) (calls.Ping 2) false answers.Done
    ++ (Note (upd_begin 3 (web 0)) ∷ [])
    ++ called 10 3 0 (Instance (web 0)) (calls.DeleteVm 1) true answers.Done
    ++ called 11 3 0 (Instance (web 0)) (calls.CreateVm (plain z1 10) []) true (answers.Cid 3)
    ++ called 12 3 0 (Instance (web 0)) (calls.Apply 3 no_jobs) true answers.Done
    ++ called 13 3 0 (Instance (web 0)) (calls.Start 3) true answers.Done
    ++ (Note (upd_done 3 (web 0)) ∷ Note (upd_done 3 (web 1)) ∷ Note (entries.TaskDone 3) ∷ said 6 ∷ [])

-- A Begin after a call that was answered Gone.
abbrev pub work_after_gone : History
work_after_gone built =
    part 1 32 (silent built)
    ++ (Note (beginning_of 8 2 0 (Instance (web 0)) (calls.Drain 1)) ∷ [])

-- A machine made beside the silent one.
abbrev pub made_beside_silent : History
made_beside_silent built =
    part 1 42 (silent built)
    ++ (Note (beginning_of 10 3 0 (Instance (web 0)) (calls.CreateVm (plain z1 10) [])) ∷ [])

-- TaskError that calls a gone call failed.
abbrev pub gone_called_failed : History
gone_called_failed built =
    part 1 32 (silent built)
    ++ (Note (task_error 2 (failures.Call 7)) ∷ [])

-- A failed call to a silent machine that had an effect.
abbrev pub effect_on_silent : History
effect_on_silent built =
    part 1 30 (silent built)
    ++ (did 7 true answers.Failed ∷ [])

-- A took that names a call to a silent machine.
abbrev pub took_on_silent : History
took_on_silent built =
    part 1 30 (silent built)
    ++ (Halt causes.Stop ∷ [])
    ++ (stop None (7 ∷ []) None ∷ [])
