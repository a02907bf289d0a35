-- A process that was killed, and the next one.
use Rattle.std.specs.Prelude.{true, false, codes, Some, None, [], ◌∷◌, ◌++◌}
use Rattle.bosh_base.specs.declared.answer.Answer.TheVariants as answers
use Rattle.bosh_base.specs.declared.call.Call.TheVariants as calls
use Rattle.bosh_base.specs.declared.entry.Entry.TheVariants as entries
use Rattle.bosh_base.specs.declared.failure.Failure.TheVariants as failures
use Rattle.bosh_base.specs.declared.goal.Goal.{Goal}
use Rattle.bosh_base.specs.declared.moves.Move.TheVariants.{Note}
use Rattle.bosh_base.specs.declared.owner.Owner.TheVariants.{Instance}
use Rattle.bosh_base.specs.declared.state.State.TheVariants.{Running}
use Rattle.bosh_base.specs.declared.task.TaskKind.TheVariants as kinds
use Rattle.bosh_history.specs.Moments.{Moment, beginning}
use Rattle.examples_histories.specs.Scenes.{jammy, config, History, sourced, opening, beginning_of, upd_begin, upd_done, task_error, said, called, part}
use Rattle.examples_histories.specs.Values.{web, z1, plain, no_jobs, row, group, goal}

abbrev pub loaded_g1 : Goal
loaded_g1 =
    goal (codes "dep") (row (web 0) (plain z1 10) no_jobs None Running 0 ∷ []) (group (codes "web") 1 1 ∷ []) [] [] []
    []

abbrev pub loaded : History
loaded built =
    (Note (task_error 1 failures.Interrupted)
    ∷ Note (opening 2 kinds.Deploy (Some (codes "dep")) (Some loaded_g1) ((web 0) ∷ []) [] [] sourced)
    ∷ Note (upd_begin 2 (web 0))
    ∷ [])
    ++ called 2 2 0 (Instance (web 0)) (calls.FindVm 1) false (answers.Found (Some 1))
    ++ called 3 2 0 (Instance (web 0)) (calls.Apply 1 no_jobs) true answers.Done
    ++ called 4 2 0 (Instance (web 0)) (calls.Start 1) true answers.Done
    ++ (Note (upd_done 2 (web 0)) ∷ Note (entries.TaskDone 2) ∷ said 1 ∷ [])

-- The loaded task goes on.
abbrev pub loaded_lock_kept : History
loaded_lock_kept built =
    (Note (beginning_of 2 1 0 (Instance (web 0)) (calls.FindVm 1)) ∷ [])

-- A deploy opened before the loaded one has its end.
abbrev pub loaded_lock_ignored : History
loaded_lock_ignored built =
    part 2 2 (loaded built)

-- what a killed process leaves: a task was opened and its first call had its effect
abbrev pub loaded_on : Moment
loaded_on = beginning (record {
  entries = jammy ∷ config
      ∷ opening 1 kinds.Deploy (Some (codes "dep")) (Some loaded_g1) (web 0 ∷ []) [] [] sourced
      ∷ upd_begin 1 (web 0)
      ∷ beginning_of 1 1 0 (Instance (web 0)) (calls.CreateVm (plain z1 10) [])
      ∷ [];
  effects =
      entries.Effect
      (record { n = 1; owner = Instance (web 0); dep = codes "dep"; call = calls.CreateVm (plain z1 10) [] })
      ∷ [];
})
