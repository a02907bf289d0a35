-- A Begin that was kept and whose call nobody made.
use Rattle.std.specs.Prelude.{true, false, codes, Some, None, [], ◌∷◌, ◌++◌}
use Rattle.bosh_base.specs.declared.answer.Answer.TheVariants as answers
use Rattle.bosh_base.specs.declared.call.Call.TheVariants as calls
use Rattle.bosh_base.specs.declared.entry.Entry.TheVariants as entries
use Rattle.bosh_base.specs.declared.failure.Failure.TheVariants as failures
use Rattle.bosh_base.specs.declared.goal.Goal.{Goal}
use Rattle.bosh_base.specs.declared.moves.Cause.TheVariants as causes
use Rattle.bosh_base.specs.declared.moves.Move.TheVariants.{Note, Halt}
use Rattle.bosh_base.specs.declared.owner.Owner.TheVariants.{Instance}
use Rattle.bosh_base.specs.declared.state.State.TheVariants.{Running}
use Rattle.bosh_base.specs.declared.task.TaskKind.TheVariants as kinds
use Rattle.examples_histories.specs.Scenes.{History, sourced, opening, beginning_of, upd_begin, upd_done, task_error, stop, said, called, part}
use Rattle.examples_histories.specs.Values.{web, z1, plain, no_jobs, row, group, goal}

abbrev pub kept_begin_g1 : Goal
kept_begin_g1 =
    goal (codes "dep") (row (web 0) (plain z1 10) no_jobs None Running 0 ∷ []) (group (codes "web") 1 1 ∷ []) [] [] []
    []

abbrev pub kept_begin : History
kept_begin built =
    (said 3
    ∷ Note (opening 1 kinds.Deploy (Some (codes "dep")) (Some kept_begin_g1) ((web 0) ∷ []) [] [] sourced)
    ∷ Note (upd_begin 1 (web 0))
    ∷ Halt causes.Stop
    ∷ said 4
    ∷ stop (Some (beginning_of 1 1 0 (Instance (web 0)) (calls.CreateVm (plain z1 10) []))) [] None
    ∷ Note (task_error 1 failures.Interrupted)
    ∷ said 5
    ∷ Note (opening 2 kinds.Deploy (Some (codes "dep")) (Some kept_begin_g1) ((web 0) ∷ []) [] [] sourced)
    ∷ Note (upd_begin 2 (web 0))
    ∷ [])
    ++ called 2 2 0 (Instance (web 0)) (calls.FindVm 1) false (answers.Found None)
    ++ called 3 2 0 (Instance (web 0)) (calls.CreateVm (plain z1 10) []) true (answers.Cid 1)
    ++ called 4 2 0 (Instance (web 0)) (calls.Apply 1 no_jobs) true answers.Done
    ++ called 5 2 0 (Instance (web 0)) (calls.Start 1) true answers.Done
    ++ (Note (upd_done 2 (web 0)) ∷ Note (entries.TaskDone 2) ∷ said 6 ∷ [])

-- A Stop that keeps a Begin and took its call.
abbrev pub kept_and_took : History
kept_and_took built =
    part 1 5 (kept_begin built)
    ++ (stop (Some (beginning_of 1 1 0 (Instance (web 0)) (calls.CreateVm (plain z1 10) []))) (1 ∷ []) None ∷ [])

-- The kept Begin's number given again.
abbrev pub kept_number_again : History
kept_number_again built =
    part 1 10 (kept_begin built)
    ++ (Note (beginning_of 1 2 0 (Instance (web 0)) (calls.FindVm 1)) ∷ [])
