-- Two in flight, and a stop in one of them.
use Rattle.std.specs.Prelude.{true, false, codes, Some, None, [], ◌∷◌, ◌++◌}
use Rattle.bosh_base.specs.declared.answer.Answer.TheVariants as answers
use Rattle.bosh_base.specs.declared.call.Call.TheVariants as calls
use Rattle.bosh_base.specs.declared.entry.Entry.TheVariants as entries
use Rattle.bosh_base.specs.declared.failure.Failure.TheVariants as failures
use Rattle.bosh_base.specs.declared.goal.Goal.{Goal}
use Rattle.bosh_base.specs.declared.moves.Cause.TheVariants as causes
use Rattle.bosh_base.specs.declared.moves.Move.TheVariants.{Note, Halt}
use Rattle.bosh_base.specs.declared.owner.Owner.TheVariants.{Instance}
use Rattle.bosh_base.specs.declared.state.State.TheVariants.{Running}
use Rattle.bosh_base.specs.declared.task.TaskKind.TheVariants as kinds
use Rattle.examples_histories.specs.Scenes.{History, sourced, opening, beginning_of, ending, upd_begin, upd_done, task_error, did, stop, called, part}
use Rattle.examples_histories.specs.Values.{web, z1, z2, plain, no_jobs, row, group, goal}

abbrev pub flight_g1 : Goal
flight_g1 =
    goal (codes "dep")
    (row (web 0) (plain z1 10) no_jobs None Running 0
    ∷ row (web 1) (plain z2 11) no_jobs None Running 0
    ∷ row (web 2) (plain z1 12) no_jobs None Running 0
    ∷ [])
    (group (codes "web") 0 2 ∷ []) [] [] [] []

abbrev pub flight : History
flight built =
    (Note
    (opening 1 kinds.Deploy (Some (codes "dep")) (Some flight_g1) ((web 0) ∷ (web 1) ∷ (web 2) ∷ []) [] [] sourced)
    ∷ Note (upd_begin 1 (web 0))
    ∷ Note (beginning_of 1 1 0 (Instance (web 0)) (calls.CreateVm (plain z1 10) []))
    ∷ Note (upd_begin 1 (web 1))
    ∷ Note (beginning_of 2 1 1 (Instance (web 1)) (calls.CreateVm (plain z2 11) []))
    ∷ did 2 true (answers.Cid 1)
    ∷ Halt causes.Stop
    ∷ stop None (1 ∷ []) None
    ∷ Note (task_error 1 failures.Interrupted)
    ∷ Note
    (opening 2 kinds.Deploy (Some (codes "dep")) (Some flight_g1) ((web 0) ∷ (web 1) ∷ (web 2) ∷ []) [] [] sourced)
    ∷ Note (upd_begin 2 (web 0))
    ∷ [])
    ++ called 3 2 0 (Instance (web 0)) (calls.FindVm 1) false (answers.Found (Some 2))
    ++ called 4 2 0 (Instance (web 0)) (calls.Apply 2 no_jobs) true answers.Done
    ++ called 5 2 0 (Instance (web 0)) (calls.Start 2) true answers.Done
    ++ (Note (upd_done 2 (web 0)) ∷ Note (upd_begin 2 (web 1)) ∷ [])
    ++ called 6 2 0 (Instance (web 1)) (calls.FindVm 2) false (answers.Found (Some 1))
    ++ called 7 2 0 (Instance (web 1)) (calls.Apply 1 no_jobs) true answers.Done
    ++ called 8 2 0 (Instance (web 1)) (calls.Start 1) true answers.Done
    ++ (Note (upd_done 2 (web 1)) ∷ Note (upd_begin 2 (web 2)) ∷ [])
    ++ called 9 2 0 (Instance (web 2)) (calls.CreateVm (plain z1 12) []) true (answers.Cid 3)
    ++ called 10 2 0 (Instance (web 2)) (calls.Apply 3 no_jobs) true answers.Done
    ++ called 11 2 0 (Instance (web 2)) (calls.Start 3) true answers.Done
    ++ (Note (upd_done 2 (web 2)) ∷ Note (entries.TaskDone 2) ∷ [])

-- An instance begun after a failed call.
abbrev pub begun_after_failure : History
begun_after_failure built =
    part 1 3 (flight built)
    ++ (did 1 false answers.Failed ∷ [])
    ++ (Note (ending 1 answers.Failed) ∷ [])
    ++ (Note (upd_begin 1 (web 1)) ∷ [])

-- A third instance in flight.
abbrev pub third_in_flight : History
third_in_flight built =
    part 1 5 (flight built)
    ++ (Note (upd_begin 1 (web 2)) ∷ [])

-- A took that names the call with a Did beside the open one.
abbrev pub took_done_and_open : History
took_done_and_open built =
    part 1 7 (flight built)
    ++ (stop None (1 ∷ 2 ∷ []) None ∷ [])

-- A took out of order.
abbrev pub took_out_of_order : History
took_out_of_order built =
    part 1 5 (flight built)
    ++ part 7 7 (flight built)
    ++ (stop None (2 ∷ 1 ∷ []) None ∷ [])

-- Not wrong: both calls open at the Halt, and both had their effect.
abbrev pub took_both : History
took_both built =
    part 1 5 (flight built)
    ++ part 7 7 (flight built)
    ++ (stop None (1 ∷ 2 ∷ []) None ∷ [])
    ++ part 9 9 (flight built)
