-- A lost machine.
use Rattle.std.specs.Prelude.{true, false, codes, Some, None, [], ◌∷◌, ◌++◌}
use Rattle.bosh_base.specs.declared.answer.Answer.TheVariants as answers
use Rattle.bosh_base.specs.declared.call.Call.TheVariants as calls
use Rattle.bosh_base.specs.declared.entry.Entry.TheVariants as entries
use Rattle.bosh_base.specs.declared.failure.Failure.TheVariants as failures
use Rattle.bosh_base.specs.declared.goal.Goal.{Goal}
use Rattle.bosh_base.specs.declared.moves.Move.TheVariants.{Note}
use Rattle.bosh_base.specs.declared.owner.Owner.TheVariants.{Instance}
use Rattle.bosh_base.specs.declared.state.State.TheVariants.{Running}
use Rattle.bosh_base.specs.declared.task.TaskKind.TheVariants as kinds
use Rattle.examples_histories.specs.Scenes.{History, sourced, opening, upd_begin, upd_done, task_error, loss, said, called, part}
use Rattle.examples_histories.specs.Values.{web, z1, z2, plain, no_jobs, row, group, goal}
use Rattle.examples_histories.specs.Two.{two}

abbrev pub lost_g1 : Goal
lost_g1 =
    goal (codes "dep")
    (row (web 0) (plain z1 10) no_jobs None Running 0 ∷ row (web 1) (plain z2 11) no_jobs None Running 0 ∷ [])
    (group (codes "web") 1 1 ∷ []) [] [] [] []

abbrev pub lost : History
lost built =
    part 1 25 (two built)
    ++
    (loss 1 true
    ∷ said 4
    ∷ Note (opening 2 kinds.Deploy (Some (codes "dep")) (Some lost_g1) [] [] [] sourced)
    ∷ Note (entries.TaskDone 2)
    ∷ said 5
    ∷ Note (opening 3 kinds.Fix (Some (codes "dep")) (Some lost_g1) ((web 0) ∷ (web 1) ∷ []) [] [] sourced)
    ∷ [])
    ++ called 7 3 0 (Instance (web 0)) (calls.Ping 1) false answers.Gone
    ++ called 8 3 0 (Instance (web 1)) (calls.Ping 2) false answers.Done
    ++ (Note (upd_begin 3 (web 0)) ∷ [])
    ++ called 9 3 0 (Instance (web 0)) (calls.DeleteVm 1) false answers.Gone
    ++ called 10 3 0 (Instance (web 0)) (calls.CreateVm (plain z1 10) []) true (answers.Cid 3)
    ++ called 11 3 0 (Instance (web 0)) (calls.Apply 3 no_jobs) true answers.Done
    ++ called 12 3 0 (Instance (web 0)) (calls.Start 3) true answers.Done
    ++ (Note (upd_done 3 (web 0)) ∷ Note (upd_done 3 (web 1)) ∷ Note (entries.TaskDone 3) ∷ said 6 ∷ [])

-- A loss of a machine that is not there.
abbrev pub lost_twice : History
lost_twice built =
    part 1 26 (lost built)
    ++ part 26 26 (lost built)

-- A fix task that pings nobody.
abbrev pub fix_pings_nobody : History
fix_pings_nobody built =
    part 1 31 (lost built)
    ++ (Note (upd_done 3 (web 0)) ∷ [])
    ++ (Note (upd_done 3 (web 1)) ∷ [])
    ++ (Note (entries.TaskDone 3) ∷ [])

-- UpdDone of an instance that needs no call, before the canary's.
abbrev pub done_before_canary : History
done_before_canary built =
    part 1 37 (lost built)
    ++ (Note (upd_done 3 (web 1)) ∷ [])

-- Not wrong: the other machine is lost after its ping, and the fix goes on.
abbrev pub lost_after_ping : History
lost_after_ping built =
    part 1 37 (lost built)
    ++ (loss 2 true ∷ [])
    ++ part 38 53 (lost built)

-- TaskError that names the delete_vm of a lost row, no failed call.
abbrev pub deletion_called_gone : History
deletion_called_gone built =
    part 1 41 (lost built)
    ++ (Note (task_error 3 (failures.Gone 9)) ∷ [])
