-- A stop after create_vm, then another machine is wanted.
use Rattle.std.specs.Prelude.{true, false, codes, Some, None, [], ◌∷◌, ◌++◌}
use Rattle.bosh_base.specs.declared.answer.Answer.TheVariants as answers
use Rattle.bosh_base.specs.declared.call.Call.TheVariants as calls
use Rattle.bosh_base.specs.declared.entry.Entry.TheVariants as entries
use Rattle.bosh_base.specs.declared.failure.Failure.TheVariants as failures
use Rattle.bosh_base.specs.declared.goal.Goal.{Goal}
use Rattle.bosh_base.specs.declared.moves.Cause.TheVariants as causes
use Rattle.bosh_base.specs.declared.moves.Move.TheVariants.{Note, Halt}
use Rattle.bosh_base.specs.declared.owner.Owner.TheVariants.{Instance}
use Rattle.bosh_base.specs.declared.state.State.TheVariants.{Running}
use Rattle.bosh_base.specs.declared.task.TaskKind.TheVariants as kinds
use Rattle.examples_histories.specs.Scenes.{History, sourced, opening, beginning_of, ending, upd_begin, upd_done, task_error, config, did, stop, said, called, part}
use Rattle.examples_histories.specs.Values.{web, z1, plain, big, no_jobs, row, group, goal}

abbrev pub stopped_g1 : Goal
stopped_g1 =
    goal (codes "dep") (row (web 0) (plain z1 10) no_jobs None Running 0 ∷ []) (group (codes "web") 1 1 ∷ []) [] [] []
    []

abbrev pub stopped_g2 : Goal
stopped_g2 =
    goal (codes "dep") (row (web 0) (big z1 10) no_jobs None Running 0 ∷ []) (group (codes "web") 1 1 ∷ []) [] [] []
    []

abbrev pub stopped : History
stopped built =
    (said 3
    ∷ Note (opening 1 kinds.Deploy (Some (codes "dep")) (Some stopped_g1) ((web 0) ∷ []) [] [] sourced)
    ∷ Note (upd_begin 1 (web 0))
    ∷ Note (beginning_of 1 1 0 (Instance (web 0)) (calls.CreateVm (plain z1 10) []))
    ∷ Halt causes.Stop
    ∷ said 4
    ∷ stop None (1 ∷ []) None
    ∷ Note (task_error 1 failures.Interrupted)
    ∷ said 5
    ∷ Note (opening 2 kinds.Deploy (Some (codes "dep")) (Some stopped_g2) ((web 0) ∷ []) [] [] sourced)
    ∷ Note (upd_begin 2 (web 0))
    ∷ [])
    ++ called 2 2 0 (Instance (web 0)) (calls.FindVm 1) false (answers.Found (Some 1))
    ++ called 3 2 0 (Instance (web 0)) (calls.DeleteVm 1) true answers.Done
    ++ called 4 2 0 (Instance (web 0)) (calls.CreateVm (big z1 10) []) true (answers.Cid 2)
    ++ called 5 2 0 (Instance (web 0)) (calls.Apply 2 no_jobs) true answers.Done
    ++ called 6 2 0 (Instance (web 0)) (calls.Start 2) true answers.Done
    ++ (Note (upd_done 2 (web 0)) ∷ Note (entries.TaskDone 2) ∷ said 6 ∷ [])

-- A second machine after a restart.
abbrev pub second_machine_after_restart : History
second_machine_after_restart built =
    part 1 11 (stopped built)
    ++ (Note (beginning_of 2 2 0 (Instance (web 0)) (calls.CreateVm (big z1 10) [])) ∷ [])
    ++ (did 2 true (answers.Cid 2) ∷ [])

-- The same where the stopped call had no effect.
abbrev pub second_machine_in_luck : History
second_machine_in_luck built =
    part 1 6 (stopped built)
    ++ (stop None [] None ∷ [])
    ++ part 8 11 (stopped built)
    ++ (Note (beginning_of 2 2 0 (Instance (web 0)) (calls.CreateVm (big z1 10) [])) ∷ [])
    ++ (did 2 true (answers.Cid 1) ∷ [])

-- A lock kept after a restart: the interrupted task goes on, to its end.
abbrev pub lock_kept_after_restart : History
lock_kept_after_restart built =
    part 1 7 (stopped built)
    ++ (Note (beginning_of 2 1 0 (Instance (web 0)) (calls.FindVm 1)) ∷ [])
    ++ (did 2 false (answers.Found (Some 1)) ∷ [])
    ++ (Note (ending 2 (answers.Found (Some 1))) ∷ [])
    ++ (Note (beginning_of 3 1 0 (Instance (web 0)) (calls.Apply 1 no_jobs)) ∷ [])
    ++ (did 3 true answers.Done ∷ [])
    ++ (Note (ending 3 answers.Done) ∷ [])
    ++ (Note (beginning_of 4 1 0 (Instance (web 0)) (calls.Start 1)) ∷ [])
    ++ (did 4 true answers.Done ∷ [])
    ++ (Note (ending 4 answers.Done) ∷ [])
    ++ (Note (upd_done 1 (web 0)) ∷ [])
    ++ (Note (entries.TaskDone 1) ∷ [])

-- A deploy opened before the interrupted one has its end.
abbrev pub opened_before_end : History
opened_before_end built =
    part 1 7 (stopped built)
    ++ part 10 10 (stopped built)

-- A config noted before the interrupted task has its end.
abbrev pub config_before_end : History
config_before_end built =
    part 1 7 (stopped built)
    ++ (Note config ∷ [])

-- The interrupted task begins a call and is then ended.
abbrev pub interrupted_with_open_call : History
interrupted_with_open_call built =
    part 1 7 (stopped built)
    ++ (Note (beginning_of 2 1 0 (Instance (web 0)) (calls.FindVm 1)) ∷ [])
    ++ part 8 8 (stopped built)

-- The interrupted task's next Begin, kept by a second Stop.
abbrev pub kept_before_end : History
kept_before_end built =
    part 1 7 (stopped built)
    ++ (Halt causes.Store ∷ [])
    ++ (stop (Some (beginning_of 2 1 0 (Instance (web 0)) (calls.FindVm 1))) [] None ∷ [])

-- A Stop whose took names a call that had its Did.
abbrev pub took_with_did : History
took_with_did built =
    part 1 4 (stopped built)
    ++ (did 1 true (answers.Cid 1) ∷ [])
    ++ part 5 7 (stopped built)

-- A took that names a call which was never begun.
abbrev pub took_unknown : History
took_unknown built =
    part 1 6 (stopped built)
    ++ (stop None (1 ∷ 2 ∷ []) None ∷ [])

-- A Stop whose kept was not permitted at the Halt: an End without its Did.
abbrev pub kept_end : History
kept_end built =
    part 1 6 (stopped built)
    ++ (stop (Some (ending 1 (answers.Cid 1))) (1 ∷ []) None ∷ [])

-- A Stop whose kept was not permitted at the Halt: a TaskDone.
abbrev pub kept_task_done : History
kept_task_done built =
    part 1 6 (stopped built)
    ++ (stop (Some (entries.TaskDone 1)) (1 ∷ []) None ∷ [])

-- A Did between a Halt and its Stop.
abbrev pub did_after_halt : History
did_after_halt built =
    part 1 5 (stopped built)
    ++ (did 1 true (answers.Cid 1) ∷ [])

-- A Note between a Halt and its Stop.
abbrev pub note_after_halt : History
note_after_halt built =
    part 1 5 (stopped built)
    ++ part 8 8 (stopped built)

-- A Halt after a Halt.
abbrev pub halt_twice : History
halt_twice built =
    part 1 5 (stopped built)
    ++ part 5 5 (stopped built)

-- A Stop without a Halt.
abbrev pub stop_without_halt : History
stop_without_halt built =
    part 1 4 (stopped built)
    ++ part 7 7 (stopped built)

-- A Did of a call that the Stop closed.
abbrev pub did_after_stop : History
did_after_stop built =
    part 1 6 (stopped built)
    ++ (stop None [] None ∷ [])
    ++ (did 1 true (answers.Cid 1) ∷ [])

-- An End of a call that the Stop closed.
abbrev pub end_after_stop : History
end_after_stop built =
    part 1 4 (stopped built)
    ++ (did 1 true (answers.Cid 1) ∷ [])
    ++ part 5 6 (stopped built)
    ++ (stop None [] None ∷ [])
    ++ part 8 8 (stopped built)
    ++ (Note (ending 1 (answers.Cid 1)) ∷ [])
