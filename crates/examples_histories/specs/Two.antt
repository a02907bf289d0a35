-- Two bare instances.
use Rattle.std.specs.Prelude.{true, false, codes, Some, None, [], ◌∷◌, ◌++◌}
use Rattle.bosh_base.specs.declared.answer.Answer.TheVariants as answers
use Rattle.bosh_base.specs.declared.call.Call.TheVariants as calls
use Rattle.bosh_base.specs.declared.entry.Entry.TheVariants as entries
use Rattle.bosh_base.specs.declared.failure.Failure.TheVariants as failures
use Rattle.bosh_base.specs.declared.goal.Goal.{Goal}
use Rattle.bosh_base.specs.declared.moves.Cause.TheVariants as causes
use Rattle.bosh_base.specs.declared.moves.Move.TheVariants.{Note, Halt}
use Rattle.bosh_base.specs.declared.owner.Owner.TheVariants.{Instance}
use Rattle.bosh_base.specs.declared.state.State.TheVariants.{Running}
use Rattle.bosh_base.specs.declared.task.TaskKind.TheVariants as kinds
use Rattle.examples_histories.specs.Scenes.{History, sourced, opening, beginning_of, ending, upd_begin, upd_done, task_error, did, stop, said, called, part, earlier_calls}
use Rattle.examples_histories.specs.Values.{web, z1, z2, plain, no_jobs, row, group, goal}

abbrev pub two_g1 : Goal
two_g1 =
    goal (codes "dep")
    (row (web 0) (plain z1 10) no_jobs None Running 0 ∷ row (web 1) (plain z2 11) no_jobs None Running 0 ∷ [])
    (group (codes "web") 1 1 ∷ []) [] [] [] []

abbrev pub two : History
two built =
    (Note (opening 1 kinds.Deploy (Some (codes "dep")) (Some two_g1) ((web 0) ∷ (web 1) ∷ []) [] [] sourced)
    ∷ Note (upd_begin 1 (web 0))
    ∷ [])
    ++ called 1 1 0 (Instance (web 0)) (calls.CreateVm (plain z1 10) []) true (answers.Cid 1)
    ++ called 2 1 0 (Instance (web 0)) (calls.Apply 1 no_jobs) true answers.Done
    ++ called 3 1 0 (Instance (web 0)) (calls.Start 1) true answers.Done
    ++ (Note (upd_done 1 (web 0)) ∷ Note (upd_begin 1 (web 1)) ∷ [])
    ++ called 4 1 0 (Instance (web 1)) (calls.CreateVm (plain z2 11) []) true (answers.Cid 2)
    ++ called 5 1 0 (Instance (web 1)) (calls.Apply 2 no_jobs) true answers.Done
    ++ called 6 1 0 (Instance (web 1)) (calls.Start 2) true answers.Done
    ++ (Note (upd_done 1 (web 1)) ∷ Note (entries.TaskDone 1) ∷ said 3 ∷ [])

-- An End without its Did.
abbrev pub answers_without_asking : History
answers_without_asking built =
    part 1 3 (two built)
    ++ part 5 5 (two built)

-- A Did answered otherwise than the cloud's table.
abbrev pub did_otherwise : History
did_otherwise built =
    part 1 3 (two built)
    ++ (did 1 true (answers.Cid 7) ∷ [])
    ++ (Note (ending 1 (answers.Cid 7)) ∷ [])

-- A Did that answers and does nothing.
abbrev pub did_without_effect : History
did_without_effect built =
    part 1 3 (two built)
    ++ (did 1 false (answers.Cid 1) ∷ [])
    ++ part 5 5 (two built)

-- A Did twice.
abbrev pub did_twice : History
did_twice built =
    part 1 4 (two built)
    ++ (did 1 true (answers.Cid 2) ∷ [])

-- A Did twice, of a call whose effect may be repeated.
abbrev pub did_twice_unseen : History
did_twice_unseen built =
    part 1 7 (two built)
    ++ part 7 7 (two built)

-- A Begin of a step that is not the row's next.
abbrev pub not_the_next_step : History
not_the_next_step built =
    part 1 5 (two built)
    ++ (Note (beginning_of 2 1 0 (Instance (web 0)) (calls.Start 1)) ∷ [])

-- A Begin while the owner has an open call.
abbrev pub owner_busy : History
owner_busy built =
    part 1 3 (two built)
    ++ (Note (beginning_of 2 1 0 (Instance (web 0)) (calls.CreateVm (plain z1 10) [])) ∷ [])

-- A Begin with a skipped number.
abbrev pub number_skipped : History
number_skipped built =
    part 1 5 (two built)
    ++ (Note (beginning_of 3 1 0 (Instance (web 0)) (calls.Apply 1 no_jobs)) ∷ [])

-- A Begin of a changed instance without its UpdBegin.
abbrev pub not_begun : History
not_begun built =
    part 1 1 (two built)
    ++ part 3 3 (two built)

-- An UpdBegin twice.
abbrev pub begun_twice : History
begun_twice built =
    part 1 2 (two built)
    ++ part 2 2 (two built)

-- UpdDone while a step is left.
abbrev pub done_too_early : History
done_too_early built =
    part 1 8 (two built)
    ++ (Note (upd_done 1 (web 0)) ∷ [])
    ++ earlier_calls (part 13 24 (two built))

-- TaskDone while a changed instance has no UpdDone.
abbrev pub task_done_too_early : History
task_done_too_early built =
    part 1 12 (two built)
    ++ part 24 24 (two built)

-- A TaskOpen while the deployment's task is open.
abbrev pub lock_taken : History
lock_taken built =
    part 1 5 (two built)
    ++ (Note (opening 2 kinds.Deploy (Some (codes "dep")) (Some two_g1) ((web 0) ∷ (web 1) ∷ []) [] [] sourced) ∷ [])

-- A TaskOpen with a skipped number.
abbrev pub number_of_task : History
number_of_task built =
    (Note (opening 2 kinds.Deploy (Some (codes "dep")) (Some two_g1) ((web 0) ∷ (web 1) ∷ []) [] [] sourced) ∷ [])

-- A deploy's TaskOpen without a source.
abbrev pub no_source : History
no_source built =
    (Note (opening 1 kinds.Deploy (Some (codes "dep")) (Some two_g1) ((web 0) ∷ (web 1) ∷ []) [] [] None) ∷ [])

-- A TaskOpen whose changed leaves out an instance that does not stand.
abbrev pub changed_left_out : History
changed_left_out built =
    (Note (opening 1 kinds.Deploy (Some (codes "dep")) (Some two_g1) ((web 0) ∷ []) [] [] sourced) ∷ [])
    ++ part 2 12 (two built)
    ++ part 24 24 (two built)

-- TaskError interrupted without a Stop.
abbrev pub interrupted_without_stop : History
interrupted_without_stop built =
    part 1 12 (two built)
    ++ (Note (task_error 1 failures.Interrupted) ∷ [])

abbrev pub one_address_goal : Goal
one_address_goal =
    goal (codes "dep")
    (row (web 0) (plain z1 10) no_jobs None Running 0 ∷ row (web 1) (plain z2 10) no_jobs None Running 0 ∷ [])
    (group (codes "web") 1 1 ∷ []) [] [] [] []

-- Two machines with one address, by a goal that gives it to both.
abbrev pub one_address : History
one_address built =
    (Note (opening 1 kinds.Deploy (Some (codes "dep")) (Some one_address_goal) ((web 0) ∷ (web 1) ∷ []) [] [] sourced)
    ∷ [])
    ++ part 2 13 (two built)
    ++ (Note (beginning_of 4 1 0 (Instance (web 1)) (calls.CreateVm (plain z2 10) [])) ∷ [])

abbrev pub goal_of_nobody_goal : Goal
goal_of_nobody_goal =
    goal (codes "dep") (row (web 0) (plain z1 10) no_jobs None Running 0 ∷ []) (group (codes "web") 1 1 ∷ []) [] [] []
    []

-- A goal that is not the manifest's: one row is left out.
abbrev pub goal_of_nobody : History
goal_of_nobody built =
    (Note (opening 1 kinds.Deploy (Some (codes "dep")) (Some goal_of_nobody_goal) ((web 0) ∷ []) [] [] sourced) ∷ [])
    ++ part 2 12 (two built)
    ++ part 24 24 (two built)

-- A call that fails though no fault was armed.
abbrev pub failed_for_nothing : History
failed_for_nothing built =
    part 1 3 (two built)
    ++ (did 1 false answers.Failed ∷ [])
    ++ (Note (ending 1 answers.Failed) ∷ [])
    ++ (Note (task_error 1 (failures.Call 1)) ∷ [])

-- A Halt though nothing stopped.
abbrev pub halt_for_nothing : History
halt_for_nothing built =
    part 1 5 (two built)
    ++ (Halt causes.Stop ∷ [])
    ++ (stop None [] None ∷ [])
    ++ (Note (task_error 1 failures.Interrupted) ∷ [])
