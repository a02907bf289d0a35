-- A TaskDone that was kept.
use Rattle.std.specs.Prelude.{true, codes, Some, None, [], ◌∷◌, ◌++◌}
use Rattle.bosh_base.specs.declared.answer.Answer.TheVariants as answers
use Rattle.bosh_base.specs.declared.call.Call.TheVariants as calls
use Rattle.bosh_base.specs.declared.entry.Entry.TheVariants as entries
use Rattle.bosh_base.specs.declared.failure.Failure.TheVariants as failures
use Rattle.bosh_base.specs.declared.goal.Goal.{Goal}
use Rattle.bosh_base.specs.declared.moves.Cause.TheVariants as causes
use Rattle.bosh_base.specs.declared.moves.Move.TheVariants.{Note, Halt}
use Rattle.bosh_base.specs.declared.owner.Owner.TheVariants.{Instance}
use Rattle.bosh_base.specs.declared.state.State.TheVariants.{Running}
use Rattle.bosh_base.specs.declared.task.TaskKind.TheVariants as kinds
use Rattle.examples_histories.specs.Scenes.{History, sourced, opening, upd_begin, upd_done, task_error, stop, said, called, part}
use Rattle.examples_histories.specs.Values.{web, z1, plain, no_jobs, row, group, goal}

abbrev pub kept_done_g1 : Goal
kept_done_g1 =
    goal (codes "dep") (row (web 0) (plain z1 10) no_jobs None Running 0 ∷ []) (group (codes "web") 1 1 ∷ []) [] [] []
    []

abbrev pub kept_done : History
kept_done built =
    (said 3
    ∷ Note (opening 1 kinds.Deploy (Some (codes "dep")) (Some kept_done_g1) ((web 0) ∷ []) [] [] sourced)
    ∷ Note (upd_begin 1 (web 0))
    ∷ [])
    ++ called 1 1 0 (Instance (web 0)) (calls.CreateVm (plain z1 10) []) true (answers.Cid 1)
    ++ called 2 1 0 (Instance (web 0)) (calls.Apply 1 no_jobs) true answers.Done
    ++ called 3 1 0 (Instance (web 0)) (calls.Start 1) true answers.Done
    ++
    (Note (upd_done 1 (web 0))
    ∷ Halt causes.Stop
    ∷ said 4
    ∷ stop (Some (entries.TaskDone 1)) [] None
    ∷ said 5
    ∷ said 6
    ∷ [])

-- A task ended by its kept TaskDone and then as interrupted.
abbrev pub ended_twice : History
ended_twice built =
    part 1 16 (kept_done built)
    ++ (Note (task_error 1 failures.Interrupted) ∷ [])

-- A kept TaskDone before the UpdDone.
abbrev pub kept_too_early : History
kept_too_early built =
    part 1 12 (kept_done built)
    ++ part 14 16 (kept_done built)
