-- A machine left drained.
use Rattle.std.specs.Prelude.{true, false, codes, Some, None, [], ◌∷◌, ◌++◌}
use Rattle.bosh_base.specs.declared.answer.Answer.TheVariants as answers
use Rattle.bosh_base.specs.declared.call.Call.TheVariants as calls
use Rattle.bosh_base.specs.declared.entry.Entry.TheVariants as entries
use Rattle.bosh_base.specs.declared.failure.Failure.TheVariants as failures
use Rattle.bosh_base.specs.declared.goal.Goal.{Goal}
use Rattle.bosh_base.specs.declared.moves.Cause.TheVariants as causes
use Rattle.bosh_base.specs.declared.moves.Move.TheVariants.{Note, Halt}
use Rattle.bosh_base.specs.declared.owner.Owner.TheVariants.{Instance}
use Rattle.bosh_base.specs.declared.state.State.TheVariants.{Running}
use Rattle.bosh_base.specs.declared.task.TaskKind.TheVariants as kinds
use Rattle.examples_histories.specs.Scenes.{History, sourced, opening, beginning_of, upd_begin, upd_done, task_error, stop, said, called, part}
use Rattle.examples_histories.specs.Values.{web, z1, plain, no_jobs, row, group, goal}
use Rattle.examples_histories.specs.Recreate.{recreate}

abbrev pub drained_g1 : Goal
drained_g1 =
    goal (codes "dep") (row (web 0) (plain z1 10) no_jobs None Running 0 ∷ []) (group (codes "web") 1 1 ∷ []) [] [] []
    []

abbrev pub drained_g2 : Goal
drained_g2 =
    goal (codes "dep") (row (web 0) (plain z1 10) no_jobs None Running 3 ∷ []) (group (codes "web") 1 1 ∷ []) [] [] []
    []

abbrev pub drained : History
drained built =
    part 1 14 (recreate built)
    ++
    (said 4
    ∷ Note (opening 2 (kinds.Recreate (web 0)) (Some (codes "dep")) (Some drained_g2) ((web 0) ∷ []) [] [] None)
    ∷ Note (upd_begin 2 (web 0))
    ∷ Note (beginning_of 4 2 0 (Instance (web 0)) (calls.Drain 1))
    ∷ Halt causes.Stop
    ∷ said 5
    ∷ stop None (4 ∷ []) None
    ∷ Note (task_error 2 failures.Interrupted)
    ∷ said 6
    ∷ Note (opening 3 kinds.Deploy (Some (codes "dep")) (Some drained_g1) ((web 0) ∷ []) [] [] sourced)
    ∷ Note (upd_begin 3 (web 0))
    ∷ [])
    ++ called 5 3 0 (Instance (web 0)) (calls.GetState 1) false (answers.Facts (Some no_jobs) true true)
    ++ (Note (upd_done 3 (web 0)) ∷ Note (entries.TaskDone 3) ∷ said 7 ∷ [])
