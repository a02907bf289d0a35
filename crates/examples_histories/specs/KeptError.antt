-- A restart that is stopped in its TaskError.
use Rattle.std.specs.Prelude.{codes, Some, None, [], ◌∷◌}
use Rattle.bosh_base.specs.declared.call.Call.TheVariants as calls
use Rattle.bosh_base.specs.declared.failure.Failure.TheVariants as failures
use Rattle.bosh_base.specs.declared.goal.Goal.{Goal}
use Rattle.bosh_base.specs.declared.moves.Cause.TheVariants as causes
use Rattle.bosh_base.specs.declared.moves.Move.TheVariants.{Note, Halt}
use Rattle.bosh_base.specs.declared.owner.Owner.TheVariants.{Instance}
use Rattle.bosh_base.specs.declared.state.State.TheVariants.{Running}
use Rattle.bosh_base.specs.declared.task.TaskKind.TheVariants as kinds
use Rattle.examples_histories.specs.Scenes.{History, sourced, opening, beginning_of, upd_begin, task_error, stop, said}
use Rattle.examples_histories.specs.Values.{web, z1, plain, no_jobs, row, group, goal}

abbrev pub kept_error_g1 : Goal
kept_error_g1 =
    goal (codes "dep") (row (web 0) (plain z1 10) no_jobs None Running 0 ∷ []) (group (codes "web") 1 1 ∷ []) [] [] []
    []

abbrev pub kept_error : History
kept_error built =
    (said 3
    ∷ Note (opening 1 kinds.Deploy (Some (codes "dep")) (Some kept_error_g1) ((web 0) ∷ []) [] [] sourced)
    ∷ Note (upd_begin 1 (web 0))
    ∷ Note (beginning_of 1 1 0 (Instance (web 0)) (calls.CreateVm (plain z1 10) []))
    ∷ Halt causes.Stop
    ∷ said 4
    ∷ said 5
    ∷ stop None (1 ∷ []) None
    ∷ Halt causes.Stop
    ∷ said 6
    ∷ stop (Some (task_error 1 failures.Interrupted)) [] None
    ∷ said 7
    ∷ [])
