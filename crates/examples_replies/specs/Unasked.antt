-- Restarts that find what nobody asked for, after a deploy of two instances.
use Rattle.std.specs.Prelude.{codes, Some, None, [], ◌∷◌, ◌++◌}
use Rattle.bosh_base.specs.declared.failure.Failure.TheVariants.{Interrupted}
use Rattle.bosh_base.specs.declared.goal.Goal.{Goal}
use Rattle.bosh_base.specs.declared.moves.Cause.TheVariants as causes
use Rattle.bosh_base.specs.declared.moves.Move.TheVariants.{Halt, Note}
use Rattle.bosh_base.specs.declared.task.TaskKind.TheVariants as kinds
use Rattle.examples_histories.specs.Scenes.{History, config, opening, part, stop, task_error}
use Rattle.examples_histories.specs.Two.{two}
use Rattle.examples_histories.specs.Values.{goal, web}

abbrev pub nothing_wanted : Goal
nothing_wanted = goal (codes "dep") [] [] [] [] [] []

-- the deletion of the deployment is found
abbrev pub deletion_kept : History
deletion_kept built =
    part 1 25 (two built)
    ++ (Halt causes.Stop
    ∷ stop
    (Some (opening 2 kinds.DeleteDeployment (Some (codes "dep")) (Some nothing_wanted) [] ((web 0) ∷ (web 1) ∷ []) [] None))
    [] None
    ∷ Note (task_error 2 Interrupted)
    ∷ [])

-- nothing is found, and the director halts again, though no task is to end
abbrev pub halts_for_nothing : History
halts_for_nothing built =
    part 1 25 (two built)
    ++ (Halt causes.Stop ∷ stop None [] None ∷ Halt causes.Stop ∷ [])

-- a config is found
abbrev pub config_kept : History
config_kept built =
    part 1 25 (two built)
    ++ (Halt causes.Stop ∷ stop (Some config) [] None ∷ [])
