-- Disks that a task leaves loose: one that its row wants no more, and those that a migration left.
use Rattle.std.specs.Prelude.{◌≡◌, ℕ, Bool, true, codes, Some, None, [], ◌∷◌, ◌++◌}
use Rattle.bosh_base.specs.declared.answer.Answer.TheVariants as answers
use Rattle.bosh_base.specs.declared.call.Call.TheVariants as calls
use Rattle.bosh_base.specs.declared.entry.Entry.TheVariants as entries
use Rattle.bosh_base.specs.declared.goal.Goal.{Goal}
use Rattle.bosh_base.specs.declared.moves.Move.TheVariants.{Note}
use Rattle.bosh_base.specs.declared.owner.Owner.TheVariants.{Instance}
use Rattle.bosh_base.specs.declared.state.State.TheVariants.{Detached, Running}
use Rattle.bosh_base.specs.declared.task.TaskKind.TheVariants as kinds
use Rattle.bosh_history.specs.Exact.{is_exact}
use Rattle.bosh_history.specs.Known.{with_task}
use Rattle.bosh_history.specs.Moments.{Moment}
use Rattle.examples_histories.specs.Migrated.{disk_let_go, machine_deleted, migrated}
use Rattle.examples_histories.specs.Scenes.{Builder, History, called, gone, opening, part, sourced, upd_begin, upd_done}
use Rattle.examples_histories.specs.Values.{disk, goal, group, no_jobs, plain, row, web, z1}
use Rattle.examples_histories.specs.Verdicts.{after}

abbrev pub unwanted_goal : Goal
unwanted_goal =
    goal (codes "dep") (row (web 0) (plain z1 10) no_jobs None Running 0 ∷ []) (group (codes "web") 1 1 ∷ []) [] [] []
    []

-- a deploy that wants no disk any more: until its update is done the disk is the row's
abbrev pub unwanted : History
unwanted built =
    part 1 23 (migrated built)
    ++
    (Note (opening 2 kinds.Deploy (Some (codes "dep")) (Some unwanted_goal) (web 0 ∷ []) [] [] sourced)
    ∷ Note (upd_begin 2 (web 0))
    ∷ [])
    ++ disk_let_go
    ++ called 11 2 0 (Instance (web 0)) (calls.Start 1) true answers.Done
    ++ (Note (upd_done 2 (web 0)) ∷ Note (entries.TaskDone 2) ∷ [])

-- the moment as it would be if the task were a recreate of the instance
abbrev pub as_recreate : ℕ → Moment → Moment
as_recreate t m = record m { known = with_task t (λ it. record it { kind = kinds.Recreate (web 0) }) m.known }

abbrev pub IsExactRecreateAt : Moment → ℕ → ℕ → History → Bool → Type 0
IsExactRecreateAt m k task history is =
    (built : Builder) → is_exact (as_recreate task (after m k (history built))) task ≡ is

abbrev pub no_goal : Goal
no_goal = goal (codes "dep") [] [] [] [] [] []

-- all that is there is deleted, and the disk is orphaned
abbrev pub deleted : History
deleted built =
    part 1 23 (migrated built)
    ++ (Note (opening 2 kinds.DeleteDeployment (Some (codes "dep")) (Some no_goal) [] (web 0 ∷ []) [] None) ∷ [])
    ++ machine_deleted
    ++ (Note (gone 2 (web 0)) ∷ Note (entries.TaskDone 2) ∷ [])

abbrev pub detached_goal : Goal
detached_goal =
    goal (codes "dep") (row (web 0) (plain z1 10) no_jobs (Some (disk 10)) Detached 0 ∷ [])
    (group (codes "web") 1 1 ∷ []) [] [] [] []

-- the machine goes, and the disk stays
abbrev pub detached : History
detached built =
    part 1 23 (migrated built)
    ++
    (Note (opening 2 kinds.Deploy (Some (codes "dep")) (Some detached_goal) (web 0 ∷ []) [] [] sourced)
    ∷ Note (upd_begin 2 (web 0))
    ∷ [])
    ++ machine_deleted
    ++ (Note (upd_done 2 (web 0)) ∷ Note (entries.TaskDone 2) ∷ [])
