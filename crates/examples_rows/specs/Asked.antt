-- A deploy that asks its machines, over two groups that are updated together and that the manifest lists in another order
-- than by name.
use Rattle.std.specs.Prelude.{◌≡◌, ℕ, true, false, codes, Some, None, List, [], ◌∷◌, ◌++◌}
use Rattle.bosh_base.specs.declared.answer.Answer.TheVariants as answers
use Rattle.bosh_base.specs.declared.call.Call.TheVariants as calls
use Rattle.bosh_base.specs.declared.entry.Entry.TheVariants as entries
use Rattle.bosh_base.specs.declared.goal.Goal.{Goal}
use Rattle.bosh_base.specs.declared.inst.Inst.{Inst}
use Rattle.bosh_base.specs.declared.moves.Move.TheVariants.{Note}
use Rattle.bosh_base.specs.declared.owner.Owner.{Owner}
use Rattle.bosh_base.specs.declared.owner.Owner.TheVariants.{Instance}
use Rattle.bosh_base.specs.declared.state.State.TheVariants.{Running}
use Rattle.bosh_base.specs.declared.task.TaskKind.TheVariants as kinds
use Rattle.bosh_history.specs.Items.{items}
use Rattle.bosh_history.specs.Moments.{Moment}
use Rattle.examples_histories.specs.Scenes.{Builder, History, called, opening, sourced, upd_begin, upd_done}
use Rattle.examples_histories.specs.Values.{goal, group, inst, no_jobs, plain, row, z1, z2}
use Rattle.examples_histories.specs.Verdicts.{after}

-- the one instance of the group that stands first in the manifest
abbrev pub first : Inst
first = inst (codes "dep") (codes "b") 0

-- .. and of the group that stands after it
abbrev pub second : Inst
second = inst (codes "dep") (codes "a") 0

abbrev pub asked_goal : Goal
asked_goal =
    goal (codes "dep")
    (row first (plain z1 10) no_jobs None Running 0 ∷ row second (plain z2 11) no_jobs None Running 0 ∷ [])
    (group (codes "b") 1 1 ∷ group (codes "a") 1 1 ∷ [])
    []
    []
    []
    []

-- a deploy, and one that asks its machines, which answer
abbrev pub asked : History
asked built =
    (Note (opening 1 kinds.Deploy (Some (codes "dep")) (Some asked_goal) (first ∷ second ∷ []) [] [] sourced)
    ∷ Note (upd_begin 1 first)
    ∷ [])
    ++ called 1 1 1 (Instance first) (calls.CreateVm (plain z1 10) []) true (answers.Cid 1)
    ++ called 2 1 1 (Instance first) (calls.Apply 1 no_jobs) true answers.Done
    ++ called 3 1 1 (Instance first) (calls.Start 1) true answers.Done
    ++ (Note (upd_done 1 first) ∷ Note (upd_begin 1 second) ∷ [])
    ++ called 4 1 1 (Instance second) (calls.CreateVm (plain z2 11) []) true (answers.Cid 2)
    ++ called 5 1 1 (Instance second) (calls.Apply 2 no_jobs) true answers.Done
    ++ called 6 1 1 (Instance second) (calls.Start 2) true answers.Done
    ++
    (Note (upd_done 1 second)
    ∷ Note (entries.TaskDone 1)
    ∷ Note (opening 2 kinds.Fix (Some (codes "dep")) (Some asked_goal) (first ∷ second ∷ []) [] [] sourced)
    ∷ [])
    ++ called 7 2 1 (Instance second) (calls.Ping 2) false answers.Done
    ++ called 8 2 1 (Instance first) (calls.Ping 1) false answers.Done
    ++ (Note (upd_done 2 first) ∷ Note (upd_done 2 second) ∷ Note (entries.TaskDone 2) ∷ [])

-- what is left to do of a task in its present phase, after so many moves of a history
abbrev pub HasItems : Moment → ℕ → History → ℕ → List Owner → Type 0
HasItems m k history task owners =
    (built : Builder) → items (after m k (history built)).known task ≡ owners
