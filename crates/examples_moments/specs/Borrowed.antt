-- A row that is told of the machine of another instance, which was lost before.
use Rattle.std.specs.Prelude.{true, false, codes, Some, None, [], ◌∷◌, ◌++◌}
use Rattle.bosh_base.specs.declared.answer.Answer.TheVariants as answers
use Rattle.bosh_base.specs.declared.call.Call.TheVariants as calls
use Rattle.bosh_base.specs.declared.goal.Goal.{Goal}
use Rattle.bosh_base.specs.declared.moves.Move.TheVariants.{Note}
use Rattle.bosh_base.specs.declared.owner.Owner.TheVariants.{Instance}
use Rattle.bosh_base.specs.declared.state.State.TheVariants.{Running}
use Rattle.bosh_base.specs.declared.task.TaskKind.TheVariants as kinds
use Rattle.examples_histories.specs.Scenes.{History, beginning_of, called, did, ending, loss, opening, sourced, upd_begin}
use Rattle.examples_histories.specs.Values.{goal, group, no_jobs, plain, row, web, z1, z2}

abbrev pub borrowed_goal : Goal
borrowed_goal =
    goal (codes "dep")
    (row (web 0) (plain z1 10) no_jobs None Running 0 ∷ row (web 1) (plain z2 11) no_jobs None Running 0 ∷ [])
    (group (codes "web") 2 2 ∷ []) [] [] [] []

-- The agent of the first instance's machine is lost, and then the call that makes one for the second instance is
-- answered with that machine.
abbrev pub borrowed : History
borrowed built =
    (Note (opening 1 kinds.Deploy (Some (codes "dep")) (Some borrowed_goal) (web 0 ∷ web 1 ∷ []) [] [] sourced)
    ∷ Note (upd_begin 1 (web 0))
    ∷ [])
    ++ called 1 1 0 (Instance (web 0)) (calls.CreateVm (plain z1 10) []) true (answers.Cid 1)
    ++
    (Note (upd_begin 1 (web 1))
    ∷ Note (beginning_of 2 1 0 (Instance (web 1)) (calls.CreateVm (plain z2 11) []))
    ∷ loss 1 false
    ∷ did 2 false (answers.Cid 1)
    ∷ Note (ending 2 (answers.Cid 1))
    ∷ [])
