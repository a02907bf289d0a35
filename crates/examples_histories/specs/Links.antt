-- A link across deployments.
use Rattle.std.specs.Prelude.{true, codes, Some, None, [], ◌∷◌, ◌++◌}
use Rattle.bosh_base.specs.declared.answer.Answer.TheVariants as answers
use Rattle.bosh_base.specs.declared.call.Call.TheVariants as calls
use Rattle.bosh_base.specs.declared.entry.Entry.TheVariants as entries
use Rattle.bosh_base.specs.declared.goal.Goal.{Goal}
use Rattle.bosh_base.specs.declared.moves.Move.TheVariants.{Note}
use Rattle.bosh_base.specs.declared.owner.Owner.TheVariants.{Instance}
use Rattle.bosh_base.specs.declared.state.State.TheVariants.{Running}
use Rattle.bosh_base.specs.declared.task.TaskKind.TheVariants as kinds
use Rattle.examples_histories.specs.Scenes.{History, sourced, opening, upd_begin, upd_done, gone, said, called, part}
use Rattle.examples_histories.specs.Values.{inst, z1, plain, with_db, with_web, row, group, joint, tie, offer, goal}

abbrev pub links_g1 : Goal
links_g1 =
    goal (codes "shop") (row (inst (codes "shop") (codes "db") 0) (plain z1 10) with_db None Running 0 ∷ [])
    (group (codes "db") 1 1 ∷ []) [] [] []
    (offer (joint (codes "shop") (codes "db") (codes "db") (codes "db")) ∷ [])

abbrev pub links_g2 : Goal
links_g2 =
    goal (codes "app") (row (inst (codes "app") (codes "front") 0) (plain z1 11) with_web None Running 0 ∷ [])
    (group (codes "front") 1 1 ∷ []) [] []
    (tie (joint (codes "app") (codes "front") (codes "web") (codes "db"))
    (joint (codes "shop") (codes "db") (codes "db") (codes "db"))
    ∷ [])
    []

abbrev pub links_g3 : Goal
links_g3 =
    goal (codes "app") [] [] [] [] [] []

abbrev pub links_g4 : Goal
links_g4 =
    goal (codes "shop") [] [] [] [] [] []

abbrev pub links : History
links built =
    (Note
    (opening 1 kinds.Deploy (Some (codes "shop")) (Some links_g1) ((inst (codes "shop") (codes "db") 0) ∷ []) [] []
    sourced)
    ∷ Note (upd_begin 1 (inst (codes "shop") (codes "db") 0))
    ∷ [])
    ++ called 1 1 0 (Instance (inst (codes "shop") (codes "db") 0)) (calls.CreateVm (plain z1 10) []) true
    (answers.Cid 1)
    ++ called 2 1 0 (Instance (inst (codes "shop") (codes "db") 0)) (calls.Apply 1 with_db) true answers.Done
    ++ called 3 1 0 (Instance (inst (codes "shop") (codes "db") 0)) (calls.Start 1) true answers.Done
    ++
    (Note (upd_done 1 (inst (codes "shop") (codes "db") 0))
    ∷ Note (entries.TaskDone 1)
    ∷ said 4
    ∷ Note
    (opening 2 kinds.Deploy (Some (codes "app")) (Some links_g2) ((inst (codes "app") (codes "front") 0) ∷ [])
    [] [] sourced)
    ∷ Note (upd_begin 2 (inst (codes "app") (codes "front") 0))
    ∷ [])
    ++ called 4 2 0 (Instance (inst (codes "app") (codes "front") 0)) (calls.CreateVm (plain z1 11) []) true
    (answers.Cid 2)
    ++ called 5 2 0 (Instance (inst (codes "app") (codes "front") 0)) (calls.Apply 2 with_web) true answers.Done
    ++ called 6 2 0 (Instance (inst (codes "app") (codes "front") 0)) (calls.Start 2) true answers.Done
    ++
    (Note (upd_done 2 (inst (codes "app") (codes "front") 0))
    ∷ Note (entries.TaskDone 2)
    ∷ said 5
    ∷ said 6
    ∷ Note
    (opening 3 kinds.DeleteDeployment (Some (codes "app")) (Some links_g3) []
    ((inst (codes "app") (codes "front") 0) ∷ []) [] None)
    ∷ [])
    ++ called 7 3 0 (Instance (inst (codes "app") (codes "front") 0)) (calls.Drain 2) true answers.Done
    ++ called 8 3 0 (Instance (inst (codes "app") (codes "front") 0)) (calls.Stop 2) true answers.Done
    ++ called 9 3 0 (Instance (inst (codes "app") (codes "front") 0)) (calls.DeleteVm 2) true answers.Done
    ++
    (Note (gone 3 (inst (codes "app") (codes "front") 0))
    ∷ Note (entries.TaskDone 3)
    ∷ said 7
    ∷ Note
    (opening 4 kinds.DeleteDeployment (Some (codes "shop")) (Some links_g4) []
    ((inst (codes "shop") (codes "db") 0) ∷ []) [] None)
    ∷ [])
    ++ called 10 4 0 (Instance (inst (codes "shop") (codes "db") 0)) (calls.Drain 1) true answers.Done
    ++ called 11 4 0 (Instance (inst (codes "shop") (codes "db") 0)) (calls.Stop 1) true answers.Done
    ++ called 12 4 0 (Instance (inst (codes "shop") (codes "db") 0)) (calls.DeleteVm 1) true answers.Done
    ++ (Note (gone 4 (inst (codes "shop") (codes "db") 0)) ∷ Note (entries.TaskDone 4) ∷ said 8 ∷ [])

abbrev pub offer_withdrawn_goal : Goal
offer_withdrawn_goal =
    goal (codes "shop") (row (inst (codes "shop") (codes "db") 0) (plain z1 10) with_db None Running 0 ∷ [])
    (group (codes "db") 1 1 ∷ []) [] [] [] []

-- A withdrawn offer in use.
abbrev pub offer_withdrawn : History
offer_withdrawn built =
    part 1 28 (links built)
    ++ (Note (opening 3 kinds.Deploy (Some (codes "shop")) (Some offer_withdrawn_goal) [] [] [] sourced) ∷ [])
    ++ (Note (entries.TaskDone 3) ∷ [])

-- A tie to an offer of a deploy that is not done.
abbrev pub offer_of_unfinished : History
offer_of_unfinished built =
    part 1 12 (links built)
    ++ part 15 15 (links built)
