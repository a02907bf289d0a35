-- A deploy that changes nothing, and a recreate.
use Rattle.std.specs.Prelude.{true, codes, Some, None, [], ◌∷◌, ◌++◌}
use Rattle.bosh_base.specs.declared.answer.Answer.TheVariants as answers
use Rattle.bosh_base.specs.declared.call.Call.TheVariants as calls
use Rattle.bosh_base.specs.declared.entry.Entry.TheVariants as entries
use Rattle.bosh_base.specs.declared.goal.Goal.{Goal}
use Rattle.bosh_base.specs.declared.moves.Move.TheVariants.{Note}
use Rattle.bosh_base.specs.declared.owner.Owner.TheVariants.{Instance}
use Rattle.bosh_base.specs.declared.state.State.TheVariants.{Running}
use Rattle.bosh_base.specs.declared.task.TaskKind.TheVariants as kinds
use Rattle.examples_histories.specs.Scenes.{History, sourced, opening, beginning_of, upd_begin, upd_done, said, called, part}
use Rattle.examples_histories.specs.Values.{web, z1, plain, no_jobs, row, group, goal}

abbrev pub recreate_g1 : Goal
recreate_g1 =
    goal (codes "dep") (row (web 0) (plain z1 10) no_jobs None Running 0 ∷ []) (group (codes "web") 1 1 ∷ []) [] [] []
    []

abbrev pub recreate_g2 : Goal
recreate_g2 =
    goal (codes "dep") (row (web 0) (plain z1 10) no_jobs None Running 3 ∷ []) (group (codes "web") 1 1 ∷ []) [] [] []
    []

abbrev pub recreate : History
recreate built =
    (Note (opening 1 kinds.Deploy (Some (codes "dep")) (Some recreate_g1) ((web 0) ∷ []) [] [] sourced)
    ∷ Note (upd_begin 1 (web 0))
    ∷ [])
    ++ called 1 1 0 (Instance (web 0)) (calls.CreateVm (plain z1 10) []) true (answers.Cid 1)
    ++ called 2 1 0 (Instance (web 0)) (calls.Apply 1 no_jobs) true answers.Done
    ++ called 3 1 0 (Instance (web 0)) (calls.Start 1) true answers.Done
    ++
    (Note (upd_done 1 (web 0))
    ∷ Note (entries.TaskDone 1)
    ∷ said 3
    ∷ Note (opening 2 kinds.Deploy (Some (codes "dep")) (Some recreate_g1) [] [] [] sourced)
    ∷ Note (entries.TaskDone 2)
    ∷ said 4
    ∷ Note (opening 3 (kinds.Recreate (web 0)) (Some (codes "dep")) (Some recreate_g2) ((web 0) ∷ []) [] [] None)
    ∷ Note (upd_begin 3 (web 0))
    ∷ [])
    ++ called 4 3 0 (Instance (web 0)) (calls.Drain 1) true answers.Done
    ++ called 5 3 0 (Instance (web 0)) (calls.Stop 1) true answers.Done
    ++ called 6 3 0 (Instance (web 0)) (calls.DeleteVm 1) true answers.Done
    ++ called 7 3 0 (Instance (web 0)) (calls.CreateVm (plain z1 10) []) true (answers.Cid 2)
    ++ called 8 3 0 (Instance (web 0)) (calls.Apply 2 no_jobs) true answers.Done
    ++ called 9 3 0 (Instance (web 0)) (calls.Start 2) true answers.Done
    ++ (Note (upd_done 3 (web 0)) ∷ Note (entries.TaskDone 3) ∷ said 5 ∷ [])

-- The new machine made while the old one is there.
abbrev pub created_before_deleted : History
created_before_deleted built =
    part 1 25 (recreate built)
    ++ (Note (beginning_of 6 3 0 (Instance (web 0)) (calls.CreateVm (plain z1 10) [])) ∷ [])

-- A recreate whose goal is the old one.
abbrev pub not_renewed : History
not_renewed built =
    part 1 17 (recreate built)
    ++
    (Note (opening 3 (kinds.Recreate (web 0)) (Some (codes "dep")) (Some recreate_g1) ((web 0) ∷ []) [] [] None)
    ∷ [])
    ++ (Note (upd_done 3 (web 0)) ∷ [])
    ++ part 39 39 (recreate built)
