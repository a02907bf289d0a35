-- Cloud-check resolves a lost machine.
use Rattle.std.specs.Prelude.{true, false, codes, Some, None, [], ◌∷◌, ◌++◌}
use Rattle.bosh_base.specs.declared.answer.Answer.TheVariants as answers
use Rattle.bosh_base.specs.declared.call.Call.TheVariants as calls
use Rattle.bosh_base.specs.declared.entry.Entry.TheVariants as entries
use Rattle.bosh_base.specs.declared.goal.Goal.{Goal}
use Rattle.bosh_base.specs.declared.moves.Move.TheVariants.{Note}
use Rattle.bosh_base.specs.declared.owner.Owner.TheVariants.{Instance}
use Rattle.bosh_base.specs.declared.state.State.TheVariants.{Running}
use Rattle.bosh_base.specs.declared.task.TaskKind.TheVariants as kinds
use Rattle.examples_histories.specs.Scenes.{History, opening, upd_begin, upd_done, said, called, part}
use Rattle.examples_histories.specs.Values.{web, z1, z2, plain, no_jobs, row, group, goal}
use Rattle.examples_histories.specs.Lost.{lost}

abbrev pub resolve_g1 : Goal
resolve_g1 =
    goal (codes "dep")
    (row (web 0) (plain z1 10) no_jobs None Running 0 ∷ row (web 1) (plain z2 11) no_jobs None Running 0 ∷ [])
    (group (codes "web") 1 1 ∷ []) [] [] [] []

abbrev pub resolve : History
resolve built =
    part 1 27 (lost built)
    ++
    (said 5
    ∷ Note (opening 2 (kinds.Resolve (web 0)) (Some (codes "dep")) (Some resolve_g1) ((web 0) ∷ []) [] [] None)
    ∷ [])
    ++ called 7 2 0 (Instance (web 0)) (calls.Ping 1) false answers.Gone
    ++ (Note (upd_begin 2 (web 0)) ∷ [])
    ++ called 8 2 0 (Instance (web 0)) (calls.DeleteVm 1) false answers.Gone
    ++ called 9 2 0 (Instance (web 0)) (calls.CreateVm (plain z1 10) []) true (answers.Cid 3)
    ++ called 10 2 0 (Instance (web 0)) (calls.Apply 3 no_jobs) true answers.Done
    ++ called 11 2 0 (Instance (web 0)) (calls.Start 3) true answers.Done
    ++ (Note (upd_done 2 (web 0)) ∷ Note (entries.TaskDone 2) ∷ said 6 ∷ [])

-- A resolve task that does not ping.
abbrev pub resolve_pings_nobody : History
resolve_pings_nobody built =
    part 1 29 (resolve built)
    ++ (Note (upd_done 2 (web 0)) ∷ [])
    ++ (Note (entries.TaskDone 2) ∷ [])
