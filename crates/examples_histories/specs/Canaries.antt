-- One canary, a limit of two, three workers.
use Rattle.std.specs.Prelude.{true, codes, Some, None, [], ◌∷◌, ◌++◌}
use Rattle.bosh_base.specs.declared.answer.Answer.TheVariants as answers
use Rattle.bosh_base.specs.declared.call.Call.TheVariants as calls
use Rattle.bosh_base.specs.declared.entry.Entry.TheVariants as entries
use Rattle.bosh_base.specs.declared.goal.Goal.{Goal}
use Rattle.bosh_base.specs.declared.moves.Move.TheVariants.{Note}
use Rattle.bosh_base.specs.declared.owner.Owner.TheVariants.{Instance}
use Rattle.bosh_base.specs.declared.state.State.TheVariants.{Running}
use Rattle.bosh_base.specs.declared.task.TaskKind.TheVariants as kinds
use Rattle.examples_histories.specs.Scenes.{History, sourced, opening, beginning_of, ending, upd_begin, upd_done, did, called, part}
use Rattle.examples_histories.specs.Values.{web, z1, z2, plain, no_jobs, row, group, goal}

abbrev pub canaries_g1 : Goal
canaries_g1 =
    goal (codes "dep")
    (row (web 0) (plain z1 10) no_jobs None Running 0
    ∷ row (web 1) (plain z2 11) no_jobs None Running 0
    ∷ row (web 2) (plain z1 12) no_jobs None Running 0
    ∷ row (web 3) (plain z2 13) no_jobs None Running 0
    ∷ [])
    (group (codes "web") 1 2 ∷ []) [] [] [] []

abbrev pub canaries : History
canaries built =
    (Note
    (opening 1 kinds.Deploy (Some (codes "dep")) (Some canaries_g1) ((web 0) ∷ (web 1) ∷ (web 2) ∷ (web 3) ∷ []) []
    [] sourced)
    ∷ Note (upd_begin 1 (web 0))
    ∷ [])
    ++ called 1 1 0 (Instance (web 0)) (calls.CreateVm (plain z1 10) []) true (answers.Cid 1)
    ++ called 2 1 0 (Instance (web 0)) (calls.Apply 1 no_jobs) true answers.Done
    ++ called 3 1 0 (Instance (web 0)) (calls.Start 1) true answers.Done
    ++
    (Note (upd_done 1 (web 0))
    ∷ Note (upd_begin 1 (web 1))
    ∷ Note (beginning_of 4 1 0 (Instance (web 1)) (calls.CreateVm (plain z2 11) []))
    ∷ Note (upd_begin 1 (web 2))
    ∷ Note (beginning_of 5 1 1 (Instance (web 2)) (calls.CreateVm (plain z1 12) []))
    ∷ did 5 true (answers.Cid 2)
    ∷ did 4 true (answers.Cid 3)
    ∷ Note (ending 5 (answers.Cid 2))
    ∷ Note (beginning_of 6 1 2 (Instance (web 2)) (calls.Apply 2 no_jobs))
    ∷ Note (ending 4 (answers.Cid 3))
    ∷ Note (beginning_of 7 1 1 (Instance (web 1)) (calls.Apply 3 no_jobs))
    ∷ did 7 true answers.Done
    ∷ did 6 true answers.Done
    ∷ Note (ending 7 answers.Done)
    ∷ Note (ending 6 answers.Done)
    ∷ Note (beginning_of 8 1 0 (Instance (web 1)) (calls.Start 3))
    ∷ [])
    ++ called 9 1 2 (Instance (web 2)) (calls.Start 2) true answers.Done
    ++
    (Note (upd_done 1 (web 2))
    ∷ Note (upd_begin 1 (web 3))
    ∷ Note (beginning_of 10 1 1 (Instance (web 3)) (calls.CreateVm (plain z2 13) []))
    ∷ did 8 true answers.Done
    ∷ Note (ending 8 answers.Done)
    ∷ did 10 true (answers.Cid 4)
    ∷ Note (ending 10 (answers.Cid 4))
    ∷ Note (upd_done 1 (web 1))
    ∷ [])
    ++ called 11 1 0 (Instance (web 3)) (calls.Apply 4 no_jobs) true answers.Done
    ++ called 12 1 0 (Instance (web 3)) (calls.Start 4) true answers.Done
    ++ (Note (upd_done 1 (web 3)) ∷ Note (entries.TaskDone 1) ∷ [])

-- An instance begun beside the canary, within the limit.
abbrev pub begins_beside_canaries : History
begins_beside_canaries built =
    part 1 3 (canaries built)
    ++ (Note (upd_begin 1 (web 1)) ∷ [])
    ++ (Note (beginning_of 2 1 1 (Instance (web 1)) (calls.CreateVm (plain z2 11) [])) ∷ [])

-- The limit exceeded.
abbrev pub limit_exceeded : History
limit_exceeded built =
    part 1 16 (canaries built)
    ++ (Note (upd_begin 1 (web 3)) ∷ [])

-- The limit counted per worker.
abbrev pub limit_per_worker : History
limit_per_worker built =
    part 1 16 (canaries built)
    ++ (Note (upd_begin 1 (web 3)) ∷ [])
    ++ (Note (beginning_of 6 1 2 (Instance (web 3)) (calls.CreateVm (plain z2 13) [])) ∷ [])

-- One worker with two calls at once.
abbrev pub two_calls_of_a_worker : History
two_calls_of_a_worker built =
    part 1 15 (canaries built)
    ++ (Note (beginning_of 5 1 0 (Instance (web 2)) (calls.CreateVm (plain z1 12) [])) ∷ [])
    ++ part 17 46 (canaries built)
