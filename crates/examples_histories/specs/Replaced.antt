-- One group in the place of another.
use Rattle.std.specs.Prelude.{true, codes, Some, None, [], ◌∷◌, ◌++◌}
use Rattle.bosh_base.specs.declared.answer.Answer.TheVariants as answers
use Rattle.bosh_base.specs.declared.call.Call.TheVariants as calls
use Rattle.bosh_base.specs.declared.entry.Entry.TheVariants as entries
use Rattle.bosh_base.specs.declared.goal.Goal.{Goal}
use Rattle.bosh_base.specs.declared.moves.Move.TheVariants.{Note}
use Rattle.bosh_base.specs.declared.owner.Owner.TheVariants.{Instance}
use Rattle.bosh_base.specs.declared.state.State.TheVariants.{Running}
use Rattle.bosh_base.specs.declared.task.TaskKind.TheVariants as kinds
use Rattle.examples_histories.specs.Scenes.{History, sourced, opening, beginning_of, upd_begin, upd_done, gone, said, called, part}
use Rattle.examples_histories.specs.Values.{inst, web, z1, plain, no_jobs, row, group, goal}
use Rattle.examples_histories.specs.Recreate.{recreate}

abbrev pub replaced_g1 : Goal
replaced_g1 =
    goal (codes "dep") (row (web 0) (plain z1 10) no_jobs None Running 0 ∷ []) (group (codes "web") 1 1 ∷ []) [] [] []
    []

abbrev pub replaced_g2 : Goal
replaced_g2 =
    goal (codes "dep") (row (inst (codes "dep") (codes "api") 0) (plain z1 10) no_jobs None Running 0 ∷ [])
    (group (codes "api") 1 1 ∷ []) [] [] [] []

abbrev pub replaced : History
replaced built =
    part 1 14 (recreate built)
    ++
    (Note
    (opening 2 kinds.Deploy (Some (codes "dep")) (Some replaced_g2) ((inst (codes "dep") (codes "api") 0) ∷ [])
    ((web 0) ∷ []) [] sourced)
    ∷ [])
    ++ called 4 2 0 (Instance (web 0)) (calls.Drain 1) true answers.Done
    ++ called 5 2 0 (Instance (web 0)) (calls.Stop 1) true answers.Done
    ++ called 6 2 0 (Instance (web 0)) (calls.DeleteVm 1) true answers.Done
    ++ (Note (gone 2 (web 0)) ∷ Note (upd_begin 2 (inst (codes "dep") (codes "api") 0)) ∷ [])
    ++ called 7 2 0 (Instance (inst (codes "dep") (codes "api") 0)) (calls.CreateVm (plain z1 10) []) true
    (answers.Cid 2)
    ++ called 8 2 0 (Instance (inst (codes "dep") (codes "api") 0)) (calls.Apply 2 no_jobs) true answers.Done
    ++ called 9 2 0 (Instance (inst (codes "dep") (codes "api") 0)) (calls.Start 2) true answers.Done
    ++ (Note (upd_done 2 (inst (codes "dep") (codes "api") 0)) ∷ Note (entries.TaskDone 2) ∷ said 4 ∷ [])

-- An instance begun before the obsolete one is gone.
abbrev pub begun_before_gone : History
begun_before_gone built =
    part 1 15 (replaced built)
    ++ (Note (upd_begin 2 (inst (codes "dep") (codes "api") 0)) ∷ [])

-- The same with its machine.
abbrev pub machine_before_gone : History
machine_before_gone built =
    part 1 15 (replaced built)
    ++ (Note (upd_begin 2 (inst (codes "dep") (codes "api") 0)) ∷ [])
    ++
    (Note (beginning_of 4 2 0 (Instance (inst (codes "dep") (codes "api") 0)) (calls.CreateVm (plain z1 10) []))
    ∷ [])
