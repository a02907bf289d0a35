-- Two deployments, one package, two tasks at once.
use Rattle.std.specs.Prelude.{true, false, codes, Some, None, [], ◌∷◌, ◌++◌}
use Rattle.bosh_base.specs.declared.answer.Answer.TheVariants as answers
use Rattle.bosh_base.specs.declared.call.Call.TheVariants as calls
use Rattle.bosh_base.specs.declared.entry.Entry.TheVariants as entries
use Rattle.bosh_base.specs.declared.goal.Goal.{Goal}
use Rattle.bosh_base.specs.declared.moves.Move.TheVariants.{Note}
use Rattle.bosh_base.specs.declared.owner.Owner.TheVariants.{Instance, Compile}
use Rattle.bosh_base.specs.declared.state.State.TheVariants.{Running}
use Rattle.bosh_base.specs.declared.task.TaskKind.TheVariants as kinds
use Rattle.examples_histories.specs.Scenes.{History, sourced, opening, beginning_of, ending, upd_begin, upd_done, did, said, called, part}
use Rattle.examples_histories.specs.Values.{inst, z1, plain, slot, with_j, work_p, row, group, goal}

abbrev pub together_g1 : Goal
together_g1 =
    goal (codes "a") (row (inst (codes "a") (codes "web") 0) (plain z1 10) with_j None Running 0 ∷ [])
    (group (codes "web") 1 1 ∷ []) (work_p ∷ []) (slot z1 11 ∷ []) [] []

abbrev pub together_g2 : Goal
together_g2 =
    goal (codes "b") (row (inst (codes "b") (codes "web") 0) (plain z1 12) with_j None Running 0 ∷ [])
    (group (codes "web") 1 1 ∷ []) (work_p ∷ []) (slot z1 13 ∷ []) [] []

abbrev pub together : History
together built =
    (said 4
    ∷ Note
    (opening 1 kinds.Deploy (Some (codes "a")) (Some together_g1) ((inst (codes "a") (codes "web") 0) ∷ []) [] []
    sourced)
    ∷ Note
    (opening 2 kinds.Deploy (Some (codes "b")) (Some together_g2) ((inst (codes "b") (codes "web") 0) ∷ []) [] []
    sourced)
    ∷ [])
    ++ called 1 1 0 (Compile 1 0) (calls.CreateVm (plain z1 11) []) true (answers.Cid 1)
    ++ called 2 2 0 (Compile 2 0) (calls.CreateVm (plain z1 13) []) true (answers.Cid 2)
    ++ called 3 1 0 (Compile 1 0) (calls.CompilePackage 1 work_p []) false (answers.Built (built work_p []))
    ++ called 4 2 0 (Compile 2 0) (calls.DeleteVm 2) true answers.Done
    ++ called 5 1 0 (Compile 1 0) (calls.DeleteVm 1) true answers.Done
    ++ (Note (upd_begin 2 (inst (codes "b") (codes "web") 0)) ∷ [])
    ++ called 6 2 0 (Instance (inst (codes "b") (codes "web") 0)) (calls.CreateVm (plain z1 12) []) true
    (answers.Cid 3)
    ++ (Note (upd_begin 1 (inst (codes "a") (codes "web") 0)) ∷ [])
    ++ called 7 1 0 (Instance (inst (codes "a") (codes "web") 0)) (calls.CreateVm (plain z1 10) []) true
    (answers.Cid 4)
    ++ called 8 2 0 (Instance (inst (codes "b") (codes "web") 0)) (calls.Apply 3 with_j) true answers.Done
    ++ called 9 1 0 (Instance (inst (codes "a") (codes "web") 0)) (calls.Apply 4 with_j) true answers.Done
    ++ called 10 2 0 (Instance (inst (codes "b") (codes "web") 0)) (calls.Start 3) true answers.Done
    ++ called 11 1 0 (Instance (inst (codes "a") (codes "web") 0)) (calls.Start 4) true answers.Done
    ++
    (Note (upd_done 2 (inst (codes "b") (codes "web") 0))
    ∷ Note (entries.TaskDone 2)
    ∷ said 6
    ∷ Note (upd_done 1 (inst (codes "a") (codes "web") 0))
    ∷ Note (entries.TaskDone 1)
    ∷ said 5
    ∷ [])

-- One key compiled twice, one after the other.
abbrev pub compiles_twice : History
compiles_twice built =
    part 1 12 (together built)
    ++ (Note (beginning_of 4 2 0 (Compile 2 0) (calls.CompilePackage 2 work_p [])) ∷ [])
    ++ (did 4 false (answers.Built (built work_p [])) ∷ [])
    ++ (Note (ending 4 (answers.Built (built work_p []))) ∷ [])

-- One key compiled by two open calls.
abbrev pub compiles_at_once : History
compiles_at_once built =
    part 1 10 (together built)
    ++ (Note (beginning_of 4 2 1 (Compile 2 0) (calls.CompilePackage 2 work_p [])) ∷ [])

-- An update before the keys are compiled.
abbrev pub update_before_keys : History
update_before_keys built =
    part 1 3 (together built)
    ++ (Note (upd_begin 2 (inst (codes "b") (codes "web") 0)) ∷ [])

-- The same with its machine.
abbrev pub machine_before_keys : History
machine_before_keys built =
    part 1 3 (together built)
    ++ (Note (upd_begin 2 (inst (codes "b") (codes "web") 0)) ∷ [])
    ++
    (Note (beginning_of 1 2 0 (Instance (inst (codes "b") (codes "web") 0)) (calls.CreateVm (plain z1 12) [])) ∷ [])

-- A task that works on another deployment's row.
abbrev pub work_of_another : History
work_of_another built =
    part 1 19 (together built)
    ++
    (Note (beginning_of 6 1 0 (Instance (inst (codes "b") (codes "web") 0)) (calls.CreateVm (plain z1 12) [])) ∷ [])
