-- Three keys on two compile slots: two that need nothing, and one that needs the first of them.
use Rattle.std.specs.Prelude.{ℕ, true, false, codes, Some, None, [], ◌∷◌, ◌++◌}
use Rattle.bosh_base.specs.declared.answer.Answer.TheVariants as answers
use Rattle.bosh_base.specs.declared.call.Call.TheVariants as calls
use Rattle.bosh_base.specs.declared.entry.Entry.TheVariants as entries
use Rattle.bosh_base.specs.declared.goal.Goal.{Goal}
use Rattle.bosh_base.specs.declared.key.Key.{Key}
use Rattle.bosh_base.specs.declared.key.KeyWork.{KeyWork}
use Rattle.bosh_base.specs.declared.moves.Move.TheVariants.{Note}
use Rattle.bosh_base.specs.declared.owner.Owner.TheVariants.{Compile, Instance}
use Rattle.bosh_base.specs.declared.state.State.TheVariants.{Running}
use Rattle.bosh_base.specs.declared.task.TaskKind.TheVariants as kinds
use Rattle.examples_histories.specs.Scenes.{History, beginning_of, called, did, ending}
use Rattle.examples_histories.specs.Values.{digest, goal, group, key_p}
use Rattle.examples_histories.specs.Scenes.{opening, sourced, upd_begin, upd_done}
use Rattle.examples_histories.specs.Values.{plain, row, slot, web, with_j}
use Rattle.examples_histories.specs.Values.{work_p, z1}

abbrev pub key_of : ℕ → Key
key_of n = record { fingerprint = digest n; os = codes "jammy"; version = codes "1.1" }

-- it needs p
abbrev pub work_q : KeyWork
work_q = record { name = codes "q"; key = key_of 5; deps = key_p ∷ [] }

abbrev pub work_r : KeyWork
work_r = record { name = codes "r"; key = key_of 6; deps = [] }

abbrev pub two_slots_goal : Goal
two_slots_goal =
    goal
    (codes "dep")
    (row (web 0) (plain z1 10) with_j None Running 0 ∷ [])
    (group (codes "web") 1 1 ∷ [])
    (work_p ∷ work_r ∷ work_q ∷ [])
    (slot z1 11 ∷ slot z1 12 ∷ [])
    []
    []

abbrev pub two_slots : History
two_slots built =
    Note (opening 1 kinds.Deploy (Some (codes "dep")) (Some two_slots_goal) (web 0 ∷ []) [] [] sourced)
    ∷ Note (beginning_of 1 1 0 (Compile 1 0) (calls.CreateVm (plain z1 11) []))
    ∷ Note (beginning_of 2 1 1 (Compile 1 1) (calls.CreateVm (plain z1 12) []))
    ∷ did 1 true (answers.Cid 1)
    ∷ Note (ending 1 (answers.Cid 1))
    ∷ Note (beginning_of 3 1 0 (Compile 1 0) (calls.CompilePackage 1 work_p []))
    ∷ did 2 true (answers.Cid 2)
    ∷ Note (ending 2 (answers.Cid 2))
    ∷ Note (beginning_of 4 1 1 (Compile 1 1) (calls.CompilePackage 2 work_r []))
    ∷ did 3 false (answers.Built (built work_p []))
    ∷ Note (ending 3 (answers.Built (built work_p [])))
    ∷ Note (beginning_of 5 1 0 (Compile 1 0) (calls.DeleteVm 1))
    ∷ did 4 false (answers.Built (built work_r []))
    ∷ Note (ending 4 (answers.Built (built work_r [])))
    ∷ Note (beginning_of 6 1 1 (Compile 1 1) (calls.DeleteVm 2))
    ∷ did 5 true answers.Done
    ∷ Note (ending 5 answers.Done)
    ∷ Note (beginning_of 7 1 0 (Compile 1 0) (calls.CreateVm (plain z1 11) []))
    ∷ did 6 true answers.Done
    ∷ Note (ending 6 answers.Done)
    ∷ did 7 true (answers.Cid 3)
    ∷ Note (ending 7 (answers.Cid 3))
    ∷ called 8 1 0 (Compile 1 0) (calls.CompilePackage 3 work_q (built work_p [] ∷ [])) false
    (answers.Built (built work_q (built work_p [] ∷ [])))
    ++ called 9 1 0 (Compile 1 0) (calls.DeleteVm 3) true answers.Done
    ++ Note (upd_begin 1 (web 0))
    ∷ called 10 1 0 (Instance (web 0)) (calls.CreateVm (plain z1 10) []) true (answers.Cid 4)
    ++ called 11 1 0 (Instance (web 0)) (calls.Apply 4 with_j) true answers.Done
    ++ called 12 1 0 (Instance (web 0)) (calls.Start 4) true answers.Done
    ++ Note (upd_done 1 (web 0))
    ∷ Note (entries.TaskDone 1)
    ∷ []
