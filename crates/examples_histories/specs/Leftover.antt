-- A leftover compile machine is swept.
use Rattle.std.specs.Prelude.{true, false, codes, Some, [], ◌∷◌, ◌++◌}
use Rattle.bosh_base.specs.declared.answer.Answer.TheVariants as answers
use Rattle.bosh_base.specs.declared.call.Call.TheVariants as calls
use Rattle.bosh_base.specs.declared.entry.Entry.TheVariants as entries
use Rattle.bosh_base.specs.declared.failure.Failure.TheVariants as failures
use Rattle.bosh_base.specs.declared.goal.Goal.{Goal}
use Rattle.bosh_base.specs.declared.moves.Move.TheVariants.{Note}
use Rattle.bosh_base.specs.declared.owner.Owner.TheVariants.{Compile}
use Rattle.bosh_base.specs.declared.task.TaskKind.TheVariants as kinds
use Rattle.examples_histories.specs.Scenes.{History, sourced, opening, task_error, loss, said, called, part}
use Rattle.examples_histories.specs.Values.{z1, plain, slot, work_p, group, goal}

abbrev pub leftover_g1 : Goal
leftover_g1 =
    goal (codes "dep") [] (group (codes "web") 1 1 ∷ []) (work_p ∷ []) (slot z1 10 ∷ []) [] []

abbrev pub leftover_g2 : Goal
leftover_g2 =
    goal (codes "dep") [] (group (codes "web") 1 1 ∷ []) [] [] [] []

abbrev pub leftover : History
leftover built =
    (said 4 ∷ Note (opening 1 kinds.Deploy (Some (codes "dep")) (Some leftover_g1) [] [] [] sourced) ∷ [])
    ++ called 1 1 0 (Compile 1 0) (calls.CreateVm (plain z1 10) []) true (answers.Cid 1)
    ++ called 2 1 0 (Compile 1 0) (calls.CompilePackage 1 work_p []) false (answers.Built (built work_p []))
    ++ called 3 1 0 (Compile 1 0) (calls.DeleteVm 1) false answers.Failed
    ++
    (Note (task_error 1 (failures.Call 3))
    ∷ said 5
    ∷ Note (opening 2 kinds.Deploy (Some (codes "dep")) (Some leftover_g2) [] [] [] sourced)
    ∷ [])
    ++ called 4 2 0 (Compile 1 0) (calls.HasVm 1) false answers.Yes
    ++ called 5 2 0 (Compile 1 0) (calls.DeleteVm 1) true answers.Done
    ++ (Note (entries.TaskDone 2) ∷ said 6 ∷ [])

-- TaskDone with a leftover compile machine.
abbrev pub done_with_leftover_machines : History
done_with_leftover_machines built =
    part 1 14 (leftover built)
    ++ part 21 21 (leftover built)

-- A loss of a compile machine.
abbrev pub compile_machine_lost : History
compile_machine_lost built =
    part 1 5 (leftover built)
    ++ (loss 1 true ∷ [])

-- TaskDone while a key of the goal is not compiled, and no instance changed.
abbrev pub keys_never_compiled : History
keys_never_compiled built =
    part 1 2 (leftover built)
    ++ (Note (entries.TaskDone 1) ∷ [])
