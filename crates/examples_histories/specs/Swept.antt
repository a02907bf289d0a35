-- A compile machine in doubt of its creation.
use Rattle.std.specs.Prelude.{true, false, codes, Some, None, [], ◌∷◌, ◌++◌}
use Rattle.bosh_base.specs.declared.answer.Answer.TheVariants as answers
use Rattle.bosh_base.specs.declared.call.Call.TheVariants as calls
use Rattle.bosh_base.specs.declared.entry.Entry.TheVariants as entries
use Rattle.bosh_base.specs.declared.failure.Failure.TheVariants as failures
use Rattle.bosh_base.specs.declared.goal.Goal.{Goal}
use Rattle.bosh_base.specs.declared.moves.Cause.TheVariants as causes
use Rattle.bosh_base.specs.declared.moves.Move.TheVariants.{Note, Halt}
use Rattle.bosh_base.specs.declared.owner.Owner.TheVariants.{Compile}
use Rattle.bosh_base.specs.declared.task.TaskKind.TheVariants as kinds
use Rattle.examples_histories.specs.Scenes.{History, sourced, opening, beginning_of, task_error, stop, said, called, part}
use Rattle.examples_histories.specs.Values.{z1, plain, slot, work_p, group, goal}

abbrev pub swept_g1 : Goal
swept_g1 =
    goal (codes "dep") [] (group (codes "web") 1 1 ∷ []) (work_p ∷ []) (slot z1 10 ∷ []) [] []

abbrev pub swept_g2 : Goal
swept_g2 =
    goal (codes "dep") [] (group (codes "web") 1 1 ∷ []) (work_p ∷ []) (slot z1 11 ∷ []) [] []

abbrev pub swept : History
swept built =
    (said 4
    ∷ Note (opening 1 kinds.Deploy (Some (codes "dep")) (Some swept_g1) [] [] [] sourced)
    ∷ Note (beginning_of 1 1 0 (Compile 1 0) (calls.CreateVm (plain z1 10) []))
    ∷ Halt causes.Stop
    ∷ said 5
    ∷ stop None (1 ∷ []) None
    ∷ Note (task_error 1 failures.Interrupted)
    ∷ said 6
    ∷ Note (opening 2 kinds.Deploy (Some (codes "dep")) (Some swept_g2) [] [] [] sourced)
    ∷ [])
    ++ called 2 2 0 (Compile 1 0) (calls.FindVm 1) false (answers.Found (Some 1))
    ++ called 3 2 0 (Compile 1 0) (calls.DeleteVm 1) true answers.Done
    ++ called 4 2 0 (Compile 2 0) (calls.CreateVm (plain z1 11) []) true (answers.Cid 2)
    ++ called 5 2 0 (Compile 2 0) (calls.CompilePackage 2 work_p []) false (answers.Built (built work_p []))
    ++ called 6 2 0 (Compile 2 0) (calls.DeleteVm 2) true answers.Done
    ++ (Note (entries.TaskDone 2) ∷ said 7 ∷ [])

-- A compile machine made before the leftover one is swept.
abbrev pub compiled_before_sweep : History
compiled_before_sweep built =
    part 1 9 (swept built)
    ++ (Note (beginning_of 2 2 0 (Compile 2 0) (calls.CreateVm (plain z1 11) [])) ∷ [])

-- The interrupted task asks for its own compile machine.
abbrev pub own_slot_goes_on : History
own_slot_goes_on built =
    part 1 6 (swept built)
    ++ (Note (beginning_of 2 1 0 (Compile 1 0) (calls.FindVm 1)) ∷ [])
