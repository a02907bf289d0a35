-- The work of a task goes on to stand once another one opens.
use Rattle.std.proofs.Common.{◌≡◌, ◌∙◌, ℕ, false, ◌&&◌, ◌==◌, List, filter, map, not, Option, Some, None}
use Rattle.std.proofs.Common.{arith, refl, subst, sym}
use Rattle.std.specs.Prelude.{◌+◌, eqb, is_some, nat_le, if◌then◌else◌}
use Rattle.std.proofs.lemmas.Bool.Decides.{nat_tests}
use Rattle.bosh_base.specs.declared.entry.Entry.TheVariants as entries
use Rattle.bosh_base.specs.declared.entry.TaskOpen.{TaskOpen}
use Rattle.bosh_history.specs.Items.{is_in_deployment}
use Rattle.bosh_history.specs.Known.{Known, SlotName, Task}
use Rattle.bosh_history.specs.Tasks.{task_opened}
use Rattle.bosh_work.specs.declared.part.MachineName.{MachineName}
use Rattle.bosh_work.specs.declared.work.Work.{Work}
use Rattle.laws_stands.specs.Stands.{AreSwept, IsWork}
use Rattle.laws_stands.specs.Told.{Told, is_going, telling}
use Rattle.laws_stands.specs.WorkStands.{StandsFor}
use Rattle.laws_stands_on.proofs.ListedLemmas.{listed_goes_on, untouched}

module _ (told : Told) (o : TaskOpen) (t : ℕ) (next : o.task ≡ told.known.tasks + 1) (other : eqb o.task t ≡ false) where
  abbrev k : Known
  k = told.known

  abbrev new : Told
  new = telling told (entries.TaskOpen o)

  -- it is as it was
  same_task : new.known.task t ≡ k.task t
  same_task = λ i. if other i then task_opened k o else k.task t

  up_to : nat_le t o.task ≡ nat_le t k.tasks
  up_to = grind (arith, nat_tests, next, other)

  -- it is open where it was
  pub same_going : is_going new.known t ≡ is_going k t
  same_going = λ i. nat_le 1 t && (up_to i && not (is_some (same_task i).end))

  swept_too : (swept : List MachineName) → AreSwept k t swept → AreSwept new.known t swept
  swept_too swept are = subst
      (λ (task : Task). map (λ (name : MachineName). record { task = name.task; slot = name.slot })
      (filter (λ (name : MachineName). is_some (k.slot name.task name.slot)) swept)
      ≡ filter (λ (name : SlotName). not (name.task == t) && is_in_deployment k task.dep name) k.machines)
      (sym same_task) are

  go_on : (work : Option Work) → IsWork told t work → IsWork new t work
  go_on (Some work) (going, later, (swept, stands, are)) = (
    same_going ∙ going,
    later,
    (
      swept,
      subst (λ task. StandsFor new task t swept work) (sym same_task)
          (listed_goes_on told new (k.task t) t swept work
          (untouched told new.known refl refl refl refl refl refl (k.task t) t swept) stands),
      swept_too swept are,
    ),
  )
  go_on None none = λ later. same_going ∙ none later

pub others_go_on : (told : Told) (o : TaskOpen) (t : ℕ) (work : Option Work) → o.task ≡ told.known.tasks + 1
    → eqb o.task t ≡ false → IsWork told t work → IsWork (telling told (entries.TaskOpen o)) t work
others_go_on told o t work next other = go_on told o t next other work
