-- The groups of a task go on to stand, whatever else is told of the task.
use Rattle.std.proofs.Common.{ℕ, Bool, List, [], ◌∷◌, Option}
use Rattle.bosh_base.specs.declared.failure.Failure.{Failure}
use Rattle.bosh_base.specs.declared.inst.Inst.{Inst}
use Rattle.bosh_base.specs.declared.task.TaskEnd.{TaskEnd}
use Rattle.bosh_history.specs.Known.{Task}
use Rattle.bosh_work.specs.declared.groups.GroupWork.{GroupWork}
use Rattle.laws_stands.specs.GroupsStand.{EachStands, gone_on}

module _ (t : Task) (idle pinged gone : Inst → Bool) (failed : Option Failure) (calls : Option ℕ)
    (end : Option TaskEnd) where
  pub groups_as : (names : List (List ℕ)) (groups : List GroupWork) → EachStands t idle names groups
      → EachStands (gone_on t pinged t.upd gone failed calls end) idle names groups
  groups_as [] [] each = tt
  groups_as (group ∷ names) (it ∷ groups) (here, more) = (
    record {
      stage_is = here.stage_is;
      canaries_are = here.canaries_are;
      limit_is = here.limit_is;
      places_are = here.places_are;
      waiting_are = here.waiting_are;
      busy_are = here.busy_are;
      idle_are = here.idle_are;
    },
    groups_as names groups more,
  )
  groups_as [] (it ∷ groups) each = absurd each
  groups_as (group ∷ names) [] each = absurd each
