-- What the work of a task that opens is to stand for.
use Rattle.std.specs.Prelude.{◌≡◌, ℕ, List, true}
use Rattle.bosh_base.specs.declared.entry.TaskOpen.{TaskOpen}
use Rattle.bosh_history.specs.Words.{is_among}
use Rattle.bosh_plan.specs.WorkBy.{swept_in}
use Rattle.bosh_records.specs.declared.records.Records.{Records}
use Rattle.bosh_work.specs.declared.part.MachineName.{MachineName}
use Rattle.bosh_work.specs.declared.work.Work.{Work}
use Rattle.laws_stands.specs.Linked.{same_machine}
use Rattle.laws_stands.specs.Stands.{AreSwept}
use Rattle.laws_stands.specs.Told.{Told}
use Rattle.laws_stands.specs.WorkStands.{WorkStands}
use Rattle.laws_stands_fits.specs.Fits.{SweepsEnded}

-- the compile machines that it is to sweep: those of its deployment that are recorded
abbrev pub swept_by : Records → TaskOpen → List MachineName
swept_by records o = swept_in o.dep records.machines.places.entries

-- the work of a task that opened, by its number and by the compile machines that it sweeps
pub record IsWorkOpened (told : Told) (t : ℕ) (swept : List MachineName) (work : Work) : Type 0 where
  -- it stands for what the task is to do
  pub stands : WorkStands told t swept work
  -- the machines are those that are left over for it
  pub are_swept : AreSwept told.known t swept
  -- .. each of an earlier task, which has ended
  pub ended : (name : MachineName) → is_among same_machine name swept ≡ true → SweepsEnded told t name
