-- What is told of tasks that have not ended, whether they work or a stop interrupted them: each lists what is of its
-- deployment, or of none as it is, and so are the owners of its open calls.
use Rattle.std.specs.Prelude.{◌≡◌, ◌≤◌, ℕ, List, [], None, Option, Some, eqb, false, length, true}
use Rattle.std.specs.Str.{bytes_eq}
use Rattle.bosh_base.specs.declared.entry.Begin.{Begin}
use Rattle.bosh_base.specs.declared.inst.Inst.{Inst}
use Rattle.bosh_base.specs.declared.owner.Owner.{Owner}
use Rattle.bosh_base.specs.declared.owner.Owner.TheVariants.{Compile, Disk, Instance}
use Rattle.bosh_history.specs.Known.{Known, Slot, Task}
use Rattle.bosh_history.specs.Words.{is_among}
use Rattle.bosh_rows.specs.Same.{same_inst}
use Rattle.laws_stands.specs.Told.{Told, is_going}

-- what a task lists is of its deployment, or it is of none
pub record ListsOwn (t : Task) : Type 0 where
  pub asked : (i : Inst) → is_among same_inst i t.to_ping ≡ true → t.dep ≡ Some i.dep
  pub leaving : (i : Inst) → is_among same_inst i t.obsolete ≡ true → t.dep ≡ Some i.dep
  pub changing : (i : Inst) → is_among same_inst i t.changed ≡ true → t.dep ≡ Some i.dep
  pub deleting : (d : ℕ) → is_among eqb d t.disks ≡ true → t.dep ≡ None

-- a compile machine that is recorded is of the deployment
abbrev pub IsMachineOf : Known → Option (List ℕ) → ℕ → ℕ → Type 0
IsMachineOf k dep t s = (row : Slot) × (k.slot t s ≡ Some row) × (dep ≡ Some row.dep)

-- an owner is of the deployment, or of none
abbrev pub IsOwn : Known → Option (List ℕ) → Owner → Type 0
IsOwn k dep (Instance i) = dep ≡ Some i.dep
IsOwn k dep (Compile t s) = IsMachineOf k dep t s
IsOwn k dep (Disk d) = dep ≡ None

pub record TellsOwn (told : Told) : Type 0 where
  pub lists : (t : ℕ) → is_going told.known t ≡ true → ListsOwn (told.known.task t)
  pub calls : (n : ℕ) (b : Begin) → told.calls n ≡ Some b →
      IsOwn told.known (told.known.task b.task).dep b.owner
  -- each compile machine that is recorded was made by a call of its own
  pub few : length told.known.machines ≤ told.known.last_call
  -- a deployment that is not recorded offers nothing
  pub unshared : (dep : List ℕ) → is_among bytes_eq dep told.known.deployments ≡ false → told.known.shared dep ≡ []
