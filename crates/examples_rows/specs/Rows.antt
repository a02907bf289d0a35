-- Rows and goal rows of one instance, which the examples change in one fact each.
use Rattle.std.specs.Prelude.{ℕ, ◌+◌, Bool, true, false, codes, Option, Some, None, List, [], ◌∷◌}
use Rattle.bosh_base.specs.declared.call.Call.{Call}
use Rattle.bosh_base.specs.declared.goal.GoalRow.{GoalRow}
use Rattle.bosh_base.specs.declared.make.Make.{Make}
use Rattle.bosh_base.specs.declared.method.Method.{Method}
use Rattle.bosh_base.specs.declared.row.DiskRow.{DiskRow}
use Rattle.bosh_base.specs.declared.row.Role.{Role}
use Rattle.bosh_base.specs.declared.row.Role.TheVariants.{Active, New, Old}
use Rattle.bosh_base.specs.declared.row.Row.{Row}
use Rattle.bosh_base.specs.declared.spec.Spec.{Spec}
use Rattle.bosh_base.specs.declared.state.State.{State}
use Rattle.bosh_base.specs.declared.state.State.TheVariants.{Running}
use Rattle.examples_histories.specs.Values.{web, z1, plain, with_j, disk, row}
use Rattle.bosh_rows.specs.declared.step.Step.{Step}

-- ---- how it is wanted

-- running, with a job and no disk
abbrev pub wanted : GoalRow
wanted = row (web 0) (plain z1 10) with_j None Running 0

abbrev pub wanted_as : State → GoalRow
wanted_as state = record wanted { state = state }

-- with a disk of this size
abbrev pub with_disk : ℕ → GoalRow → GoalRow
with_disk size want = record want { disk = Some (disk size) }

abbrev pub wanted_with_disk : GoalRow
wanted_with_disk = with_disk 10 wanted

-- .. with a disk of another type
abbrev pub of_kind : GoalRow → GoalRow
of_kind want = record want { disk = Some (record (disk 10) { properties = codes "{}" }) }

-- .. of another make
abbrev pub made : Make → GoalRow
made make = record wanted { make = make }

abbrev pub of_version : Make → Make
of_version make = record make { version = codes "1.2" }

-- .. on a machine of a later call than this one
abbrev pub fresh : ℕ → GoalRow
fresh n = record wanted { fresh_after = n }

-- ---- how it is recorded

-- as `wanted`, on machine 5 of call 3
abbrev pub up : Row
up = record {
  inst = web 0;
  make = Some (plain z1 10);
  vm = Some (record { vm = 5; agent = 3 });
  spec = Some with_j;
  running = true;
  drained = false;
  disks = [];
  doubt = None;
  lost = false;
}

abbrev pub at_rest : Row
at_rest = record up { running = false }

-- without a machine
abbrev pub absent : Row
absent = record up { vm = None; spec = None; running = false }

abbrev pub drained : Row → Row
drained row = record row { drained = true }

abbrev pub lost : Row → Row
lost row = record row { lost = true }

abbrev pub with_spec : Option Spec → Row → Row
with_spec spec row = record row { spec = spec }

abbrev pub of_make : Option Make → Row → Row
of_make make row = record row { make = make }

abbrev pub having : List DiskRow → Row → Row
having disks row = record row { disks = disks }

abbrev pub on_vm : ℕ → ℕ → Row → Row
on_vm vm agent row = record row { vm = Some (record { vm = vm; agent = agent }) }

-- a call has no answer
abbrev pub in_doubt_of : ℕ → Call → Row → Row
in_doubt_of n call row = record row { doubt = Some (record { n = n; call = call }) }

-- .. with the number 7
abbrev pub in_doubt : Call → Row → Row
in_doubt = in_doubt_of 7

-- ---- its disks, by number, size, and whether they are attached and mounted

abbrev pub disk_as : Role → ℕ → ℕ → Bool → Bool → DiskRow
disk_as role number size attached mounted =
    record { disk = number; tag = number + 3; want = disk size; role = role; attached = attached; mounted = mounted }

abbrev pub active : ℕ → ℕ → Bool → Bool → DiskRow
active = disk_as Active

abbrev pub new : ℕ → ℕ → Bool → Bool → DiskRow
new = disk_as New

abbrev pub old : ℕ → ℕ → Bool → Bool → DiskRow
old = disk_as Old

-- disk 2 of size 10, in its place
abbrev pub kept : DiskRow
kept = active 2 10 true true

abbrev pub up_with_disk : Row
up_with_disk = having (kept ∷ []) up

-- ---- steps

abbrev pub plain_step : Method → Step
plain_step method = record { method = method; disk = None }

abbrev pub step_on : Method → ℕ → Step
step_on method d = record { method = method; disk = Some d }
