-- What differs between the records of a deployment and the cloud (this project's profile; bosh.io, "Cloud Check").
use Rattle.std.specs.Prelude.{ℕ, Bool, true, not, nat_eq, ◌==◌, ◌&&◌, if◌then◌else◌, Option, Some, None, List, [], ◌∷◌, ◌++◌, find, filter, map}
use Rattle.std.specs.Cmp.Lexicographic.{pointwise}
use Rattle.std.specs.List.{IsDistinct, flat_map, list_all, list_any}
use Rattle.std.specs.Option.{option_eq}
use Rattle.bosh_base.specs.declared.inst.Inst.{Inst}
use Rattle.bosh_base.specs.declared.machine.Disk.{Disk}
use Rattle.bosh_base.specs.declared.machine.Machine.{Machine}
use Rattle.bosh_base.specs.declared.problem.Problem.{Problem}
use Rattle.bosh_base.specs.declared.problem.Problem.TheVariants.{InDoubt, MissingVm, SilentAgent, OtherVm, Facts, MissingDisk, LooseDisk}
use Rattle.bosh_base.specs.declared.problem.What.{What}
use Rattle.bosh_base.specs.declared.problem.What.TheVariants.{Spec, Running, Drained, Disks}
use Rattle.bosh_base.specs.declared.row.DiskRow.{DiskRow}
use Rattle.bosh_base.specs.declared.row.Doubt.{Doubt}
use Rattle.bosh_base.specs.declared.row.Row.{Row}
use Rattle.bosh_base.specs.declared.row.Vm.{Vm}
use Rattle.bosh_base.specs.declared.snapshot.Orphan.{Orphan}
use Rattle.bosh_history.specs.Agrees.{agrees, its_machines, numbers}
use Rattle.bosh_rows.specs.Same.{same_spec}
use Rattle.bosh_rows.specs.Standing.{same_truth}
use Rattle.bosh_cck.specs.Loose.{is_loose}

-- of the machines of an instance, the one that its row records
abbrev pub recorded : Option Vm → List Machine → Option Machine
recorded None own = None
recorded (Some vm) own = find (λ it. it.vm == vm.vm) own

-- the row records a machine that is not there
abbrev pub missing : Row → Option Vm → Option Machine → List Problem
missing row (Some vm) None = MissingVm row.inst vm.vm ∷ []
missing row (Some vm) (Some it) = []
missing row None its = []

-- its machine is silent
abbrev pub silent : Row → Option Machine → List Problem
silent row None = []
silent row (Some it) = if it.silent then SilentAgent row.inst it.vm ∷ [] else []

-- a machine is not the one that the row records
abbrev pub is_other : Option Vm → Machine → Bool
is_other None it = true
is_other (Some vm) it = not (it.vm == vm.vm)

-- each further machine of the instance, in the order of the cloud, which is by number
abbrev pub others : Row → List Machine → List Problem
others row own = map (λ it. OtherVm row.inst it.vm) (filter (is_other row.vm) own)

-- the machine holds just the disks that the row has attached, and just those that it has mounted
abbrev pub same_disks : Row → Machine → Bool
same_disks row it =
    pointwise nat_eq it.attached (numbers (λ d. d.attached) row)
    && pointwise nat_eq it.mounted (numbers (λ d. d.mounted) row)

-- a fact, where it differs
abbrev pub fact : Row → What → Bool → List Problem
fact row what same = if same then [] else Facts row.inst what ∷ []

-- each of the four facts in which row and machine differ
abbrev pub facts_of : Row → Machine → List Problem
facts_of row it =
    fact row Spec (option_eq same_spec it.spec row.spec)
    ++ (fact row Running (same_truth it.running row.running)
    ++ (fact row Drained (same_truth it.drained row.drained)
    ++ fact row Disks (same_disks row it)))

-- what a machine is recorded to be is compared where it answers
abbrev pub facts : Row → Option Machine → List Problem
facts row None = []
facts row (Some it) = if it.silent then [] else facts_of row it

-- what is wrong with the machines of the instance: its recorded one, and then the others and the facts
abbrev pub machine_problems : Row → List Machine → List Problem
machine_problems row own =
    missing row row.vm (recorded row.vm own)
    ++ (silent row (recorded row.vm own) ++ (others row own ++ facts row (recorded row.vm own)))

-- each of several disks of an instance that is not there
abbrev pub missing_among : (ℕ → Bool) → Inst → List DiskRow → List Problem
missing_among is_there inst disks =
    map (λ d. MissingDisk inst d.disk) (filter (λ d. not (is_there d.disk)) disks)

-- each recorded disk that is not there, in the order of the row, which is by number
abbrev pub missing_disks : (ℕ → Bool) → Row → List Problem
missing_disks is_there row = missing_among is_there row.inst row.disks

-- a doubt stands alone, since the facts of its row are not known
abbrev pub unless_doubted : Inst → Option Doubt → List Problem → List Problem
unless_doubted inst (Some doubt) known = InDoubt inst doubt.n ∷ []
unless_doubted inst None known = known

-- what is wrong with a row, by the machines of its instance and the disks that are there
abbrev pub row_problems : List Machine → (ℕ → Bool) → Row → List Problem
row_problems own is_there row =
    unless_doubted row.inst row.doubt (machine_problems row own ++ missing_disks is_there row)

-- a disk of the number is there
abbrev pub is_disk : List Disk → ℕ → Bool
is_disk disks disk = list_any (λ it. it.disk == disk) disks

-- what is wrong with each row, in their order
abbrev pub all_row_problems : List Row → List Machine → List Disk → List Problem
all_row_problems rows machines disks =
    flat_map (λ row. row_problems (its_machines row machines) (is_disk disks) row) rows

-- each of several disks that is loose by a test
abbrev pub loose_among : (Disk → Bool) → List Disk → List Problem
loose_among test disks = map (λ it. LooseDisk it.disk) (filter test disks)

-- each loose disk, in the order of the cloud, which is by number
abbrev pub loose_disks : List ℕ → List Row → List Orphan → List Disk → List Problem
loose_disks dep rows orphans disks = loose_among (is_loose dep rows orphans) disks

-- all that differs: the rows, and then the loose disks
abbrev pub problems : List ℕ → List Row → List Orphan → List Machine → List Disk → List Problem
problems dep rows orphans machines disks =
    all_row_problems rows machines disks ++ loose_disks dep rows orphans disks

-- every row agrees with the cloud, and no disk is loose
abbrev pub all_agree : List ℕ → List Row → List Orphan → List Machine → List Disk → Bool
all_agree dep rows orphans machines disks =
    list_all (λ row. agrees row machines disks) rows && not (list_any (is_loose dep rows orphans) disks)

-- no two machines have one number
abbrev pub AreApart : List Machine → Type 0
AreApart machines = IsDistinct nat_eq (map (λ it. it.vm) machines)
