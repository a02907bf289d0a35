-- What a task that is done left: exactly its goal, as far as the task could find out (this project's profile). Each test
-- takes the task, so that its end, which changes nothing else, changes none of them.
use Rattle.std.specs.Prelude.{◌≡◌, ℕ, Bool, true, false, nat_eq, nat_lt, not, ◌&&◌, ◌||◌, ◌==◌, Option, Some, None, is_some, List, [], ◌∷◌, filter}
use Rattle.std.specs.Cmp.Lexicographic.{pointwise}
use Rattle.std.specs.List.{list_any, list_all}
use Rattle.std.specs.Option.{option_eq}
use Rattle.std.specs.Str.{bytes_eq}
use Rattle.bosh_base.specs.Cloud.{attached_to, disk_creation, disks_created, holder_of, is_disk_mounted, is_disk_there, is_running, is_silent, is_vm_there, make_of, numbers_to, spec_of, vm_creation, vms_created, want_of}
use Rattle.bosh_base.specs.declared.disk_want.DiskWant.{DiskWant}
use Rattle.bosh_base.specs.declared.entry.Effect.{Effect}
use Rattle.bosh_base.specs.declared.entry.Entry.{Entry}
use Rattle.bosh_base.specs.declared.goal.Goal.{Goal}
use Rattle.bosh_base.specs.declared.goal.GoalRow.{GoalRow}
use Rattle.bosh_base.specs.declared.inst.Inst.{Inst}
use Rattle.bosh_base.specs.declared.moves.Move.{Move}
use Rattle.bosh_base.specs.declared.owner.Owner.{Owner}
use Rattle.bosh_base.specs.declared.owner.Owner.TheVariants.{Instance}
use Rattle.bosh_base.specs.declared.row.DiskRow.{DiskRow}
use Rattle.bosh_base.specs.declared.row.Row.{Row}
use Rattle.bosh_base.specs.declared.task.TaskKind.{TaskKind}
use Rattle.bosh_base.specs.declared.task.TaskKind.TheVariants.{Deploy, Recreate, Start, Stop, DeleteDeployment, Fix, Resolve}
use Rattle.bosh_history.specs.Goals.{rows_of}
use Rattle.bosh_history.specs.Known.{Known, Task, dep_named, want_in}
use Rattle.bosh_history.specs.Moments.{Moment, Opening, moment}
use Rattle.bosh_history.specs.Openings.{ties_of}
use Rattle.bosh_history.specs.Words.{holds}
use Rattle.bosh_rows.specs.Disks.{is_active, is_detached, stays, is_running as runs}
use Rattle.bosh_rows.specs.Same.{same_inst, same_make, same_owner, same_spec, same_tie, same_want}
use Rattle.bosh_rows.specs.Standing.{same_truth}
use Rattle.bosh_rows.specs.Tied.{is_spoiled, number_of, vms_of}

-- ---- machines

-- a row of the goal that is to have a machine
abbrev pub is_wanted_by : Option Goal → Owner → Bool
is_wanted_by goal (Instance i) = holds (λ want. not (is_detached want.state)) (want_in goal i)
is_wanted_by goal owner = false

-- the machine was not made in the deployment, or is of a row that is to have one
abbrev pub belongs : List ℕ → Option Goal → Option Effect → Bool
belongs dep goal (Some e) = not (bytes_eq e.dep dep) || is_wanted_by goal e.owner
belongs dep goal None = true

-- each machine of the deployment that is there is of a row that is to have one
abbrev pub has_no_other_machine : List Entry → List ℕ → Option Goal → Bool
has_no_other_machine effects dep goal =
    list_all (λ v. not (is_vm_there effects v) || belongs dep goal (vm_creation effects v))
    (numbers_to (vms_created effects))

-- ---- one row

-- it has no two machines
abbrev pub are_at_most_one : List ℕ → Bool
are_at_most_one [] = true
are_at_most_one (v ∷ []) = true
are_at_most_one vms = false

-- the machine was created for the instance, as it is wanted and late enough
abbrev pub was_made_for : GoalRow → Option Effect → Bool
was_made_for want (Some e) =
    same_owner e.owner (Instance want.inst)
    && (option_eq same_make (make_of e.call) (Some want.make) && nat_lt want.fresh_after e.n)
was_made_for want None = false

-- a disk that is there, attached to the machine and mounted
abbrev pub is_at : List Entry → ℕ → ℕ → Bool
is_at effects v d =
    is_disk_there effects d && (option_eq nat_eq (holder_of effects d) (Some v) && is_disk_mounted effects d)

-- the active disks of a row
abbrev pub actives : Row → List DiskRow
actives row = filter is_active row.disks

-- the disk was created for the instance, of this want
abbrev pub is_created_as : Inst → DiskWant → Option Effect → Bool
is_created_as i wanted (Some e) =
    same_owner e.owner (Instance i) && option_eq same_want (want_of e.call) (Some wanted)
is_created_as i wanted None = false

-- the one active disk, made as it is wanted, is the one disk at the machine
abbrev pub has_wanted_disk : List Entry → ℕ → Inst → DiskWant → List DiskRow → Bool
has_wanted_disk effects v i wanted (d ∷ []) =
    is_created_as i wanted (disk_creation effects d.disk)
    && (is_at effects v d.disk && pointwise nat_eq (attached_to effects v) (d.disk ∷ []))
has_wanted_disk effects v i wanted disks = false

-- where none is wanted, no disk is at the machine
abbrev pub has_its_disk : List Entry → ℕ → Inst → Option DiskWant → Row → Bool
has_its_disk effects v i (Some wanted) row = has_wanted_disk effects v i wanted (actives row)
has_its_disk effects v i None row = pointwise nat_eq (attached_to effects v) []

-- its machine: made as it is wanted and late enough, not silent, with the spec that is wanted and running where it is
-- to run
abbrev pub is_machine_of : List Entry → GoalRow → Row → List ℕ → Bool
is_machine_of effects want row (v ∷ []) =
    was_made_for want (vm_creation effects v)
    && (not (is_silent effects v)
    && (option_eq same_spec (spec_of effects v) (Some want.spec)
    && (same_truth (is_running effects v) (runs want.state)
    && has_its_disk effects v want.inst want.disk row)))
is_machine_of effects want row vms = false

-- spoiled it still has its one active disk, made as it is wanted, where it wants one
abbrev pub has_one : List Entry → Inst → DiskWant → List DiskRow → Bool
has_one effects i wanted (d ∷ []) =
    is_created_as i wanted (disk_creation effects d.disk) && is_disk_there effects d.disk
has_one effects i wanted disks = false

abbrev pub keeps_disk : List Entry → Inst → Option DiskWant → Row → Bool
keeps_disk effects i (Some wanted) row = has_one effects i wanted (actives row)
keeps_disk effects i None row = true

-- detached it has no machine, and its active disk is there and attached to none
abbrev pub is_put_away : List Entry → Row → List ℕ → Bool
is_put_away effects row [] =
    list_all (λ d. is_disk_there effects d.disk && not (is_some (holder_of effects d.disk))) (actives row)
is_put_away effects row vms = false

-- a task that asks the machine of the instance
abbrev pub asks : TaskKind → Inst → Bool
asks Fix i = true
asks (Resolve named) i = same_inst named i
asks kind i = false

-- its machine was not lost before the task heard of it
abbrev pub is_spoiled_late : Moment → ℕ → Row → Bool
is_spoiled_late m t row = list_all (λ v. not (m.early t v)) (number_of row.vm)

-- A task that asks its machines finds each loss from before: its row is spoiled by a later one alone.
abbrev pub is_spoiled_well : Moment → ℕ → Task → GoalRow → Row → Bool
is_spoiled_well m t task want row =
    keeps_disk m.effects want.inst want.disk row && (not (asks task.kind want.inst) || is_spoiled_late m t row)

-- it is as it is to be: put away, or lost since the task could find out, or with its machine
abbrev pub is_as_wanted : Moment → ℕ → Task → GoalRow → Bool → Bool → Bool
is_as_wanted m t task want true spoiled =
    is_put_away m.effects (m.known.row want.inst) (vms_of m.effects (Instance want.inst))
is_as_wanted m t task want false true = is_spoiled_well m t task want (m.known.row want.inst)
is_as_wanted m t task want false false =
    is_machine_of m.effects want (m.known.row want.inst) (vms_of m.effects (Instance want.inst))

-- a row of the goal is there as it is wanted, or was lost since the task could find out
abbrev pub is_exact_row : Moment → ℕ → Task → GoalRow → Bool
is_exact_row m t task want =
    are_at_most_one (vms_of m.effects (Instance want.inst))
    && is_as_wanted m t task want (is_detached want.state) (is_spoiled m.effects (m.known.row want.inst))

-- ---- disks

-- the disk is the active one of a row of the goal that keeps its disk
abbrev pub is_staying_of : ℕ → GoalRow → DiskRow → Bool
is_staying_of d want it = it.disk == d && stays want it

abbrev pub is_staying : Known → Option Goal → ℕ → Bool
is_staying k goal d =
    list_any (λ want. list_any (is_staying_of d want) (k.row want.inst).disks) (rows_of goal)

-- a disk that is there and of concern stays with its row, or is orphaned
abbrev pub is_accounted : Moment → (Option Effect → Bool) → Option Goal → ℕ → Bool
is_accounted m concerns goal d =
    not (is_disk_there m.effects d && concerns (disk_creation m.effects d))
    || (is_staying m.known goal d || is_some (m.known.orphan d))

-- every other disk of concern is orphaned
abbrev pub leaves_no_disk : Moment → (Option Effect → Bool) → Option Goal → Bool
leaves_no_disk m concerns goal = list_all (is_accounted m concerns goal) (numbers_to (disks_created m.effects))

abbrev pub is_owner_in : List ℕ → Owner → Bool
is_owner_in dep (Instance i) = bytes_eq i.dep dep
is_owner_in dep owner = false

-- it was created for an instance of the deployment
abbrev pub is_made_in : List ℕ → Option Effect → Bool
is_made_in dep e = holds (λ it. is_owner_in dep it.owner) e

-- .. for the instance
abbrev pub is_of_inst : Inst → Option Effect → Bool
is_of_inst i e = holds (λ it. same_owner it.owner (Instance i)) e

-- ---- links

-- what is recorded of the links of the deployment is what the goal says
abbrev pub has_its_ties : Known → List ℕ → Option Goal → Bool
has_its_ties k dep goal = pointwise same_tie (ties_of (k.goal dep)) (ties_of goal)

-- ---- all

abbrev pub is_exact_deploy : Moment → ℕ → Task → Bool
is_exact_deploy m t task =
    has_no_other_machine m.effects (dep_named task.dep) task.goal
    && (list_all (is_exact_row m t task) (rows_of task.goal)
    && (leaves_no_disk m (is_made_in (dep_named task.dep)) task.goal
    && has_its_ties m.known (dep_named task.dep) task.goal))

abbrev pub is_exact_instance : Moment → ℕ → Task → Inst → Bool
is_exact_instance m t task i =
    holds (is_exact_row m t task) (want_in task.goal i) && leaves_no_disk m (is_of_inst i) task.goal

-- no listed disk is there
abbrev pub is_exact_clean_up : Moment → Task → Bool
is_exact_clean_up m task = list_all (λ d. not (is_disk_there m.effects d)) task.disks

abbrev pub is_exact_kind : Moment → ℕ → Task → TaskKind → Bool
is_exact_kind m t task Deploy = is_exact_deploy m t task
is_exact_kind m t task Fix = is_exact_deploy m t task
is_exact_kind m t task DeleteDeployment = is_exact_deploy m t task
is_exact_kind m t task (Recreate i) = is_exact_instance m t task i
is_exact_kind m t task (Start i) = is_exact_instance m t task i
is_exact_kind m t task (Stop i) = is_exact_instance m t task i
is_exact_kind m t task (Resolve i) = is_exact_instance m t task i
is_exact_kind m t task kind = is_exact_clean_up m task

-- a deploy and a deletion left their goal whole, a task of one instance that instance, and a clean-up none of its
-- disks
abbrev pub is_exact : Moment → ℕ → Bool
is_exact m t = is_exact_kind m t (m.known.task t) (m.known.task t).kind

-- after these moves, the task has left what it was asked for
abbrev pub IsExact : Opening → List Move → ℕ → Type 0
IsExact o moves t = is_exact (moment o moves) t ≡ true
