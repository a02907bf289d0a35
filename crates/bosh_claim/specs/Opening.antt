-- Whether a task may open.
use Rattle.std.specs.Prelude.{ℕ, Bool, true, false, ◌&&◌, ◌||◌, List, [], ◌∷◌, Option, Some, None, filter, is_none}
use Rattle.std.specs.Prelude.{is_some, map, nat_eq, not}
use Rattle.std.specs.Cmp.Lexicographic.{pointwise}
use Rattle.std.specs.List.{list_all, list_any}
use Rattle.std.specs.Option.{option_eq, option_map_or}
use Rattle.std.specs.Str.{bytes_eq}
use Rattle.bosh_base.specs.contracts.link.JointPartialEq.TheImpl as joint_test
use Rattle.bosh_base.specs.declared.entry.TaskOpen.{TaskOpen}
use Rattle.bosh_base.specs.declared.goal.Goal.{Goal}
use Rattle.bosh_base.specs.declared.goal.GoalRow.{GoalRow}
use Rattle.bosh_base.specs.declared.inst.Inst.{Inst}
use Rattle.bosh_base.specs.declared.link.Tie.{Tie}
use Rattle.bosh_base.specs.declared.offer.Offer.{Offer}
use Rattle.bosh_base.specs.declared.snapshot.DepRow.{DepRow}
use Rattle.bosh_base.specs.declared.task.TaskKind.{TaskKind}
use Rattle.bosh_base.specs.declared.task.TaskKind.TheVariants.{Recreate, Start, Stop, Resolve, DeleteDisk, CleanUp, Fix}
use Rattle.bosh_rows.specs.Disks.{is_detached}
use Rattle.bosh_rows.specs.Same.{same_inst}
use Rattle.bosh_rows.specs.SoundSnapshot.{has_lock}
use Rattle.bosh_rows.specs.Standing.{is_empty, stands}
use Rattle.bosh_records.specs.Kinds.{deploys}
use Rattle.bosh_records.specs.Readers.{goal_of, orphan_at, row_at}
use Rattle.bosh_records.specs.Table.{things}
use Rattle.bosh_records.specs.declared.instances.Instance.{Instance}
use Rattle.bosh_records.specs.declared.orphans.LooseDisk.{LooseDisk}
use Rattle.bosh_records.specs.declared.records.Records.{Records}
use Rattle.bosh_claim.specs.Number.{is_next}

-- a deployment, or none, is the same as another
abbrev pub same_dep : Option (List ℕ) → Option (List ℕ) → Bool
same_dep one other = option_eq bytes_eq one other

-- no open task has the lock: that of a deployment, or that of the tasks that delete disks
abbrev pub is_free : Records → Option (List ℕ) → Bool
is_free records dep = not (list_any (has_lock dep) (things records.tasks.places.entries))

-- ---- tasks that delete disks

-- the task has no deployment, and changes no instance
abbrev pub has_disks_alone : TaskOpen → Bool
has_disks_alone opening = is_none opening.dep && (is_empty opening.changed && is_empty opening.obsolete)

-- the disks that are recorded orphaned, by number
abbrev pub orphaned_in : List (ℕ × Option LooseDisk) → List ℕ
orphaned_in places = map (λ place. place.0) (filter (λ place. is_some place.1) places)

-- the disks are all that are recorded orphaned
abbrev pub cleans_up : Records → TaskOpen → Bool
cleans_up records opening =
    has_disks_alone opening && pointwise nat_eq opening.disks (orphaned_in records.orphans.places.entries)

-- the disk is the only one, and is recorded orphaned
abbrev pub deletes_disk : Records → TaskOpen → ℕ → Bool
deletes_disk records opening disk =
    has_disks_alone opening && (pointwise nat_eq opening.disks (disk ∷ []) && is_some (orphan_at records disk))

-- ---- tasks of a deployment

-- the instance that a task of one instance names
abbrev pub named_instance : TaskKind → Option Inst
named_instance (Recreate inst) = Some inst
named_instance (Start inst) = Some inst
named_instance (Stop inst) = Some inst
named_instance (Resolve inst) = Some inst
named_instance kind = None

abbrev pub is_in : Goal → Inst → Bool
is_in goal inst = list_any (λ want. same_inst want.inst inst) goal.rows

abbrev pub has_named : Goal → Option Inst → Bool
has_named current (Some inst) = is_in current inst
has_named current None = true

-- a deploy may be of a new deployment, any other task is of a recorded one, and one of an instance is of one that is
-- wanted
abbrev pub names_what_is_there : Records → TaskKind → Goal → Bool
names_what_is_there records kind goal =
    deploys kind || option_map_or (λ current. has_named current (named_instance kind)) (goal_of records goal.dep) false

-- what is recorded of an instance is not as it is wanted
abbrev pub does_not_stand : Records → GoalRow → Bool
does_not_stand records want =
    option_map_or (λ row. not (stands (Some want) row)) (row_at records want.inst) (not (is_detached want.state))

-- a deploy that asks machines first changes all instances
abbrev pub is_fix : TaskKind → Bool
is_fix Fix = true
is_fix kind = false

-- the instances that a task changes, in the order of the goal: those that do not stand, or all
abbrev pub changed_in : Records → Bool → List GoalRow → List Inst
changed_in records all wants = map (λ want. want.inst) (filter (λ want. all || does_not_stand records want) wants)

-- instances are those that are to change, and the named one alone where the task names one
abbrev pub are_changed : Records → TaskOpen → Goal → Option Inst → Bool
are_changed records opening goal (Some inst) = pointwise same_inst opening.changed (inst ∷ [])
are_changed records opening goal None =
    pointwise same_inst opening.changed (changed_in records (is_fix opening.kind) goal.rows)

abbrev pub changes : Records → TaskOpen → Goal → Bool
changes records opening goal = are_changed records opening goal (named_instance opening.kind)

-- a recorded instance of the deployment that the goal has not
abbrev pub is_obsolete : Goal → Inst × Instance → Bool
is_obsolete goal entry = is_some entry.1.row && (bytes_eq entry.0.dep goal.dep && not (is_in goal entry.0))

abbrev pub obsolete_in : Goal → List (Inst × Instance) → List Inst
obsolete_in goal entries = map (λ entry. entry.0) (filter (is_obsolete goal) entries)

-- instances are those that are to go; a task of one instance deletes none
abbrev pub are_obsolete : Records → TaskOpen → Goal → Option Inst → Bool
are_obsolete records opening goal (Some inst) = is_empty opening.obsolete
are_obsolete records opening goal None =
    pointwise same_inst opening.obsolete (obsolete_in goal records.instances.by_inst.entries)

abbrev pub deletes : Records → TaskOpen → Goal → Bool
deletes records opening goal = are_obsolete records opening goal (named_instance opening.kind)

-- an offer is of the link that a tie is to
abbrev pub is_of : Offer → Tie → Bool
is_of offer tie = joint_test.ghosts.eq offer.joint tie.provider && bytes_eq offer.kind tie.kind

abbrev pub is_offered_still : Goal → Tie → Bool
is_offered_still goal tie =
    not (bytes_eq tie.provider.dep goal.dep) || list_any (λ offer. is_of offer tie) goal.offers

-- a deployment that is not the goal's has no tie to a link that the goal withdraws
abbrev pub keeps : Goal → DepRow → Bool
keeps goal row = bytes_eq row.dep goal.dep || list_all (is_offered_still goal) row.goal.ties

abbrev pub withdraws_nothing : Records → Goal → Bool
withdraws_nothing records goal = list_all (keeps goal) (things records.deployments.places.entries)

abbrev pub opens_with : Records → TaskOpen → Goal → Bool
opens_with records opening goal =
    same_dep opening.dep (Some goal.dep)
    && (is_empty opening.disks
    && (names_what_is_there records opening.kind goal
    && (changes records opening goal
    && (deletes records opening goal
    && withdraws_nothing records goal))))

-- what the task is to do is what its kind does over what is recorded
abbrev pub does_its_kind : Records → TaskOpen → TaskKind → Option Goal → Bool
does_its_kind records opening CleanUp None = cleans_up records opening
does_its_kind records opening (DeleteDisk disk) None = deletes_disk records opening disk
does_its_kind records opening CleanUp (Some goal) = false
does_its_kind records opening (DeleteDisk disk) (Some goal) = false
does_its_kind records opening kind (Some goal) = opens_with records opening goal
does_its_kind records opening kind None = false

-- it has the next number, no open task has its lock, only a deploy has a manifest, and it does what its kind does
abbrev pub opens : Records → TaskOpen → Bool
opens records opening =
    is_next opening.task records.opened
    && (is_free records opening.dep
    && ((deploys opening.kind || is_none opening.source)
    && does_its_kind records opening opening.kind opening.goal))
