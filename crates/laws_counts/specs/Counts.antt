-- The calls of a clean task, counted: all are of those that its budget counts, and its compile machines and
-- those that it sweeps have few.
use Rattle.std.specs.Prelude.{◌≡◌, ℕ, ◌+◌, ◌*◌, Bool, true, false, nat_le, not, ◌&&◌, ◌||◌, ◌==◌, if◌then◌else◌, Option, Some, None, is_some, List, [], ◌++◌, length, map, sum_by, count_by, codes}
use Rattle.std.specs.List.{list_any, list_all}
use Rattle.std.specs.Option.{option_eq}
use Rattle.std.specs.Str.{bytes_eq}
use Rattle.bosh_base.specs.Cloud.{numbers_to}
use Rattle.bosh_base.specs.declared.call.Call.{Call}
use Rattle.bosh_base.specs.declared.call.Call.TheVariants.{CompilePackage, CreateVm, DeleteVm, FindVm, HasVm}
use Rattle.bosh_base.specs.declared.digest.Digest.{Digest}
use Rattle.bosh_base.specs.declared.inst.Inst.{Inst}
use Rattle.bosh_base.specs.declared.key.Key.{Key}
use Rattle.bosh_base.specs.declared.key.KeyWork.{KeyWork}
use Rattle.bosh_base.specs.declared.owner.Owner.{Owner}
use Rattle.bosh_base.specs.declared.owner.Owner.TheVariants.{Instance, Compile}
use Rattle.laws_facts.specs.Clean.{is_call_clean, is_row_clean}
use Rattle.laws_facts.specs.CompileMachines.{is_being_deleted, is_for}
use Rattle.laws_counts.specs.Courses.{Account, Course}
use Rattle.laws_facts.specs.Owners.{works}
use Rattle.laws_counts.specs.RowSteps.{StepFacts, are_steps_well, is_budgeted}
use Rattle.laws_facts.specs.Words.{unless}
use Rattle.laws_row_facts.specs.Words.{implies, where_any}
use Rattle.bosh_history.specs.Goals.{instances_of}
use Rattle.bosh_history.specs.Items.{is_leftover, slots_of}
use Rattle.bosh_history.specs.Known.{Known, Slot, SlotName, Task}
use Rattle.bosh_history.specs.Moments.{Moment, OpenCall}
use Rattle.bosh_history.specs.Orders.{same_slot}
use Rattle.bosh_history.specs.Slots.{is_compiled, keys_of}
use Rattle.bosh_history.specs.Steps.{is_idle, is_owners}
use Rattle.bosh_history.specs.Words.{holds, is_among, numbers_below}

-- ---- all calls of a task

-- the owner that a compile machine is
abbrev pub owner_of : SlotName → Owner
owner_of name = Compile name.task name.slot

-- the slots of the task
abbrev pub own_slots : ℕ → Task → List Owner
own_slots t task = map (Compile t) (numbers_below (length (slots_of task.goal)))

-- those whose calls the budget counts
abbrev pub budgeted : ℕ → Task → Account → List Owner
budgeted t task it =
    map Instance (instances_of task.goal)
    ++ map Instance task.obsolete
    ++ own_slots t task
    ++ map owner_of it.left_over

-- the calls of the task are no more than those of these
abbrev pub are_all_counted : ℕ → Task → Account → Bool
are_all_counted t task it = holds (λ n. nat_le n (sum_by it.made (budgeted t task it))) task.calls

-- a compile machine that an earlier task of the deployment left is one of them
abbrev pub is_left_over : Known → ℕ → Account → SlotName → Bool
is_left_over k t it name = implies (is_leftover k t name) (is_among same_slot name it.left_over)

-- ---- the calls of its compile machines

-- a slot of the task is for the key
abbrev pub is_key_held : Known → ℕ → Task → Key → Bool
is_key_held k t task key =
    list_any (λ s. holds (is_for (Some key)) (k.slot t s)) (numbers_below (length (slots_of task.goal)))

-- an open call of the machine compiles
abbrev pub compiles_package : Call → Bool
compiles_package (CompilePackage vm work deps) = true
compiles_package call = false

abbrev pub is_compilation_of : Owner → OpenCall → Bool
is_compilation_of owner call = is_owners owner call && compiles_package call.begin.call

abbrev pub compiles_now : Moment → Owner → Bool
compiles_now m owner = list_any (λ n. holds (is_compilation_of owner) (m.calls n)) (numbers_to m.known.last_call)

-- its key is compiled, or it is compiling it
abbrev pub is_compiled_for : Moment → ℕ → ℕ → Slot → Bool
is_compiled_for m t s it = holds (is_compiled m.known) it.key || compiles_now m (Compile t s)

-- a machine that is made has one call, two once it compiles or its key is compiled, and three once it is deleted
abbrev pub most_of_slot : Moment → ℕ → ℕ → Option Slot → ℕ
most_of_slot m t s (Some it) = if is_being_deleted it then 3 else (if is_compiled_for m t s it then 2 else 1)
most_of_slot m t s None = 0

-- .. and three for each key that is compiled, whose machine is gone
abbrev pub is_past : Known → ℕ → Task → KeyWork → Bool
is_past k t task work = is_compiled k work.key && not (is_key_held k t task work.key)

-- how many calls the slots of the task may have had
abbrev pub most_of_slots : Moment → ℕ → Task → ℕ
most_of_slots m t task =
    3 * count_by (is_past m.known t task) (keys_of task.goal)
    + sum_by (λ s. most_of_slot m t s (m.known.slot t s)) (numbers_below (length (slots_of task.goal)))

-- they had no more
abbrev pub are_slots_few : Moment → ℕ → Task → Account → Bool
are_slots_few m t task it = nat_le (sum_by it.made (own_slots t task)) (most_of_slots m t task)

-- a slot of the task makes its machine, compiles, and deletes the machine: no call asks what there is
abbrev pub makes_or_deletes : Call → Bool
makes_or_deletes (CreateVm make disks) = true
makes_or_deletes (DeleteVm vm) = true
makes_or_deletes call = compiles_package call

abbrev pub is_call_of_slot : ℕ → Owner → Call → Bool
is_call_of_slot t (Compile task s) call = implies (task == t) (makes_or_deletes call)
is_call_of_slot t owner call = true

-- .. of the task, by an open call
abbrev pub is_slot_call : ℕ → OpenCall → Bool
is_slot_call t call = is_call_of_slot t call.begin.owner call.begin.call

-- .. and of those that it sweeps: two in doubt, and else one

-- how many calls are to come for a machine that is swept, while none is open
abbrev pub to_come : Option Slot → ℕ
to_come (Some it) = if is_some it.doubt then 2 else 1
to_come None = 0

-- .. and after an open call: one that is none of a sweep leaves a machine in doubt
abbrev pub to_come_after : Call → ℕ
to_come_after (FindVm agent) = 1
to_come_after (HasVm vm) = 1
to_come_after (DeleteVm vm) = 0
to_come_after call = 2

-- those that began and those to come are two at most, while none is open
abbrev pub is_swept_in_two : Moment → Account → SlotName → Bool
is_swept_in_two m it name =
    implies (is_idle m (owner_of name))
    (nat_le (it.made (owner_of name) + to_come (m.known.slot name.task name.slot)) 2)

-- .. and while one is
abbrev pub is_sweeping_in_two : Account → SlotName → OpenCall → Bool
is_sweeping_in_two it name call =
    implies (is_owners (owner_of name) call)
    (nat_le (it.made (owner_of name) + to_come_after call.begin.call) 2)

-- the machine is of an earlier task, which had the same deployment
abbrev pub is_of_earlier : Known → ℕ → SlotName → Bool
is_of_earlier k t name =
    not (name.task == t) && (nat_le name.task k.tasks && option_eq bytes_eq (k.task name.task).dep (k.task t).dep)

-- the facts on one machine that is swept
pub record SweepFacts (m : Moment) (t : ℕ) (it : Account) (name : SlotName) : Type 0 where
  pub earlier : is_of_earlier m.known t name ≡ true
  pub idle : is_swept_in_two m it name ≡ true
  pub calling : (n : ℕ) → where_any (is_sweeping_in_two it name) (m.calls n) ≡ true

-- ---- all

-- the facts by which the calls of one clean task are counted
pub record CleanFacts (built : KeyWork → List Digest → Digest) (m : Moment) (t : ℕ) (it : Account) : Type 0 where
  -- each of its calls is one that its budget counts
  pub all_counted : are_all_counted t (m.known.task t) it ≡ true
  pub left_over : (name : SlotName) → is_left_over m.known t it name ≡ true
  -- each instance makes few calls
  pub steps : (i : Inst) → is_budgeted (m.known.task t) i ≡ true → StepFacts built m (m.known.task t) it i
  -- so does each slot
  pub slots_few : are_slots_few m t (m.known.task t) it ≡ true
  pub slot_calls : (n : ℕ) → where_any (is_slot_call t) (m.calls n) ≡ true
  -- .. and each machine that it sweeps
  pub sweep : (name : SlotName) → is_among same_slot name it.left_over ≡ true → SweepFacts m t it name

-- ---- the tests

-- the tags of those that do not hold of a clean task
abbrev pub clean_broken : (KeyWork → List Digest → Digest) → Moment → ℕ → Task → Account → List (List ℕ)
clean_broken built m t task it =
    unless (codes "rows clean") (list_all (is_row_clean m task) m.known.instances)
    ++ unless (codes "rows clean")
    (list_all (λ n. where_any (is_call_clean m t) (m.calls n)) (numbers_to m.known.last_call))
    ++ unless (codes "rows clean") (not (is_some task.failed))
    ++ unless (codes "steps counted") (are_all_counted t task it)
    ++ unless (codes "steps counted") (list_all (is_left_over m.known t it) m.known.machines)
    ++ unless (codes "steps counted") (list_all (are_steps_well built m task it) (instances_of task.goal ++ task.obsolete))
    ++ unless (codes "slots few") (are_slots_few m t task it)
    ++ unless (codes "slots few")
    (list_all (λ n. where_any (is_slot_call t) (m.calls n)) (numbers_to m.known.last_call))
    ++ unless (codes "slots few") (list_all (is_of_earlier m.known t) it.left_over)
    ++ unless (codes "slots few") (list_all (is_swept_in_two m it) it.left_over)
    ++ unless (codes "slots few")
    (list_all
    (λ name. list_all (λ n. where_any (is_sweeping_in_two it name) (m.calls n)) (numbers_to m.known.last_call))
    it.left_over)

-- nothing is asked of a task that is not clean
abbrev pub where_clean : Bool → List (List ℕ) → List (List ℕ)
where_clean true tags = tags
where_clean false tags = []

-- .. of the task of a number
abbrev pub clean_broken_at : (KeyWork → List Digest → Digest) → Course → ℕ → List (List ℕ)
clean_broken_at built c t =
    where_clean (works c.moment t && (c.account t).is_clean)
    (clean_broken built c.moment t (c.moment.known.task t) (c.account t))
