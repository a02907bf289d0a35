-- The work of a task that opens stands, where what it is to do is there and has no open call.
use Rattle.std.proofs.Common.{◌≡◌, ◌∙◌, ℕ, Bool, true, false, ◌&&◌, ◌||◌, not, ◌==◌, List, [], ◌∷◌, Option}
use Rattle.std.proofs.Common.{Some, None, ap, arith, refl, subst, sym}
use Rattle.std.specs.Prelude.{count_by, is_some, length, if◌then◌else◌}
use Rattle.std.specs.List.{list_all, list_any}
use Rattle.std.proofs.lemmas.Bool.{and_parts, eq-eqb, not-true}
use Rattle.bosh_base.specs.Cloud.{numbers_to}
use Rattle.bosh_base.specs.declared.entry.Begin.{Begin}
use Rattle.bosh_base.specs.declared.entry.Entry.TheVariants as entries
use Rattle.bosh_base.specs.declared.entry.TaskOpen.{TaskOpen}
use Rattle.bosh_base.specs.declared.goal.Goal.{Goal}
use Rattle.bosh_base.specs.declared.key.Key.{Key}
use Rattle.bosh_base.specs.declared.owner.Owner.TheVariants.{Compile, Disk}
use Rattle.bosh_history.specs.Items.{slots_of}
use Rattle.bosh_history.specs.Known.{Known, SlotName, Task}
use Rattle.bosh_history.specs.Slots.{is_compiled, works_for}
use Rattle.bosh_history.specs.Tasks.{task_opened, to_ping}
use Rattle.bosh_history.specs.Words.{holds}
use Rattle.bosh_plan.specs.WorkBy.{asked_in, full, key_line, no_line, nothing, with_keys, work_by}
use Rattle.bosh_records.specs.declared.keys.Keys.{Keys}
use Rattle.bosh_records.specs.declared.records.Records.{Records}
use Rattle.bosh_work.specs.declared.line.Line.{Line}
use Rattle.bosh_work.specs.declared.part.MachineName.{MachineName}
use Rattle.bosh_work.specs.declared.work.Work.{Work}
use Rattle.laws_stands.specs.LineStands.{LineStands}
use Rattle.laws_stands.specs.Stands.{Stands}
use Rattle.laws_stands.specs.Told.{Told, idle_in, is_idle, telling}
use Rattle.laws_stands.specs.WorkStands.{StandsFor, WorkStands, is_task_call, is_worked_for, keys_in}
use Rattle.laws_stands_works.proofs.FullLemmas.{full_stands, keys_stand}
use Rattle.laws_stands_works.proofs.KeptLemmas.{all_true}
use Rattle.laws_stands_works.proofs.PlanLemmas.{groups_stand}
use Rattle.laws_stands_works.specs.Opens.{swept_by}

-- what the work of a task that opens needs of what was told before, and of what is recorded
pub record AllowsWork (told : Told) (records : Records) (o : TaskOpen) : Type 0 where
  -- its instances are asked in the order in which they are told
  pub asked : asked_in o records.instances.by_inst.entries ≡ to_ping told.known o
  -- no open call, and no compile machine, is of its number
  pub no_call : (n : ℕ) (b : Begin) → told.calls n ≡ Some b → (b.task == o.task) ≡ false
  pub no_machine : list_all (λ (name : SlotName). not (name.task == o.task)) told.known.machines ≡ true
  -- what it asks, takes away, deletes and sweeps has no open call
  pub pings_idle : list_all (idle_in told) (to_ping told.known o) ≡ true
  pub obsolete_idle : list_all (idle_in told) o.obsolete ≡ true
  -- .. and is there, where it is a disk
  pub disks_there : list_all (λ d. is_some (told.known.orphan d)) o.disks ≡ true
  pub disks_idle : list_all (λ d. is_idle told (Disk d)) o.disks ≡ true
  -- .. or a compile machine
  pub swept_there :
      list_all (λ (name : MachineName). is_some (told.known.slot name.task name.slot)) (swept_by records o) ≡ true
  pub swept_idle :
      list_all (λ (name : MachineName). is_idle told (Compile name.task name.slot)) (swept_by records o) ≡ true

-- ---- keys and slots are put in, and nothing else

rest_same : {X : Type 0} (read : Work → X) → ((w : Work) (keys : Line Key) (slots : ℕ)
    → read (record w { keys = keys; slots = slots }) ≡ read w) → (keys : Keys) (goal : Option Goal) (w : Work)
    → read (with_keys keys goal w) ≡ read w
rest_same read same keys (Some goal) w = same w (key_line keys goal.keys) (length goal.slots)
rest_same read same keys None w = refl

no_keys : (left idle : Key → Bool) → LineStands [] left idle no_line
no_keys left idle = record { items_are = refl; left_are = refl; free_are = refl }

-- ---- none of its calls and machines was told of

none_counted : {A : Type 0} (p : A → Bool) (xs : List A) → ((x : A) → p x ≡ false) → count_by p xs ≡ 0
none_counted p [] none = refl
none_counted p (x ∷ xs) none = grind (arith, none x, none_counted p xs none)

module _ (told : Told) (records : Records) (o : TaskOpen) (allows : AllowsWork told records o)
    (stands : Stands told records) where
  abbrev k : Known
  k = told.known

  abbrev new : Told
  new = telling told (entries.TaskOpen o)

  abbrev t : Task
  t = task_opened k o

  no_call : (c : ℕ) → is_task_call new o.task c ≡ false
  no_call c = by (told.calls c) refl
    where
      by : (call : Option Begin) → told.calls c ≡ call → holds (λ (b : Begin). b.task == o.task) call ≡ false
      by (Some b) is = allows.no_call c b is
      by None is = refl

  none_works : (key : Key) (names : List SlotName)
      → list_all (λ (name : SlotName). not (name.task == o.task)) names ≡ true
      → list_any (λ (name : SlotName). name.task == o.task && works_for key (k.slot o.task name.slot)) names ≡ false
  none_works key [] none = refl
  none_works key (name ∷ names) none =
      let (first, rest) = and_parts (not (name.task == o.task))
      (list_all (λ (name : SlotName). not (name.task == o.task)) names) none in
      (λ i. (not-true (name.task == o.task) first i && works_for key (k.slot o.task name.slot))
      || list_any (λ (name : SlotName). name.task == o.task && works_for key (k.slot o.task name.slot)) names)
      ∙ none_works key names rest

  none_there : (names : List SlotName) → list_all (λ (name : SlotName). not (name.task == o.task)) names ≡ true
      → count_by (λ (name : SlotName). name.task == o.task) names ≡ 0
  none_there [] none = refl
  none_there (name ∷ names) none =
      let (first, rest) = and_parts (not (name.task == o.task))
      (list_all (λ (name : SlotName). not (name.task == o.task)) names) none in
      grind (arith, not-true (name.task == o.task) first, none_there names rest)

  slots_are : (goal : Option Goal) (w : Work) → w.slots ≡ 0
      → (with_keys records.keys goal w).slots ≡ length (slots_of goal)
  slots_are (Some goal) w none = refl
  slots_are None w none = none

  keys_are : (goal : Option Goal) (w : Work) → w.keys ≡ no_line
      → LineStands (keys_in goal) (λ key. not (is_compiled new.known key))
      (λ key. not (is_worked_for new.known o.task key)) (with_keys records.keys goal w).keys
  keys_are (Some goal) w none =
      keys_stand records.keys goal.keys (λ key. not (is_compiled new.known key))
      (λ key. not (is_worked_for new.known o.task key))
      (λ key. ap (λ digest. not (is_some digest)) (stands.digests key))
      (λ key. ap not (none_works key k.machines allows.no_machine))
  keys_are None w none =
      subst (LineStands [] (λ key. not (is_compiled new.known key)) (λ key. not (is_worked_for new.known o.task key)))
      (sym none)
      (no_keys (λ key. not (is_compiled new.known key)) (λ key. not (is_worked_for new.known o.task key)))

  -- what is left before keys are put in
  abbrev before : Work
  before = record (nothing o.task) {
    pings = full (asked_in o records.instances.by_inst.entries);
    sweep = full (swept_by records o);
  }

  rest : {X : Type 0} (read : Work → X) → ((w : Work) (keys : Line Key) (slots : ℕ)
      → read (record w { keys = keys; slots = slots }) ≡ read w)
      → read (with_keys records.keys o.goal before) ≡ read before
  rest read same = rest_same read same records.keys o.goal before

  opened_stands : StandsFor new t o.task (swept_by records o) (work_by records o)
  opened_stands = record {
    task_is = rest (λ w. w.task) (λ w keys slots. refl);
    pings = subst (LineStands t.to_ping (λ i. not (t.pinged i)) (idle_in new))
        (sym (rest (λ w. w.pings) (λ w keys slots. refl) ∙ ap full allows.asked))
        (full_stands (to_ping k o) (λ i. true) (idle_in told) (all_true (λ i. true) (λ i. refl) (to_ping k o))
        allows.pings_idle);
    obsolete = full_stands o.obsolete (λ i. true) (idle_in told) (all_true (λ i. true) (λ i. refl) o.obsolete)
        allows.obsolete_idle;
    disks = full_stands o.disks (λ d. is_some (k.orphan d)) (λ d. is_idle told (Disk d)) allows.disks_there
        allows.disks_idle;
    sweep = subst (LineStands (swept_by records o) (λ name. is_some (k.slot name.task name.slot))
        (λ name. is_idle told (Compile name.task name.slot))) (sym (rest (λ w. w.sweep) (λ w keys slots. refl)))
        (full_stands (swept_by records o) (λ name. is_some (k.slot name.task name.slot))
        (λ name. is_idle told (Compile name.task name.slot)) allows.swept_there allows.swept_idle);
    keys = keys_are o.goal before refl;
    slots_are = slots_are o.goal before refl;
    machines_are = rest (λ w. w.machines) (λ w keys slots. refl) ∙ sym (none_there k.machines allows.no_machine);
    changed_are = refl;
    groups_stand = groups_stand k o (idle_in new);
    failed_is = rest (λ w. w.failed) (λ w keys slots. refl);
    open_are = rest (λ w. w.«open») (λ w keys slots. refl)
        ∙ sym (none_counted (is_task_call new o.task) (numbers_to k.last_call) no_call);
  }

  pub work_stands : WorkStands new o.task (swept_by records o) (work_by records o)
  work_stands = subst (λ t. StandsFor new t o.task (swept_by records o) (work_by records o))
      (λ j. if sym (eq-eqb o.task o.task refl) j then t else k.task o.task) opened_stands
