-- What is recorded once a task opens stands for what is told then.
use Rattle.std.proofs.Common.{◌≡◌, ◌∙◌, ◌+◌, ◌≤◌, ℕ, Bool, true, false, ◌&&◌, not, map, Option, Some, None, ap, refl}
use Rattle.std.proofs.Common.{arith, subst, sym}
use Rattle.std.specs.Prelude.{eqb, is_some, nat_le, if◌then◌else◌}
use Rattle.std.specs.Option.{option_and_then}
use Rattle.std.proofs.lemmas.Bool.{and_parts, eqb-true, leb-true}
use Rattle.bosh_base.specs.declared.entry.TaskOpen.{TaskOpen}
use Rattle.bosh_base.specs.declared.inst.Inst.{Inst}
use Rattle.bosh_compile.specs.Readiness.{same_key}
use Rattle.bosh_history.specs.Calls.{number_of}
use Rattle.bosh_history.specs.Goals.{is_waiting}
use Rattle.bosh_history.specs.Held.{is_open}
use Rattle.bosh_history.specs.Items.{is_finished}
use Rattle.bosh_history.specs.Known.{Known, Task}
use Rattle.bosh_history.specs.Slots.{keys_of}
use Rattle.bosh_history.specs.Tasks.{task_opened}
use Rattle.bosh_progress.specs.Tree.{first_marked}
use Rattle.bosh_records.specs.Places.{part_of}
use Rattle.bosh_records.specs.Recorded.{Recorded}
use Rattle.bosh_records.specs.declared.machines.Machine.{Machine}
use Rattle.bosh_records.specs.declared.orphans.LooseDisk.{LooseDisk}
use Rattle.bosh_roll.specs.Upd.{is_busy}
use Rattle.bosh_rows.specs.Same.{same_inst}
use Rattle.bosh_rows.specs.SoundSnapshot.{are_distinct}
use Rattle.bosh_work.specs.declared.part.MachineName.{MachineName}
use Rattle.bosh_work.specs.declared.part.Part.{Part}
use Rattle.bosh_work.specs.declared.work.Work.{Work}
use Rattle.laws_stands.specs.GroupsStand.{change_place}
use Rattle.laws_stands.specs.Linked.{IsLinked, same_machine}
use Rattle.laws_stands.specs.LineStands.{place_of}
use Rattle.laws_stands.specs.Reading.{dep_of, machine_of, orphan_of, work_of}
use Rattle.laws_stands.specs.Stands.{IsWork, StandsInOrder, key_of_slot, key_place}
use Rattle.laws_stands.specs.Told.{TellsWell, Told, is_going}
use Rattle.laws_stands_opened.proofs.InstLemmas.{mapped}
use Rattle.laws_stands_opened.proofs.OpeningLemmas.{Opens, change_now, instance_kept, leaving_now, new, no_work, now}
use Rattle.laws_stands_opened.proofs.OpeningLemmas.{part_other, ping_now, work_stands}
use Rattle.laws_stands_opened.proofs.TableLemmas.{deleting, deleting_at, deleting_dep, dep_now, going_other}
use Rattle.laws_stands_opened.proofs.TableLemmas.{leftover_dep, machine_kept, machine_now, orphan_kept, orphan_now, sweep}
use Rattle.laws_stands_opened.proofs.TableLemmas.{swept_at, task_same, tasks_now, work_now}

module _ (told : Told) (it : Recorded) (o : TaskOpen) (work : Work) (opens : Opens told it o work) where
  -- what was known
  abbrev k : Known
  k = told.known

  -- what is told once the task opens
  abbrev told_now : Told
  told_now = new told it o work opens

  -- what is recorded once the task opens
  abbrev it_now : Recorded
  it_now = now told it o work opens

  -- ---- what the task lists is of its deployment, and other tasks are of others

  -- the deployment of another task that works
  pub other_dep : (t : ℕ) (w : Work) → work_of it t ≡ Some w → dep_of it t ≡ o.dep → ⊥
  other_dep t w is dep = no_work told it o work opens t w is dep

  -- the work of a task, this one or another
  module _ {Y : Type 0} (read : Part → Y) (place : Work → Inst → Y)
      (own : (i : Inst) → o.dep ≡ Some i.dep → read (part_of it_now i) ≡ place work i)
      (were : (t : ℕ) (w : Work) (i : Inst) → work_of it t ≡ Some w → dep_of it t ≡ Some i.dep
      → read (part_of it i) ≡ place w i) where
    linked_part : (t : ℕ) (w : Work) (i : Inst) → work_of it_now t ≡ Some w → dep_of it_now t ≡ Some i.dep
        → read (part_of it_now i) ≡ place w i
    linked_part t w i is dep =
        by (eqb o.task t) (sym (work_now told it o work opens t) ∙ is) (sym (dep_now told it o work opens t) ∙ dep)
      where
        by : (b : Bool) → (if b then Some work else work_of it t) ≡ Some w → (if b then o.dep else dep_of it t) ≡ Some i.dep
            → read (part_of it_now i) ≡ place w i
        by true is dep = let same : work ≡ w = cc in own i dep ∙ ap (λ w. place w i) same
        by false is dep =
            ap read (part_other told it o work opens i (λ own. other_dep t w is (dep ∙ sym own)))
            ∙ were t w i is dep

  sweeps : (t : ℕ) (w : Work) (name : MachineName) (machine : Machine) → work_of it_now t ≡ Some w
      → machine_of it_now name ≡ Some machine → dep_of it_now t ≡ Some machine.row.dep
      → machine.sweep ≡ place_of same_machine name w.sweep.items
  sweeps t w name machine is there dep =
      by (eqb o.task t) (sym (work_now told it o work opens t) ∙ is) (sym (dep_now told it o work opens t) ∙ dep)
      (sweep told it o work opens name) refl (machine_of it name) refl
      (sym (machine_now told it o work opens name) ∙ there)
    where
      by : (b : Bool) → (if b then Some work else work_of it t) ≡ Some w
          → (if b then o.dep else dep_of it t) ≡ Some machine.row.dep → (place : Option ℕ)
          → sweep told it o work opens name ≡ place → (was : Option Machine) → machine_of it name ≡ was
          → swept_at place was ≡ Some machine → machine.sweep ≡ place_of same_machine name w.sweep.items
      by true is dep (Some p) placed (Some was) before there =
          let same : work ≡ w = cc in
          let one : record was { sweep = Some p } ≡ machine = cc in
          ap (λ (machine : Machine). machine.sweep) (sym one) ∙ sym placed
          ∙ ap (place_of same_machine name) (sym opens.swept_are)
          ∙ ap (λ (w : Work). place_of same_machine name w.sweep.items) same
      by true is dep None placed (Some was) before there =
          let same : work ≡ w = cc in
          let one : was ≡ machine = cc in
          ap (λ (machine : Machine). machine.sweep) (sym one)
          ∙ (opens.fits).sweeps name was before
          (λ t w is dep_is. other_dep t w is (dep_is ∙ ap (λ (machine : Machine). Some machine.row.dep) one ∙ sym dep))
          ∙ sym placed
          ∙ ap (place_of same_machine name) (sym opens.swept_are)
          ∙ ap (λ (w : Work). place_of same_machine name w.sweep.items) same
      by false is dep (Some p) placed (Some was) before there =
          let one : record was { sweep = Some p } ≡ machine = cc in
          absurd (other_dep t w is (dep ∙ ap (λ (machine : Machine). Some machine.row.dep) (sym one)
          ∙ sym (leftover_dep told it o work opens name was (ap is_some placed) before)))
      by false is dep None placed (Some was) before there =
          (opens.stands).linked.sweeps t w name machine is (before ∙ there) dep
      by b is dep (Some p) placed None before there = absurd cc
      by b is dep None placed None before there = absurd cc

  deletions : (t : ℕ) (w : Work) (d : ℕ) (loose : LooseDisk) → work_of it_now t ≡ Some w
      → orphan_of it_now d ≡ Some loose → dep_of it_now t ≡ None → loose.deleting ≡ place_of eqb d w.disks.items
  deletions t w d loose is there dep =
      by (eqb o.task t) (sym (work_now told it o work opens t) ∙ is) (sym (dep_now told it o work opens t) ∙ dep)
      (deleting told it o work opens d) refl (orphan_of it d) refl
      (sym (orphan_now told it o work opens d) ∙ there)
    where
      by : (b : Bool) → (if b then Some work else work_of it t) ≡ Some w
          → (if b then o.dep else dep_of it t) ≡ None → (place : Option ℕ)
          → deleting told it o work opens d ≡ place → (was : Option LooseDisk) → orphan_of it d ≡ was
          → deleting_at place was ≡ Some loose → loose.deleting ≡ place_of eqb d w.disks.items
      by true is dep (Some p) placed (Some was) before there =
          let same : work ≡ w = cc in
          let one : record was { deleting = Some p } ≡ loose = cc in
          ap (λ (loose : LooseDisk). loose.deleting) (sym one) ∙ sym placed
          ∙ ap (place_of eqb d) (sym ((work_stands told it o work opens).disks).items_are)
          ∙ ap (λ (w : Work). place_of eqb d w.disks.items) same
      by true is dep None placed (Some was) before there =
          let same : work ≡ w = cc in
          let one : was ≡ loose = cc in
          ap (λ (loose : LooseDisk). loose.deleting) (sym one)
          ∙ (opens.fits).deletions d was before (λ t w is dep_is. other_dep t w is (dep_is ∙ sym dep))
          ∙ sym placed
          ∙ ap (place_of eqb d) (sym ((work_stands told it o work opens).disks).items_are)
          ∙ ap (λ (w : Work). place_of eqb d w.disks.items) same
      by false is dep (Some p) placed (Some was) before there =
          absurd (other_dep t w is (dep ∙ sym (deleting_dep told it o work opens d (ap is_some placed))))
      by false is dep None placed (Some was) before there =
          (opens.stands).linked.deletions t w d loose is (before ∙ there) dep
      by b is dep (Some p) placed None before there = absurd cc
      by b is dep None placed None before there = absurd cc

  linked : IsLinked it_now
  linked = record {
    wants = λ i. instance_kept told it o work opens (λ known. known.want) (λ place known. refl) (λ place known. refl)
        (λ place known. refl) i
        ∙ (opens.set).wants i;
    pings = linked_part (λ part. part.ping) (λ w i. place_of same_inst i w.pings.items)
        (λ i dep. ping_now told it o work opens i dep
        ∙ ap (place_of same_inst i) (sym ((work_stands told it o work opens).pings).items_are))
        (opens.stands).linked.pings;
    leaving = linked_part (λ part. part.leaving) (λ w i. place_of same_inst i w.obsolete.items)
        (λ i dep. leaving_now told it o work opens i dep
        ∙ ap (place_of same_inst i) (sym ((work_stands told it o work opens).obsolete).items_are))
        (opens.stands).linked.leaving;
    changes = linked_part (λ part. part.change) (λ w i. change_place w.changed i)
        (λ i dep. change_now told it o work opens i dep
        ∙ ap (λ changed. change_place changed i) (sym (work_stands told it o work opens).changed_are))
        (opens.stands).linked.changes;
    sweeps = sweeps;
    deletions = deletions;
  }

  -- ---- what is told

  -- no task that is open has its number yet
  pub past_it : (t : ℕ) → is_going k t ≡ true → o.task ≡ t → ⊥
  past_it t open_ same =
      let (low, rest) = and_parts (nat_le 1 t) (nat_le t k.tasks && is_open k t) open_ in
      let (high, still) = and_parts (nat_le t k.tasks) (is_open k t) rest in
      let past : t ≤ k.tasks = leb-true t k.tasks high in
      let next : o.task ≡ k.tasks + 1 = (opens.allows).number in
      absurd (omega arith)

  -- what is told of each task, where this one is told nothing else
  told_of : (P : Task → Type 0) → P (task_opened k o) → ((t : ℕ) → P (k.task t)) → (t : ℕ) → P (told_now.known.task t)
  told_of P own others t = by (eqb o.task t)
    where
      by : (b : Bool) → P (if b then task_opened k o else k.task t)
      by true = own
      by false = others t

  tells_well : TellsWell told_now
  tells_well = record {
    number = (opens.stands).tells_well.number;
    low = (opens.stands).tells_well.low;
    past = (opens.stands).tells_well.past;
    begun = (opens.stands).tells_well.begun;
    begun_past = (opens.stands).tells_well.begun_past;
    failed = λ t failure. told_of (λ it. it.failed ≡ Some failure → is_some (k.begun (number_of failure)) ≡ true)
        (λ is. absurd cc) (λ t. (opens.stands).tells_well.failed t failure) t;
    going = λ n b is. going b.task ((opens.stands).tells_well.going n b is);
    one_owner = (opens.stands).tells_well.one_owner;
    one_key = (opens.stands).tells_well.one_key;
    recorded = (opens.stands).tells_well.recorded;
    counted = λ t c. told_of (λ it. it.calls ≡ Some c → c ≤ k.last_call) (λ is. let none : 0 ≡ c = cc in omega arith)
        (λ t. (opens.stands).tells_well.counted t c) t;
    disks_apart = told_of (λ it. are_distinct eqb it.disks ≡ true) (opens.allows).disks_apart
        (opens.stands).tells_well.disks_apart;
    updates = λ t i. told_of
        (λ it. is_finished (it.upd i) ≡ (not (is_waiting (it.upd i)) && not (is_busy (it.upd i)))) refl
        (λ t. (opens.stands).tells_well.updates t i) t;
  }
    where
      going : (t : ℕ) → is_going k t ≡ true → is_going told_now.known t ≡ true
      going t open_ = by (eqb o.task t) refl
        where
          by : (b : Bool) → eqb o.task t ≡ b → is_going told_now.known t ≡ true
          by true own =
              absurd (past_it t open_ (eqb-true o.task t own))
          by false other = going_other told it o work opens t other ∙ open_

  -- ---- all

  machine_keys_now : (name : MachineName)
      → key_place k name.task (key_of_slot (k.slot name.task name.slot))
      ≡ key_place told_now.known name.task (key_of_slot (k.slot name.task name.slot))
  machine_keys_now name = by (eqb o.task name.task) refl
    where
      by : (b : Bool) → eqb o.task name.task ≡ b
          → key_place k name.task (key_of_slot (k.slot name.task name.slot))
          ≡ key_place told_now.known name.task (key_of_slot (k.slot name.task name.slot))
      by true own =
          ap (λ slot. key_place k name.task (key_of_slot slot)) none
          ∙ ap (λ slot. key_place told_now.known name.task (key_of_slot slot)) (sym none)
        where
          none : k.slot name.task name.slot ≡ None
          none = ap (λ t. k.slot t name.slot) (sym (eqb-true o.task name.task own)) ∙ (opens.allows).no_slot name.slot
      by false other =
          sym (task_same told it o work opens
          (λ t. option_and_then (λ key. first_marked (map (λ work. same_key work.key key) (keys_of t.goal)))
          (key_of_slot (k.slot name.task name.slot))) name.task other)

  works : ((t : ℕ) (w : Option Work) → eqb o.task t ≡ false → IsWork told t w → IsWork told_now t w) → (t : ℕ)
      → IsWork told_now t (work_of it_now t)
  works others t = subst (IsWork told_now t) (sym (work_now told it o work opens t)) (by (eqb o.task t) refl)
    where
      by : (b : Bool) → eqb o.task t ≡ b → IsWork told_now t (if b then Some work else work_of it t)
      by true own = subst (λ t. IsWork told_now t (Some work)) (eqb-true o.task t own) opens.is_work
      by false other = others t (work_of it t) other ((opens.stands).works t)

  pub opened_stands : ((t : ℕ) (w : Option Work) → eqb o.task t ≡ false → IsWork told t w → IsWork told_now t w)
      → StandsInOrder told_now it_now
  opened_stands others = λ ordered. record {
    uploads = λ j. record ((opens.stands).uploads j) { opened = o.task };
    deployments = (opens.set).deployments;
    rows = λ i. instance_kept told it o work opens (λ known. known.row) (λ place known. refl) (λ place known. refl)
        (λ place known. refl) i ∙ ((opens.set).same).rows i ∙ (opens.stands).rows i;
    row_calls = λ i. instance_kept told it o work opens (λ known. known.call) (λ place known. refl) (λ place known. refl)
        (λ place known. refl) i ∙ ((opens.set).same).calls i ∙ (opens.stands).row_calls i;
    machines = λ name. mapped (λ (machine : Machine). machine.row) (machine_of it_now name)
        ∙ machine_kept told it o work opens (λ machine. Some machine.row) (λ p machine. refl) name
        ∙ sym (mapped (λ (machine : Machine). machine.row) (machine_of it name)) ∙ (opens.stands).machines name;
    machine_keys = λ name later. machine_kept told it o work opens (λ machine. machine.key) (λ p machine. refl) name
        ∙ (opens.stands).machine_keys name later ∙ machine_keys_now name;
    machine_calls = λ name. machine_kept told it o work opens (λ machine. machine.call) (λ p machine. refl) name
        ∙ (opens.stands).machine_calls name;
    orphans = λ d. mapped (λ (loose : LooseDisk). loose.orphan) (orphan_of it_now d)
        ∙ orphan_kept told it o work opens (λ loose. Some loose.orphan) (λ p loose. refl) d
        ∙ sym (mapped (λ (loose : LooseDisk). loose.orphan) (orphan_of it d)) ∙ (opens.stands).orphans d;
    orphan_calls = λ d. orphan_kept told it o work opens (λ loose. loose.call) (λ p loose. refl) d
        ∙ (opens.stands).orphan_calls d;
    digests = (opens.stands).digests;
    compiling = (opens.stands).compiling;
    tasks = tasks_now told it o work opens;
    calls = (opens.stands).calls;
    works = works others;
    linked = linked;
    ordered = ordered;
    tells_well = tells_well;
  }
