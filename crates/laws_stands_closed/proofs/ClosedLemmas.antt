-- A task ends of which no call is open: nothing is left of it, and no instance, machine or disk stands in it any more.
use Rattle.std.proofs.Common.{◌≡◌, ◌∙◌, ℕ, Bool, true, false, ◌&&◌, not, List, ◌==◌, filter, map}
use Rattle.std.proofs.Common.{Option, Some, None, ap, refl, subst, sym}
use Rattle.std.specs.Prelude.{eqb, find, is_some, nat_le, if◌then◌else◌}
use Rattle.std.specs.BTreeMap.{is_at}
use Rattle.std.specs.Option.{option_and_then, option_eq, option_map, option_map_or}
use Rattle.std.specs.Ordering.{nat_cmp}
use Rattle.std.specs.Str.{bytes_eq}
use Rattle.std.proofs.lemmas.Bool.{and_parts, eqb-true}
use Rattle.bosh_base.specs.Inst.{inst_cmp}
use Rattle.bosh_base.specs.declared.goal.Goal.{Goal}
use Rattle.bosh_base.specs.declared.inst.Inst.{Inst}
use Rattle.bosh_base.specs.declared.snapshot.CompileRow.{CompileRow}
use Rattle.bosh_base.specs.declared.snapshot.DepRow.{DepRow}
use Rattle.bosh_base.specs.declared.task.TaskEnd.{TaskEnd}
use Rattle.bosh_base.specs.declared.task.TaskRow.{TaskRow}
use Rattle.bosh_compile.specs.Readiness.{same_key}
use Rattle.bosh_fold.specs.Tasks.{cleared, closed_task}
use Rattle.bosh_history.specs.Goals.{is_waiting}
use Rattle.bosh_history.specs.Items.{is_finished, is_in_deployment}
use Rattle.bosh_history.specs.Known.{Known, Slot, SlotName, Task}
use Rattle.bosh_history.specs.Slots.{keys_of}
use Rattle.bosh_history.specs.Words.{holds, is_among}
use Rattle.bosh_progress.specs.Tree.{first_marked}
use Rattle.bosh_records.specs.Changes.{with_deleting, with_end, with_sweep}
use Rattle.bosh_records.specs.Keys.{key_cmp}
use Rattle.bosh_records.specs.Instances.{with_change, with_leaving, with_ping}
use Rattle.bosh_records.specs.Places.{part_of}
use Rattle.bosh_records.specs.Readers.{machine_cmp}
use Rattle.bosh_records.specs.Recorded.{Recorded}
use Rattle.bosh_records.specs.Table.{found, thing_in, things}
use Rattle.bosh_records.specs.declared.instances.Instance.{Instance}
use Rattle.bosh_records.specs.declared.keys.KeyState.{KeyState}
use Rattle.bosh_records.specs.declared.machines.Machine.{Machine}
use Rattle.bosh_records.specs.declared.orphans.LooseDisk.{LooseDisk}
use Rattle.bosh_roll.specs.Upd.{is_busy}
use Rattle.bosh_rows.specs.Same.{same_inst}
use Rattle.bosh_rows.specs.SoundSnapshot.{are_distinct}
use Rattle.bosh_work.specs.Part.{no_part}
use Rattle.bosh_work.specs.declared.part.MachineName.{MachineName}
use Rattle.bosh_work.specs.declared.part.Part.{Part}
use Rattle.bosh_work.specs.declared.work.Work.{Work}
use Rattle.laws_stands.specs.Linked.{IsLinked, same_machine, want_place}
use Rattle.laws_stands.specs.LineStands.{place_of}
use Rattle.laws_stands.specs.Reading.{dep_of, instance_of, machine_of, orphan_of, task_of, work_of}
use Rattle.laws_stands.specs.Stands.{AreSwept, IsWork, StandsIn, StandsInOrder, key_of_slot, row_of_slot}
use Rattle.laws_stands.specs.Told.{Told, is_going}
use Rattle.laws_stands.specs.WorkStands.{StandsFor}
use Rattle.laws_stands_closed.proofs.ClearedLemmas.{deployment_of, each_kept, each_other, left_over, machine_at}
use Rattle.laws_stands_closed.specs.Closed.{AllowsClose, told_ended}
use Rattle.laws_stands_on.proofs.CallLemmas.{inst_flip}
use Rattle.laws_stands_on.proofs.ChangedLemmas.{eqb_flip}
use Rattle.laws_stands_on.proofs.KeyLemmas.{inst_at, inst_keys, machine_keys}
use Rattle.laws_stands_on.proofs.ListedLemmas.{listed_goes_on, untouched}
use Rattle.laws_stands_on.proofs.NextCallLemmas.{row_by}
use Rattle.laws_stands.proofs.OrderLemmas.{once_of}
use Rattle.laws_stands_on.proofs.TaskLemmas.{dep_recorded}
use Rattle.laws_stands_on.proofs.TableLemmas.{found_without, nat_at, nat_keys, thing_changed}

module _ (t : ℕ) (end : TaskEnd) (told : Told) (it : Recorded) (allows : AllowsClose told t) (stands : StandsIn told it)
  where
    abbrev k : Known
    k = told.known

    abbrev new : Told
    new = told_ended t end told

    abbrev ended : Task
    ended = record (k.task t) { end = Some end }

    -- ---- tasks

    task_same : {X : Type 0} (f : Task → X) → f ended ≡ f (k.task t) → (x : ℕ) → f (new.known.task x) ≡ f (k.task x)
    task_same f same x = by (eqb t x) refl
      where
        by : (b : Bool) → eqb t x ≡ b → f (if b then ended else k.task x) ≡ f (k.task x)
        by true is = same ∙ ap (λ n. f (k.task n)) (eqb-true t x is)
        by false is = refl

    -- another task is open as before
    going_other : (x : ℕ) → eqb t x ≡ false → is_going new.known x ≡ is_going k x
    going_other x other = λ j. nat_le 1 x && (nat_le x k.tasks && not (is_some (if other j then ended else k.task x).end))

    -- .. and this one is not
    none_going : (x : ℕ) → eqb t x ≡ true → is_going new.known x ≡ false
    none_going x own =
        (λ j. nat_le 1 x && (nat_le x k.tasks && not (is_some (if own j then ended else k.task x).end)))
        ∙ by (nat_le 1 x) (nat_le x k.tasks)
      where
        by : (a b : Bool) → (a && (b && false)) ≡ false
        by true true = refl
        by true false = refl
        by false b = refl

    -- ---- what is cleared

    abbrev closed : Recorded
    closed = closed_task t end it

    -- of each instance the same is said but of its places
    instance_kept : {Y : Type 0} (read : Instance → Option Y)
        → ((known : Instance) → read (with_ping None known) ≡ read known)
        → ((known : Instance) → read (with_leaving None known) ≡ read known)
        → ((known : Instance) → read (with_change None known) ≡ read known) → (o : Option Work) (i : Inst)
        → option_and_then read (found inst_cmp (cleared o it).instances i) ≡ option_and_then read (instance_of it i)
    instance_kept read ping leaving change None i = refl
    instance_kept read ping leaving change (Some work) i =
        each_kept inst_cmp inst_keys (with_change None) read change work.changed _ i
        ∙ each_kept inst_cmp inst_keys (with_leaving None) read leaving work.obsolete.items _ i
        ∙ each_kept inst_cmp inst_keys (with_ping None) read ping work.pings.items it.instances i

    machine_kept : {Y : Type 0} (read : Machine → Option Y)
        → ((machine : Machine) → read (with_sweep None machine) ≡ read machine) → (o : Option Work) (name : MachineName)
        → option_and_then read (thing_in machine_cmp (cleared o it).machines name)
        ≡ option_and_then read (machine_of it name)
    machine_kept read sweep None name = refl
    machine_kept read sweep (Some work) name =
        both (found machine_cmp (cleared (Some work) it).machines name)
        ∙ each_kept machine_cmp machine_keys (option_map (with_sweep None)) (option_and_then read) same work.sweep.items
        it.machines name
        ∙ sym (both (found machine_cmp it.machines name))
      where
        both : (o : Option (Option Machine)) → option_and_then read (option_and_then (λ place. place) o)
            ≡ option_and_then (option_and_then read) o
        both (Some place) = refl
        both None = refl

        same : (place : Option Machine) → option_and_then read (option_map (with_sweep None) place)
            ≡ option_and_then read place
        same (Some machine) = sweep machine
        same None = refl

    orphan_kept : {Y : Type 0} (read : LooseDisk → Option Y)
        → ((loose : LooseDisk) → read (with_deleting None loose) ≡ read loose) → (o : Option Work) (d : ℕ)
        → option_and_then read (thing_in nat_cmp (cleared o it).orphans d) ≡ option_and_then read (orphan_of it d)
    orphan_kept read deleting None d = refl
    orphan_kept read deleting (Some work) d =
        both (found nat_cmp (cleared (Some work) it).orphans d)
        ∙ each_kept nat_cmp nat_keys (option_map (with_deleting None)) (option_and_then read) same work.disks.items
        it.orphans d
        ∙ sym (both (found nat_cmp it.orphans d))
      where
        both : (o : Option (Option LooseDisk)) → option_and_then read (option_and_then (λ place. place) o)
            ≡ option_and_then (option_and_then read) o
        both (Some place) = refl
        both None = refl

        same : (place : Option LooseDisk) → option_and_then read (option_map (with_deleting None) place)
            ≡ option_and_then read place
        same (Some loose) = deleting loose
        same None = refl

    -- .. as a map of options
    mapped : {X Y : Type 0} (f : X → Y) (o : Option X) → option_map f o ≡ option_and_then (λ x. Some (f x)) o
    mapped f (Some x) = refl
    mapped f None = refl

    -- ---- works

    work_is : (x : ℕ) → work_of closed x ≡ (if eqb t x then None else work_of it x)
    work_is x =
        ap (option_and_then (λ place. place)) (found_without nat_cmp nat_keys t it.works (once_of stands.ordered).works x)
        ∙ (λ j. option_and_then (λ place. place) (if nat_at t x j then None else found nat_cmp it.works x))
        ∙ by (eqb t x)
      where
        by : (b : Bool) → option_and_then (λ (place : Option Work). place) (if b then None else found nat_cmp it.works x)
            ≡ (if b then None else work_of it x)
        by true = refl
        by false = refl

    works : (x : ℕ) → IsWork new x (work_of closed x)
    works x = subst (IsWork new x) (sym (work_is x)) (by (eqb t x) refl)
      where
        swept_same : (swept : List MachineName) → AreSwept k x swept → AreSwept new.known x swept
        swept_same swept are = are
            ∙ sym (task_same (λ it. filter (λ (name : SlotName). not (name.task == x) && is_in_deployment k it.dep name)
            k.machines) refl x)

        other : eqb t x ≡ false → (o : Option Work) → IsWork told x o → IsWork new x o
        other differs (Some work) (going, later, (swept, work_stands, are_swept)) = (
          going_other x differs ∙ going,
          later,
          (
            swept,
            subst (λ (it : Task). StandsFor new it x swept work) (sym (λ j. if differs j then ended else k.task x))
                (listed_goes_on told new (k.task x) x swept work
                (untouched told new.known refl refl refl refl refl refl (k.task x) x swept) work_stands),
            swept_same swept are_swept,
          ),
        )
        other differs None gone = λ later. going_other x differs ∙ gone later

        by : (b : Bool) → eqb t x ≡ b → IsWork new x (if b then None else work_of it x)
        by true own = λ later. none_going x own
        by false differs = other differs (work_of it x) (stands.works x)

    -- the work of another open task was there before
    pub record WasOther (x : ℕ) (w : Work) : Type 0 where
      pub other : eqb t x ≡ false
      pub is : work_of it x ≡ Some w
      pub going : is_going k x ≡ true

    was_other : (x : ℕ) (w : Work) → work_of closed x ≡ Some w → WasOther x w
    was_other x w is = by (eqb t x) refl (sym (work_is x) ∙ is)
      where
        open_ : (o : Option Work) → o ≡ Some w → IsWork told x o → is_going k x ≡ true
        open_ (Some work) is (going, later, rest) = going
        open_ None is gone = absurd cc

        by : (b : Bool) → eqb t x ≡ b → (if b then None else work_of it x) ≡ Some w → WasOther x w
        by true own is = absurd cc
        by false other is = record { other = other; is = is; going = open_ (work_of it x) is (stands.works x) }

    -- ---- tasks that are recorded

    task_is : (x : ℕ) → task_of closed x ≡ (if eqb t x then option_map (with_end end) (task_of it x) else task_of it x)
    task_is x = thing_changed nat_cmp nat_keys t (with_end end) it.tasks x
        ∙ (λ j. if nat_at t x j then option_map (with_end end) (task_of it x) else task_of it x)

    tasks : (x : ℕ) → task_of closed x
        ≡ (if nat_le 1 x && nat_le x k.tasks then Some (row_by x (new.known.task x)) else None)
    tasks x = task_is x ∙ by (eqb t x) refl
      where
        put : (u : Bool) (row : TaskRow) → option_map (with_end end) (if u then Some row else None)
            ≡ (if u then Some (with_end end row) else None)
        put true row = refl
        put false row = refl

        by : (b : Bool) → eqb t x ≡ b
            → (if b then option_map (with_end end) (task_of it x) else task_of it x)
            ≡ (if nat_le 1 x && nat_le x k.tasks then Some (row_by x (if b then ended else k.task x)) else None)
        by true own = ap (option_map (with_end end)) (stands.tasks x)
            ∙ put (nat_le 1 x && nat_le x k.tasks) (row_by x (k.task x))
            ∙ (λ j. if nat_le 1 x && nat_le x k.tasks
            then Some (with_end end (row_by x (k.task (sym (eqb-true t x own) j)))) else None)
        by false other = stands.tasks x

    dep_same : (x : ℕ) → dep_of closed x ≡ dep_of it x
    dep_same x = ap (option_and_then (λ (row : TaskRow). row.dep)) (task_is x) ∙ by (eqb t x) (task_of it x)
      where
        by : (b : Bool) (o : Option TaskRow)
            → option_and_then (λ (row : TaskRow). row.dep) (if b then option_map (with_end end) o else o)
            ≡ option_and_then (λ (row : TaskRow). row.dep) o
        by true (Some row) = refl
        by true None = refl
        by false o = refl

    -- ---- what other tasks list

    dep_known : (x : ℕ) → is_going k x ≡ true → {o : Option (List ℕ)} → dep_of closed x ≡ o → (k.task x).dep ≡ o
    dep_known x going is = sym (dep_recorded told it x stands going) ∙ sym (dep_same x) ∙ is

    none_listed : (x : ℕ) → eqb t x ≡ false → is_going k x ≡ true → (i : Inst) → (k.task x).dep ≡ Some i.dep
        → (xs : List Inst) → (is_among same_inst i xs ≡ true → (k.task t).dep ≡ Some i.dep)
        → is_among same_inst i xs ≡ false
    none_listed x other going i dep xs own = by (is_among same_inst i xs) refl
      where
        by : (b : Bool) → is_among same_inst i xs ≡ b → b ≡ false
        by false is = refl
        by true is = absurd (allows.alone x other going (dep ∙ sym (own is)))

    inst_as : (a b : Inst) → is_at (inst_cmp a) b ≡ same_inst b a
    inst_as a b = inst_at a b ∙ inst_flip b a

    -- so an instance of another task is as before
    instance_other : (x : ℕ) → eqb t x ≡ false → is_going k x ≡ true → (i : Inst) → (k.task x).dep ≡ Some i.dep
        → (o : Option Work) → IsWork told t o → found inst_cmp (cleared o it).instances i ≡ instance_of it i
    instance_other x other going i dep None work = refl
    instance_other x other going i dep (Some work) (open_, later, (swept, ws, are_swept)) =
        each_other inst_cmp inst_keys (with_change None) same_inst inst_as work.changed _ i
        (ap (is_among same_inst i) ws.changed_are ∙ none_listed x other going i dep (k.task t).changed (allows.changing i))
        ∙ each_other inst_cmp inst_keys (with_leaving None) same_inst inst_as work.obsolete.items _ i
        (ap (is_among same_inst i) (ws.obsolete).items_are
        ∙ none_listed x other going i dep (k.task t).obsolete (allows.leaving i))
        ∙ each_other inst_cmp inst_keys (with_ping None) same_inst inst_as work.pings.items it.instances i
        (ap (is_among same_inst i) (ws.pings).items_are
        ∙ none_listed x other going i dep (k.task t).to_ping (allows.asked i))

    part_other : (x : ℕ) → eqb t x ≡ false → is_going k x ≡ true → (i : Inst) → (k.task x).dep ≡ Some i.dep
        → part_of closed i ≡ part_of it i
    part_other x other going i dep = ap (λ o. option_map_or (λ (known : Instance). known.part) o no_part)
        (instance_other x other going i dep (work_of it t) (stands.works t))

    nat_as : (a b : ℕ) → is_at (nat_cmp a) b ≡ eqb b a
    nat_as a b = nat_at a b ∙ eqb_flip a b

    orphan_other : (x : ℕ) → eqb t x ≡ false → is_going k x ≡ true → (d : ℕ) → (k.task x).dep ≡ None
        → (o : Option Work) → IsWork told t o → thing_in nat_cmp (cleared o it).orphans d ≡ orphan_of it d
    orphan_other x other going d dep None work = refl
    orphan_other x other going d dep (Some work) (open_, later, (swept, ws, are_swept)) =
        ap (option_and_then (λ place. place))
        (each_other nat_cmp nat_keys (option_map (with_deleting None)) eqb nat_as work.disks.items it.orphans d
        (ap (is_among eqb d) (ws.disks).items_are ∙ by (is_among eqb d (k.task t).disks) refl))
      where
        by : (b : Bool) → is_among eqb d (k.task t).disks ≡ b → b ≡ false
        by false is = refl
        by true is = absurd (allows.alone x other going (dep ∙ sym (allows.deleting d is)))

    machine_as : (a b : MachineName) → is_at (machine_cmp a) b ≡ same_machine b a
    machine_as a b = machine_at a b ∙ (λ j. eqb_flip a.task b.task j && eqb_flip a.slot b.slot j)

    machine_other : (x : ℕ) → eqb t x ≡ false → is_going k x ≡ true → (name : MachineName) (machine : Machine)
        → (k.task x).dep ≡ Some machine.row.dep → (o : Option Work) → IsWork told t o
        → thing_in machine_cmp (cleared o it).machines name ≡ Some machine → machine_of it name ≡ Some machine
    machine_other x other going name machine dep None work there = there
    machine_other x other going name machine dep (Some work) (open_, later, (swept, ws, are_swept)) there =
        by (is_among same_machine name work.sweep.items) refl
      where
        kept : option_map (λ (machine : Machine). machine.row)
            (thing_in machine_cmp (cleared (Some work) it).machines name)
            ≡ option_map (row_of_slot name.task name.slot) (k.slot name.task name.slot)
        kept = mapped (λ (machine : Machine). machine.row) (thing_in machine_cmp (cleared (Some work) it).machines name)
            ∙ machine_kept (λ machine. Some machine.row) (λ machine. refl) (Some work) name
            ∙ sym (mapped (λ (machine : Machine). machine.row) (machine_of it name)) ∙ stands.machines name

        never : (slot : Option Slot) → k.slot name.task name.slot ≡ slot
            → Some machine.row ≡ option_map (row_of_slot name.task name.slot) slot
            → is_among same_machine name swept ≡ true → ⊥
        never None is row among = absurd cc
        never (Some slot) is row among =
            let same : machine.row ≡ row_of_slot name.task name.slot slot = cc in
            allows.alone x other going
            (dep ∙ ap (λ (row : CompileRow). Some row.dep) same
            ∙ sym (deployment_of (k.task t).dep slot.dep
            (sym (ap (holds (λ (it : Slot). option_eq bytes_eq (Some it.dep) (k.task t).dep)) is)
            ∙ (and_parts (not (name.task == t)) _ (left_over k t swept name are_swept among (ap is_some is))).1)))

        by : (b : Bool) → is_among same_machine name work.sweep.items ≡ b → machine_of it name ≡ Some machine
        by false none =
            sym (ap (option_and_then (λ place. place))
            (each_other machine_cmp machine_keys (option_map (with_sweep None)) same_machine machine_as work.sweep.items
            it.machines name none)) ∙ there
        by true among =
            absurd (never (k.slot name.task name.slot) refl
            (sym (ap (option_map (λ (machine : Machine). machine.row)) there) ∙ kept)
            (sym (ap (is_among same_machine name) (ws.sweep).items_are) ∙ among))

    same_came : (o : Option Work) → (cleared o it).came ≡ it.came
    same_came None = refl
    same_came (Some work) = refl

    same_deployments : (o : Option Work) → (cleared o it).deployments ≡ it.deployments
    same_deployments None = refl
    same_deployments (Some work) = refl

    same_keys : (o : Option Work) → (cleared o it).keys ≡ it.keys
    same_keys None = refl
    same_keys (Some work) = refl

    same_calls : (o : Option Work) → (cleared o it).calls ≡ it.calls
    same_calls None = refl
    same_calls (Some work) = refl

    linked : IsLinked closed
    linked = record {
      wants = λ i. instance_kept (λ known. known.want) (λ known. refl) (λ known. refl) (λ known. refl) (work_of it t) i
          ∙ stands.linked.wants i
          ∙ ap (λ rows. option_and_then (λ (goal : Goal). want_place goal.rows i)
          (option_map (λ (row : DepRow). row.goal) (find (λ (row : DepRow). bytes_eq row.dep i.dep) (things rows))))
          (sym (same_deployments (work_of it t)));
      pings = λ x w i is dep. by_part (λ part. part.ping) x w i (was_other x w is) dep
          (λ was known. stands.linked.pings x w i was known);
      leaving = λ x w i is dep. by_part (λ part. part.leaving) x w i (was_other x w is) dep
          (λ was known. stands.linked.leaving x w i was known);
      changes = λ x w i is dep. by_part (λ part. part.change) x w i (was_other x w is) dep
          (λ was known. stands.linked.changes x w i was known);
      sweeps = λ x w name machine is there dep. sweeping x w name machine (was_other x w is) there dep;
      deletions = λ x w d loose is there dep. deleting x w d loose (was_other x w is) there dep;
    }
      where
        by_part : {Y : Type 0} (read : Part → Y) (x : ℕ) (w : Work) (i : Inst) → WasOther x w → {place : Y}
            → dep_of closed x ≡ Some i.dep
            → (work_of it x ≡ Some w → dep_of it x ≡ Some i.dep → read (part_of it i) ≡ place)
            → read (part_of closed i) ≡ place
        by_part read x w i was dep old =
            ap read (part_other x was.other was.going i (dep_known x was.going dep))
            ∙ old was.is (sym (dep_same x) ∙ dep)

        sweeping : (x : ℕ) (w : Work) (name : MachineName) (machine : Machine) → WasOther x w
            → machine_of closed name ≡ Some machine → dep_of closed x ≡ Some machine.row.dep
            → machine.sweep ≡ place_of same_machine name w.sweep.items
        sweeping x w name machine was there dep =
            stands.linked.sweeps x w name machine was.is
            (machine_other x was.other was.going name machine (dep_known x was.going dep) (work_of it t) (stands.works t)
            there)
            (sym (dep_same x) ∙ dep)

        deleting : (x : ℕ) (w : Work) (d : ℕ) (loose : LooseDisk) → WasOther x w → orphan_of closed d ≡ Some loose
            → dep_of closed x ≡ None → loose.deleting ≡ place_of eqb d w.disks.items
        deleting x w d loose was there dep =
            stands.linked.deletions x w d loose was.is
            (sym (orphan_other x was.other was.going d (dep_known x was.going dep) (work_of it t) (stands.works t)) ∙ there)
            (sym (dep_same x) ∙ dep)

    -- ---- all

    pub closed_stands : StandsInOrder (told_ended t end told) (closed_task t end it)
    closed_stands = λ ordered. record {
      uploads = same_came (work_of it t) ∙ stands.uploads;
      deployments = ap things (same_deployments (work_of it t)) ∙ stands.deployments;
      rows = λ i. instance_kept (λ known. known.row) (λ known. refl) (λ known. refl) (λ known. refl) (work_of it t) i
          ∙ stands.rows i;
      row_calls = λ i. instance_kept (λ known. known.call) (λ known. refl) (λ known. refl) (λ known. refl) (work_of it t) i
          ∙ stands.row_calls i;
      machines = λ name. mapped (λ (machine : Machine). machine.row) (machine_of closed name)
          ∙ machine_kept (λ machine. Some machine.row) (λ machine. refl) (work_of it t) name
          ∙ sym (mapped (λ (machine : Machine). machine.row) (machine_of it name)) ∙ stands.machines name;
      machine_keys = λ name later. machine_kept (λ machine. machine.key) (λ machine. refl) (work_of it t) name
          ∙ stands.machine_keys name later
          ∙ sym (task_same
          (λ (it : Task). option_and_then
          (λ key. first_marked (map (λ work. same_key work.key key) (keys_of it.goal)))
          (key_of_slot (k.slot name.task name.slot))) refl name.task);
      machine_calls = λ name. machine_kept (λ machine. machine.call) (λ machine. refl) (work_of it t) name
          ∙ stands.machine_calls name;
      orphans = λ d. mapped (λ (loose : LooseDisk). loose.orphan) (orphan_of closed d)
          ∙ orphan_kept (λ loose. Some loose.orphan) (λ loose. refl) (work_of it t) d
          ∙ sym (mapped (λ (loose : LooseDisk). loose.orphan) (orphan_of it d)) ∙ stands.orphans d;
      orphan_calls = λ d. orphan_kept (λ loose. loose.call) (λ loose. refl) (work_of it t) d ∙ stands.orphan_calls d;
      digests = λ key. ap (λ keys. option_and_then (λ (state : KeyState). state.digest) (found key_cmp keys key))
          (same_keys (work_of it t)) ∙ stands.digests key;
      compiling = λ key. ap (λ keys. option_map_or (λ (state : KeyState). is_some state.call) (found key_cmp keys key) false)
          (same_keys (work_of it t)) ∙ stands.compiling key;
      tasks = tasks;
      calls = λ n. ap (λ calls. thing_in nat_cmp calls n) (same_calls (work_of it t)) ∙ stands.calls n;
      works = works;
      linked = linked;
      ordered = ordered;
      tells_well = record {
        number = stands.tells_well.number;
        low = stands.tells_well.low;
        past = stands.tells_well.past;
        begun = stands.tells_well.begun;
        begun_past = stands.tells_well.begun_past;
        failed = λ x failure is. stands.tells_well.failed x failure (sym (task_same (λ it. it.failed) refl x) ∙ is);
        going = λ n b is. going_other b.task (allows.none_open n b is) ∙ stands.tells_well.going n b is;
        one_owner = stands.tells_well.one_owner;
        one_key = stands.tells_well.one_key;
        recorded = stands.tells_well.recorded;
        counted = λ x c is. stands.tells_well.counted x c (sym (task_same (λ it. it.calls) refl x) ∙ is);
        disks_apart = λ x. task_same (λ it. are_distinct eqb it.disks) refl x ∙ stands.tells_well.disks_apart x;
        updates = λ x y. task_same (λ it. is_finished (it.upd y)) refl x ∙ stands.tells_well.updates x y
            ∙ sym (task_same (λ it. not (is_waiting (it.upd y)) && not (is_busy (it.upd y))) refl x);
      };
    }
