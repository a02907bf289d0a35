-- Something is told of a compile machine that stays.
use Rattle.std.proofs.Common.{◌≡◌, ◌∙◌, ℕ, Bool, true, false, ◌&&◌, not, List, ◌==◌, filter, map}
use Rattle.std.proofs.Common.{Option, Some, None, ap, refl, sym, subst}
use Rattle.std.specs.Prelude.{is_some, if◌then◌else◌}
use Rattle.std.specs.List.{list_any}
use Rattle.std.specs.Option.{option_and_then, option_eq, option_map, option_or}
use Rattle.std.specs.Str.{bytes_eq}
use Rattle.bosh_base.specs.declared.key.Key.{Key}
use Rattle.bosh_base.specs.declared.owner.Owner.TheVariants.{Compile}
use Rattle.bosh_base.specs.declared.row.Doubt.{Doubt}
use Rattle.bosh_base.specs.declared.row.Vm.{Vm}
use Rattle.bosh_base.specs.declared.snapshot.CompileRow.{CompileRow}
use Rattle.bosh_fold.specs.Calls.{machine_name, machine_told, with_doubt}
use Rattle.bosh_history.specs.Items.{is_leftover}
use Rattle.bosh_history.specs.Known.{Known, Slot, SlotName}
use Rattle.bosh_history.specs.Slots.{works_for}
use Rattle.bosh_history.specs.Words.{holds}
use Rattle.bosh_plan.specs.declared.ending.Told.TheVariants.{There}
use Rattle.bosh_records.specs.Readers.{machine_cmp}
use Rattle.bosh_records.specs.Recorded.{Recorded}
use Rattle.bosh_records.specs.Table.{changed}
use Rattle.bosh_records.specs.declared.machines.Machine.{Machine}
use Rattle.bosh_work.specs.declared.part.MachineName.{MachineName}
use Rattle.bosh_work.specs.declared.work.Work.{Work}
use Rattle.laws_stands.specs.Linked.{IsLinked, same_machine}
use Rattle.laws_stands.specs.LineStands.{place_of}
use Rattle.laws_stands.specs.Reading.{dep_of, machine_of, work_of}
use Rattle.laws_stands.specs.Stands.{AreSwept, IsWork, StandsIn, StandsInOrder, key_of_slot, key_place, row_of_slot}
use Rattle.laws_stands.specs.Told.{Told}
use Rattle.laws_stands_on.proofs.ChangedLemmas.{some_mapped}
use Rattle.laws_stands_on.proofs.LinkLemmas.{WasWork, links_go_on}
use Rattle.laws_stands_on.proofs.ListedLemmas.{SameListed, listed_goes_on}
use Rattle.laws_stands_on.proofs.TellsLemmas.{tells_as_well}
use Rattle.laws_stands_slots.proofs.SlotTableLemmas.{machine_changed, same_machine_is, slot_same, with_slot_is}
use Rattle.laws_stands_slots.specs.Slots.{in_doubt_by, slot_there, told_slot}

module _ (told : Told) (it : Recorded) (t s : ℕ) (f : Slot → Slot) (g : CompileRow → CompileRow)
    (alike : (slot : Slot) → g (row_of_slot t s slot) ≡ row_of_slot t s (f slot))
    (same_dep : (row : CompileRow) → (g row).dep ≡ row.dep)
    (slot_dep : (slot : Slot) → (f slot).dep ≡ slot.dep)
    (same_key : (slot : Slot) → (f slot).key ≡ slot.key)
    (stands : StandsIn told it) where
  abbrev k : Known
  k = told.known

  abbrev name : MachineName
  name = record { task = t; slot = s }

  abbrev new : Told
  new = told_slot t s (option_map f (k.slot t s)) told

  abbrev said : Machine → Machine
  said machine = record machine { row = g machine.row }

  abbrev now : Recorded
  now = record it { machines = changed machine_cmp name said it.machines }

  machine_is : (x : MachineName) → machine_of now x
      ≡ (if same_machine name x then option_map said (machine_of it x) else machine_of it x)
  machine_is x = machine_changed name said it.machines x

  -- what is read of a machine beside its row
  other_parts : {X : Type 0} (p : Machine → X) → ((machine : Machine) → p (said machine) ≡ p machine)
      → (x : MachineName) → option_map p (machine_of now x) ≡ option_map p (machine_of it x)
  other_parts p same x = ap (option_map p) (machine_is x) ∙ by (same_machine name x) (machine_of it x)
    where
      by : (b : Bool) (o : Option Machine) → option_map p (if b then option_map said o else o) ≡ option_map p o
      by true (Some machine) = ap Some (same machine)
      by true None = refl
      by false o = refl

  joined : {X : Type 0} (p : Machine → Option X) (o : Option Machine)
      → option_and_then p o ≡ option_and_then (λ x. x) (option_map p o)
  joined p (Some machine) = refl
  joined p None = refl

  joined_parts : {X : Type 0} (p : Machine → Option X) → ((machine : Machine) → p (said machine) ≡ p machine)
      → (x : MachineName) → option_and_then p (machine_of now x) ≡ option_and_then p (machine_of it x)
  joined_parts p same x = joined p (machine_of now x) ∙ ap (option_and_then (λ x. x)) (other_parts p same x)
      ∙ sym (joined p (machine_of it x))

  machines : (x : MachineName) → option_map (λ machine. machine.row) (machine_of now x)
      ≡ option_map (row_of_slot x.task x.slot) (new.known.slot x.task x.slot)
  machines x =
      ap (option_map (λ machine. machine.row)) (machine_is x)
      ∙ by (same_machine name x) refl
      ∙ ap (option_map (row_of_slot x.task x.slot))
      (sym (with_slot_is t s (option_map f (k.slot t s)) k.slot x.task x.slot))
    where
      mapped : (o : Option Machine) (slot : Option Slot)
          → option_map (λ (machine : Machine). machine.row) o ≡ option_map (row_of_slot t s) slot
          → option_map (λ (machine : Machine). machine.row) (option_map said o)
          ≡ option_map (row_of_slot t s) (option_map f slot)
      mapped (Some machine) (Some slot) is =
          let row : machine.row ≡ row_of_slot t s slot = cc in ap Some (ap g row ∙ alike slot)
      mapped None None is = refl
      mapped (Some machine) None is = absurd cc
      mapped None (Some slot) is = absurd cc

      own : name ≡ x → option_map (λ (machine : Machine). machine.row) (option_map said (machine_of it x))
          ≡ option_map (row_of_slot x.task x.slot) (option_map f (k.slot t s))
      own is = subst (λ (x : MachineName).
          option_map (λ (machine : Machine). machine.row) (option_map said (machine_of it x))
          ≡ option_map (row_of_slot x.task x.slot) (option_map f (k.slot t s))) is
          (mapped (machine_of it name) (k.slot t s) (stands.machines name))

      by : (b : Bool) → same_machine name x ≡ b
          → option_map (λ (machine : Machine). machine.row)
          (if b then option_map said (machine_of it x) else machine_of it x)
          ≡ option_map (row_of_slot x.task x.slot)
          (if b then option_map f (k.slot t s) else k.slot x.task x.slot)
      by true is = own (same_machine_is name x is)
      by false is = stands.machines x

  -- ---- works

  some_same : (u r : ℕ) → is_some (new.known.slot u r) ≡ is_some (k.slot u r)
  some_same = slot_same is_some t s (option_map f (k.slot t s)) k.slot (some_mapped f (k.slot t s))

  worked_same : (key : Key) (u r : ℕ) → works_for key (new.known.slot u r) ≡ works_for key (k.slot u r)
  worked_same key = slot_same (works_for key) t s (option_map f (k.slot t s)) k.slot (by (k.slot t s))
    where
      by : (o : Option Slot) → works_for key (option_map f o) ≡ works_for key o
      by (Some slot) = ap (λ key_of. works_for key (Some (record slot { key = key_of }))) (same_key slot)
      by None = refl

  keys_same : (u r : ℕ) → key_of_slot (new.known.slot u r) ≡ key_of_slot (k.slot u r)
  keys_same = slot_same key_of_slot t s (option_map f (k.slot t s)) k.slot (by (k.slot t s))
    where
      by : (o : Option Slot) → key_of_slot (option_map f o) ≡ key_of_slot o
      by (Some slot) = same_key slot
      by None = refl

  left_same : (u : ℕ) (other : SlotName) → is_leftover new.known u other ≡ is_leftover k u other
  left_same u other = ap (λ b. not (other.task == u) && b)
      (slot_same (holds (λ (slot : Slot). option_eq bytes_eq (Some slot.dep) (k.task u).dep)) t s
      (option_map f (k.slot t s)) k.slot (by (k.slot t s)) other.task other.slot)
    where
      by : (o : Option Slot)
          → holds (λ (slot : Slot). option_eq bytes_eq (Some slot.dep) (k.task u).dep) (option_map f o)
          ≡ holds (λ (slot : Slot). option_eq bytes_eq (Some slot.dep) (k.task u).dep) o
      by (Some slot) = ap (λ dep. option_eq bytes_eq (Some dep) (k.task u).dep) (slot_dep slot)
      by None = refl

  swept_same : (u : ℕ) (swept : List MachineName) → AreSwept k u swept → AreSwept new.known u swept
  swept_same u swept are =
      (λ j. map (λ (x : MachineName). record { task = x.task; slot = x.slot })
      (filter (λ (x : MachineName). some_same x.task x.slot j) swept))
      ∙ are ∙ (λ j. filter (λ other. sym (left_same u other) j) k.machines)

  same_for : (u : ℕ) (swept : List MachineName) → SameListed told new (k.task u) u swept
  same_for u swept = record {
    pings = λ j x is. refl;
    obsolete = λ j x is. refl;
    changed = λ j x is. refl;
    disks = λ j x is. refl;
    orphans = λ j x is. refl;
    sweep = λ j x is. refl;
    slots = λ j x is. some_same x.task x.slot;
    compiled = λ key. refl;
    worked = λ key. (λ j. list_any (λ (x : SlotName). x.task == u && worked_same key u x.slot j) k.machines);
    machines = refl;
    failed = refl;
    calls = refl;
  }

  works : (u : ℕ) → IsWork new u (work_of now u)
  works u = by (work_of it u) (stands.works u)
    where
      by : (o : Option Work) → IsWork told u o → IsWork new u o
      by (Some work) (going, later, (swept, work_stands, are_swept)) = (
        going,
        later,
        (
          swept,
          listed_goes_on told new (k.task u) u swept work (same_for u swept) work_stands,
          swept_same u swept are_swept,
        ),
      )
      by None gone = gone

  -- ---- places

  was_work : (u : ℕ) (w : Work) → work_of now u ≡ Some w → WasWork it u w
  was_work u w is = record {
    old = w;
    is = is;
    same = record { pings = refl; obsolete = refl; changed = refl; sweep = refl; disks = refl };
  }

  linked : IsLinked now
  linked = record {
    wants = kept.wants;
    pings = kept.pings;
    leaving = kept.leaving;
    changes = kept.changes;
    sweeps = λ u w x machine is there dep. by u w x machine (same_machine name x) (machine_of it x) refl
        (sym (machine_is x) ∙ there) is dep;
    deletions = kept.deletions;
  }
    where
      kept : IsLinked (record now { machines = it.machines })
      kept = links_go_on it (record now { machines = it.machines }) (record {
        wants = λ i. refl;
        goals = λ dep. refl;
        parts = λ i. refl;
        deps = λ u. refl;
        works = was_work;
        machines = λ x. refl;
        orphans = λ d. refl;
      }) stands.linked

      by : (u : ℕ) (w : Work) (x : MachineName) (machine : Machine) (b : Bool) (o : Option Machine)
          → machine_of it x ≡ o → (if b then option_map said (machine_of it x) else machine_of it x) ≡ Some machine
          → work_of it u ≡ Some w → dep_of it u ≡ Some machine.row.dep
          → machine.sweep ≡ place_of same_machine x w.sweep.items
      by u w x machine false o was there is dep = stands.linked.sweeps u w x machine is there dep
      by u w x machine true None was there is dep = absurd (let e : None ≡ Some machine =
          (λ j. option_map said (sym was j)) ∙ there in cc)
      by u w x machine true (Some old) was there is dep =
          let e : Some (said old) ≡ Some machine = (λ j. option_map said (sym was j)) ∙ there in
          let same : said old ≡ machine = cc in
          ap (λ (machine : Machine). machine.sweep) (sym same)
          ∙ stands.linked.sweeps u w x old is was
          (dep ∙ (λ j. Some (sym same j).row.dep) ∙ ap Some (same_dep old.row))

  -- ---- all

  pub slot_told : StandsInOrder new now
  slot_told = λ ordered. record {
    uploads = stands.uploads;
    deployments = stands.deployments;
    rows = stands.rows;
    row_calls = stands.row_calls;
    machines = machines;
    machine_keys = λ x later. joined_parts (λ machine. machine.key) (λ machine. refl) x ∙ stands.machine_keys x later
        ∙ ap (key_place k x.task) (sym (keys_same x.task x.slot));
    machine_calls = λ x. joined_parts (λ machine. machine.call) (λ machine. refl) x ∙ stands.machine_calls x;
    orphans = stands.orphans;
    orphan_calls = stands.orphan_calls;
    digests = stands.digests;
    compiling = stands.compiling;
    tasks = stands.tasks;
    calls = stands.calls;
    works = works;
    linked = linked;
    ordered = ordered;
    tells_well = tells_as_well told new refl refl refl refl refl refl stands.tells_well;
  }

-- ---- that it is there, or in doubt

pub slot_shown : (told : Told) (it : Recorded) (t s : ℕ) (vm : Option Vm) → StandsIn told it
    → StandsInOrder (told_slot t s (option_map (slot_there vm) (told.known.slot t s)) told)
    (machine_told (machine_name t s) (There vm) it)
slot_shown told it t s vm stands =
    slot_told told it t s (slot_there vm) (λ row. record row { vm = option_or vm row.vm; doubt = None })
    (λ slot. refl) (λ row. refl) (λ slot. refl) (λ slot. refl) stands

pub slot_doubted : (told : Told) (it : Recorded) (t s : ℕ) (doubt : Doubt) → StandsIn told it
    → StandsInOrder (told_slot t s (option_map (in_doubt_by doubt) (told.known.slot t s)) told)
    (with_doubt (Compile t s) doubt it)
slot_doubted told it t s doubt stands =
    slot_told told it t s (in_doubt_by doubt) (λ row. record row { doubt = Some doubt })
    (λ slot. refl) (λ row. refl) (λ slot. refl) (λ slot. refl) stands
