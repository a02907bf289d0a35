-- A compile machine is recorded that is being made.
use Rattle.std.proofs.Common.{◌≡◌, ◌∙◌, ℕ, Bool, true, false, Option, Some, None, ap, refl, sym}
use Rattle.std.specs.Prelude.{is_some, option_map, if◌then◌else◌}
use Rattle.std.specs.Option.{option_and_then}
use Rattle.std.specs.Ordering.{nat_cmp}
use Rattle.std.proofs.lemmas.Bool.{false≢true}
use Rattle.bosh_base.specs.Cloud.{numbers_to}
use Rattle.bosh_base.specs.declared.entry.Begin.{Begin}
use Rattle.bosh_base.specs.declared.owner.Owner.TheVariants.{Compile}
use Rattle.bosh_history.specs.Known.{Known, Slot}
use Rattle.bosh_history.specs.Words.{holds, is_among}
use Rattle.bosh_records.specs.Readers.{machine_cmp}
use Rattle.bosh_records.specs.Recorded.{Recorded}
use Rattle.bosh_records.specs.Table.{changed, found, put_at}
use Rattle.bosh_records.specs.declared.machines.Machine.{Machine}
use Rattle.bosh_rows.specs.Same.{same_owner}
use Rattle.bosh_work.specs.Work.{with_machine}
use Rattle.bosh_work.specs.declared.part.MachineName.{MachineName}
use Rattle.bosh_work.specs.declared.work.Work.{Work}
use Rattle.laws_stands.specs.LineStands.{place_of}
use Rattle.laws_stands.specs.Linked.{IsLinked, same_machine}
use Rattle.laws_stands.specs.Reading.{dep_of, machine_of, work_of}
use Rattle.laws_stands.specs.Stands.{StandsIn, StandsInOrder, call_of, key_of_slot, key_place, row_of_slot}
use Rattle.laws_stands.specs.Told.{Told}
use Rattle.laws_stands_ends.proofs.DroppedToldLemmas.{none_placed}
use Rattle.laws_stands_machines.proofs.MadeToldLemmas.{own_slot, slot_other}
use Rattle.laws_stands_machines.proofs.MadeWorksLemmas.{work_is, works}
use Rattle.laws_stands_machines.specs.Making.{AllowsMake, machine_of_slot, told_made}
use Rattle.laws_stands_on.proofs.FindLemmas.{none_is_found}
use Rattle.laws_stands_on.proofs.KeyLemmas.{machine_keys}
use Rattle.laws_stands_on.proofs.LinkLemmas.{ListsSame, WasWork, changed_work, links_go_on}
use Rattle.laws_stands_on.proofs.TableLemmas.{found_altered}
use Rattle.laws_stands_on.proofs.TellsLemmas.{tells_as_well}
use Rattle.laws_stands_slots.proofs.SlotTableLemmas.{machine_at, same_machine_is}
use Rattle.laws_stands_slots.specs.Slots.{named}

module _ (told : Told) (it : Recorded) (t s : ℕ) (slot : Slot) (allows : AllowsMake told it t s slot)
    (stands : StandsIn told it) where
  abbrev k : Known
  k = told.known

  abbrev name : MachineName
  name = record { task = t; slot = s }

  abbrev new : Told
  new = told_made t s slot told

  abbrev pub machine_made : Machine
  machine_made = machine_of_slot told t s slot

  abbrev pub now : Recorded
  now = record it {
    works = changed nat_cmp t (λ work. with_machine work (key_place k t slot.key)) it.works;
    machines = put_at machine_cmp name machine_made it.machines;
  }

  -- ---- machines

  machine_is : (x : MachineName) → machine_of now x ≡ (if same_machine name x then Some machine_made else machine_of it x)
  machine_is x =
      ap (option_and_then (λ place. place))
      (found_altered machine_cmp machine_keys name (λ _. Some machine_made) it.machines x)
      ∙ (λ j. option_and_then (λ place. place) (if machine_at name x j
      then option_map (λ _. Some machine_made) (found machine_cmp it.machines x) else found machine_cmp it.machines x))
      ∙ by (same_machine name x) refl
    where
      put : (o : Option (Option Machine)) → is_some o ≡ true
          → option_and_then (λ (place : Option Machine). place) (option_map (λ _. Some machine_made) o)
          ≡ Some machine_made
      put (Some place) there = refl
      put None there = absurd (false≢true there)

      by : (b : Bool) → same_machine name x ≡ b → option_and_then (λ (place : Option Machine). place)
          (if b then option_map (λ _. Some machine_made) (found machine_cmp it.machines x)
          else found machine_cmp it.machines x)
          ≡ (if b then Some machine_made else machine_of it x)
      by true is = put (found machine_cmp it.machines x)
          (ap (λ x. is_some (found machine_cmp it.machines x)) (sym (same_machine_is name x is)) ∙ allows.room)
      by false is = refl

  -- what is read of each is read as before, and of the one that comes what is told of it
  read_now : {X : Type 0} (read : Option Machine → X) → (tells : MachineName → X)
      → (tells_now : MachineName → X) → tells_now name ≡ read (Some machine_made)
      → ((x : MachineName) → same_machine name x ≡ false → tells_now x ≡ tells x)
      → (x : MachineName) → read (machine_of it x) ≡ tells x → read (machine_of now x) ≡ tells_now x
  read_now read tells tells_now own others x was = ap read (machine_is x) ∙ by (same_machine name x) refl
    where
      by : (b : Bool) → same_machine name x ≡ b
          → read (if b then Some machine_made else machine_of it x) ≡ tells_now x
      by true same = sym own ∙ ap tells_now (same_machine_is name x same)
      by false other = was ∙ sym (others x other)

  no_call : call_of told (Compile t s) ≡ None
  no_call = none_is_found (λ c. holds (λ (b : Begin). same_owner (Compile t s) b.owner) (told.calls c))
      (numbers_to k.last_call) allows.idle

  -- ---- places

  lists_same : (w : Work) → ListsSame (with_machine w (key_place k t slot.key)) w
  lists_same w = record { pings = refl; obsolete = refl; changed = refl; sweep = refl; disks = refl }

  was_work : (u : ℕ) (w : Work) → work_of now u ≡ Some w → WasWork it u w
  was_work = changed_work it now t (λ work. with_machine work (key_place k t slot.key)) lists_same
      (work_is told it t s slot allows stands)

  linked : IsLinked now
  linked = record {
    wants = kept.wants;
    pings = kept.pings;
    leaving = kept.leaving;
    changes = kept.changes;
    sweeps = λ u w x machine there is dep. let old : WasWork it u w = was_work u w there in
        by u w old x machine (same_machine name x) refl (sym (machine_is x) ∙ is) dep;
    deletions = kept.deletions;
  }
    where
      kept : IsLinked (record now { machines = it.machines })
      kept = links_go_on it (record now { machines = it.machines }) (record {
        wants = λ i. refl;
        goals = λ dep. refl;
        parts = λ i. refl;
        deps = λ u. refl;
        works = was_work;
        machines = λ x. refl;
        orphans = λ d. refl;
      }) stands.linked

      by : (u : ℕ) (w : Work) (old : WasWork it u w) (x : MachineName) (machine : Machine) (b : Bool)
          → same_machine name x ≡ b
          → (if b then Some machine_made else machine_of it x) ≡ Some machine → dep_of it u ≡ Some machine.row.dep
          → machine.sweep ≡ place_of same_machine x w.sweep.items
      by u w old x machine true same is dep =
          let made : machine_made ≡ machine = cc in
          ap (λ (machine : Machine). machine.sweep) (sym made)
          ∙ sym (none_placed same_machine x w.sweep.items
          (ap (λ (x : MachineName). is_among same_machine x w.sweep.items) (sym (same_machine_is name x same))
          ∙ ap (is_among same_machine name) (old.same).sweep ∙ allows.unswept u old.old old.is))
      by u w old x machine false other is dep =
          stands.linked.sweeps u old.old x machine old.is is dep
          ∙ ap (place_of same_machine x) (sym (old.same).sweep)

  -- ---- all

  pub slot_made : StandsInOrder new now
  slot_made = λ ordered. record {
    uploads = stands.uploads;
    deployments = stands.deployments;
    rows = stands.rows;
    row_calls = stands.row_calls;
    machines = λ x. read_now (option_map (λ machine. machine.row))
        (λ x. option_map (row_of_slot x.task x.slot) (k.slot x.task x.slot))
        (λ x. option_map (row_of_slot x.task x.slot) (new.known.slot x.task x.slot))
        (ap (option_map (row_of_slot t s)) (own_slot told it t s slot allows))
        (λ x other. ap (option_map (row_of_slot x.task x.slot))
        (slot_other told it t s slot allows (named x.task x.slot) other))
        x (stands.machines x);
    machine_keys = λ x later. read_now (option_and_then (λ machine. machine.key))
        (λ x. key_place k x.task (key_of_slot (k.slot x.task x.slot)))
        (λ x. key_place k x.task (key_of_slot (new.known.slot x.task x.slot)))
        (ap (λ o. key_place k t (key_of_slot o)) (own_slot told it t s slot allows))
        (λ x other. ap (λ o. key_place k x.task (key_of_slot o))
        (slot_other told it t s slot allows (named x.task x.slot) other))
        x (stands.machine_keys x later);
    machine_calls = λ x. read_now (option_and_then (λ machine. machine.call))
        (λ x. call_of told (Compile x.task x.slot)) (λ x. call_of told (Compile x.task x.slot)) no_call
        (λ x other. refl) x (stands.machine_calls x);
    orphans = stands.orphans;
    orphan_calls = stands.orphan_calls;
    digests = stands.digests;
    compiling = stands.compiling;
    tasks = stands.tasks;
    calls = stands.calls;
    works = works told it t s slot allows stands;
    linked = linked;
    ordered = ordered;
    tells_well = tells_as_well told new refl refl refl refl refl refl stands.tells_well;
  }
