-- A compile machine is not there any more.
use Rattle.std.proofs.Common.{◌≡◌, ◌∙◌, ℕ, Bool, true, false, ◌&&◌}
use Rattle.std.proofs.Common.{Option, Some, None, ap, refl, sym, subst}
use Rattle.std.specs.Prelude.{if◌then◌else◌}
use Rattle.std.specs.Option.{option_and_then, option_map}
use Rattle.std.specs.Ordering.{nat_cmp}
use Rattle.std.proofs.lemmas.Bool.{eq-eqb}
use Rattle.bosh_base.specs.Cloud.{numbers_to}
use Rattle.bosh_base.specs.declared.entry.Begin.{Begin}
use Rattle.bosh_base.specs.declared.owner.Owner.TheVariants.{Compile}
use Rattle.bosh_fold.specs.Calls.{dropped_machine, machine_name, machine_told, swept_in}
use Rattle.bosh_history.specs.Known.{Known}
use Rattle.bosh_history.specs.Words.{holds}
use Rattle.bosh_plan.specs.declared.ending.Told.TheVariants.{Absent}
use Rattle.bosh_records.specs.Readers.{machine_cmp}
use Rattle.bosh_records.specs.Recorded.{Recorded}
use Rattle.bosh_records.specs.Table as table
use Rattle.bosh_records.specs.Table.{changed, each_thing, found, thing_in}
use Rattle.bosh_records.specs.declared.machines.Machine.{Machine}
use Rattle.bosh_rows.specs.Same.{same_owner}
use Rattle.bosh_work.specs.declared.part.MachineName.{MachineName}
use Rattle.bosh_work.specs.declared.work.Work.{Work}
use Rattle.laws_stands.proofs.OrderLemmas.{once_of}
use Rattle.laws_stands.specs.LineStands.{place_of}
use Rattle.laws_stands.specs.Linked.{IsLinked, same_machine}
use Rattle.laws_stands.specs.Reading.{machine_of, work_of}
use Rattle.laws_stands.specs.Stands.{StandsIn, StandsInOrder, call_of, key_of_slot, key_place, row_of_slot}
use Rattle.laws_stands.specs.Told.{Told}
use Rattle.laws_stands_ends.proofs.DroppedToldLemmas.{slot_now, slot_other}
use Rattle.laws_stands_ends.proofs.DroppedWorksLemmas.{change, less, lists_same, recorded_now, swept_works}
use Rattle.laws_stands_ends.proofs.DroppedWorksLemmas.{work_is, works}
use Rattle.laws_stands_ends.specs.Dropping.{AllowsDrop, told_dropped}
use Rattle.laws_stands_on.proofs.FindLemmas.{none_is_found}
use Rattle.laws_stands_on.proofs.KeyLemmas.{machine_keys}
use Rattle.laws_stands_on.proofs.LinkLemmas.{WasWork, links_go_on}
use Rattle.laws_stands_on.proofs.TableLemmas.{found_without}
use Rattle.laws_stands_on.proofs.TellsLemmas.{tells_as_well}
use Rattle.laws_stands_on.proofs.WorksLemmas.{works_were}
use Rattle.laws_stands_slots.proofs.SlotTableLemmas.{machine_at, same_machine_is}
use Rattle.laws_stands_slots.specs.Slots.{named}

module _ (told : Told) (it : Recorded) (t s : ℕ) (allows : AllowsDrop told t s) (stands : StandsIn told it)
    (machine : Machine) (is : machine_of it (record { task = t; slot = s }) ≡ Some machine) where
  abbrev k : Known
  k = told.known

  abbrev name : MachineName
  name = record { task = t; slot = s }

  abbrev new : Told
  new = told_dropped t s told

  abbrev now : Recorded
  now = recorded_now it t s machine

  -- ---- machines

  machine_is : (x : MachineName) → machine_of now x ≡ (if same_machine name x then None else machine_of it x)
  machine_is x =
      ap (option_and_then (λ place. place))
      (found_without machine_cmp machine_keys name it.machines (once_of stands.ordered).machines x)
      ∙ (λ j. option_and_then (λ place. place) (if machine_at name x j then None else found machine_cmp it.machines x))
      ∙ by (same_machine name x)
    where
      by : (b : Bool) → option_and_then (λ (place : Option Machine). place)
          (if b then None else found machine_cmp it.machines x) ≡ (if b then None else machine_of it x)
      by true = refl
      by false = refl

  -- what is read of each is read as before, and nothing of the one that goes
  read_now : {X : Type 0} (read : Option Machine → Option X) → read None ≡ None → (tells : MachineName → Option X)
      → (tells_now : MachineName → Option X) → tells_now name ≡ None
      → ((x : MachineName) → same_machine name x ≡ false → tells_now x ≡ tells x)
      → (x : MachineName) → read (machine_of it x) ≡ tells x → read (machine_of now x) ≡ tells_now x
  read_now read nothing tells tells_now own others x was = ap read (machine_is x) ∙ by (same_machine name x) refl
    where
      by : (b : Bool) → same_machine name x ≡ b → read (if b then None else machine_of it x) ≡ tells_now x
      by true same = nothing ∙ sym own ∙ ap tells_now (same_machine_is name x same)
      by false other = was ∙ sym (others x other)

  own_slot : new.known.slot t s ≡ None
  own_slot = slot_now told t s allows t s ∙ (λ j. if eq-eqb t t refl j && eq-eqb s s refl j then None else k.slot t s)

  no_call : call_of told (Compile t s) ≡ None
  no_call = none_is_found (λ c. holds (λ (b : Begin). same_owner (Compile t s) b.owner) (told.calls c))
      (numbers_to k.last_call) allows.idle

  -- ---- places

  linked : IsLinked now
  linked = record {
    wants = kept.wants;
    pings = kept.pings;
    leaving = kept.leaving;
    changes = kept.changes;
    sweeps = λ u w x other there its dep. let old : WasWork it u w = was u w there in
        by x other (same_machine name x) (sym (machine_is x) ∙ its)
        (place_of same_machine x w.sweep.items)
        (λ its. stands.linked.sweeps u old.old x other old.is its dep
        ∙ ap (place_of same_machine x) (sym (old.same).sweep));
    deletions = kept.deletions;
  }
    where
      was : (u : ℕ) (w : Work) → work_of now u ≡ Some w → WasWork it u w
      was = works_were it now (change t s machine) (work_is it t s machine) (lists_same t s machine)

      kept : IsLinked (record now { machines = it.machines })
      kept = links_go_on it (record now { machines = it.machines }) (record {
        wants = λ i. refl;
        goals = λ dep. refl;
        parts = λ i. refl;
        deps = λ u. refl;
        works = was;
        machines = λ x. refl;
        orphans = λ d. refl;
      }) stands.linked

      by : (x : MachineName) (other : Machine) (b : Bool) → (if b then None else machine_of it x) ≡ Some other
          → (place : Option ℕ) → (machine_of it x ≡ Some other → other.sweep ≡ place) → other.sweep ≡ place
      by x other true its place listed = absurd cc
      by x other false its place listed = listed its

  -- ---- all

  dropped_stands : StandsInOrder new now
  dropped_stands = λ ordered. record {
    uploads = stands.uploads;
    deployments = stands.deployments;
    rows = stands.rows;
    row_calls = stands.row_calls;
    machines = λ x. read_now (option_map (λ machine. machine.row)) refl
        (λ x. option_map (row_of_slot x.task x.slot) (k.slot x.task x.slot))
        (λ x. option_map (row_of_slot x.task x.slot) (new.known.slot x.task x.slot))
        (ap (option_map (row_of_slot t s)) own_slot)
        (λ x other. ap (option_map (row_of_slot x.task x.slot))
        (slot_other told t s allows (named x.task x.slot) other))
        x (stands.machines x);
    machine_keys = λ x later. read_now (option_and_then (λ machine. machine.key)) refl
        (λ x. key_place k x.task (key_of_slot (k.slot x.task x.slot)))
        (λ x. key_place k x.task (key_of_slot (new.known.slot x.task x.slot)))
        (ap (λ slot. key_place k t (key_of_slot slot)) own_slot)
        (λ x other. ap (λ slot. key_place k x.task (key_of_slot slot))
        (slot_other told t s allows (named x.task x.slot) other))
        x (stands.machine_keys x later);
    machine_calls = λ x. read_now (option_and_then (λ machine. machine.call)) refl
        (λ x. call_of told (Compile x.task x.slot)) (λ x. call_of told (Compile x.task x.slot)) no_call
        (λ x other. refl) x (stands.machine_calls x);
    orphans = stands.orphans;
    orphan_calls = stands.orphan_calls;
    digests = stands.digests;
    compiling = stands.compiling;
    tasks = stands.tasks;
    calls = stands.calls;
    works = works told it t s allows stands machine is;
    linked = linked;
    ordered = ordered;
    tells_well = tells_as_well told new refl refl refl refl refl refl stands.tells_well;
  }

  now_is : machine_told (machine_name t s) Absent it ≡ now
  now_is = ap (λ o. dropped_machine name o it) is ∙ by machine.sweep
    where
      by : (o : Option ℕ) → swept_in name o (record it {
        machines = table.without machine_cmp name it.machines;
        works = changed nat_cmp t (less machine) it.works;
      }) ≡ record it {
        machines = table.without machine_cmp name it.machines;
        works = swept_works name o (changed nat_cmp t (less machine) it.works);
      }
      by (Some place) = refl
      by None = refl

  told_absent : StandsInOrder new (machine_told (machine_name t s) Absent it)
  told_absent = subst (StandsInOrder new) (sym now_is) dropped_stands

module _ (told : Told) (it : Recorded) (t s : ℕ) (allows : AllowsDrop told t s) (stands : StandsIn told it) where
  pub slot_dropped : StandsInOrder (told_dropped t s told) (machine_told (machine_name t s) Absent it)
  slot_dropped = by (machine_of it (machine_name t s)) refl
    where
      by : (o : Option Machine) → machine_of it (machine_name t s) ≡ o
          → StandsInOrder (told_dropped t s told) (machine_told (machine_name t s) Absent it)
      by (Some machine) is = told_absent told it t s allows stands machine is
      by None is = absurd (let e : None ≡ Some (row_of_slot t s allows.row) =
          ap (option_map (λ (machine : Machine). machine.row)) (sym is) ∙ stands.machines (machine_name t s)
          ∙ ap (option_map (row_of_slot t s)) allows.there in cc)
