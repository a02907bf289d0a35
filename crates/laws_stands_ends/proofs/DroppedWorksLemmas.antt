-- The works once a compile machine is not there any more.
use Rattle.std.proofs.Common.{◌≡◌, ◌∙◌, ◌+◌, ◌<◌, ℕ, Bool, true, false, ◌&&◌, not, List, ◌==◌}
use Rattle.std.proofs.Common.{Option, Some, None, ap, refl, sym, subst, arith}
use Rattle.std.specs.Prelude.{◌-◌, count_by, eqb, is_some, slice_get, if◌then◌else◌}
use Rattle.std.specs.Option.{option_and_then, option_eq, option_map, option_map_or}
use Rattle.std.specs.Ordering.{nat_cmp}
use Rattle.std.specs.Str.{bytes_eq}
use Rattle.std.proofs.lemmas.Bool.{and_parts, eq-eqb, eqb-true, false≢true}
use Rattle.std.proofs.lemmas.Slice.Eq.{bytes_eq-Decides}
use Rattle.bosh_base.specs.declared.owner.Owner.TheVariants.{Compile}
use Rattle.bosh_fold.specs.Calls.{machine_name}
use Rattle.bosh_history.specs.Items.{is_leftover}
use Rattle.bosh_history.specs.Known.{Known, Slot, SlotName}
use Rattle.bosh_history.specs.Orders.{same_slot}
use Rattle.bosh_history.specs.Slots.{is_compiled}
use Rattle.bosh_history.specs.Words.{holds, is_among}
use Rattle.bosh_records.specs.Readers.{machine_cmp}
use Rattle.bosh_records.specs.Recorded.{Recorded}
use Rattle.bosh_records.specs.Table as table
use Rattle.bosh_records.specs.Table.{changed, each_thing, found, thing_in}
use Rattle.bosh_records.specs.declared.machines.Machine.{Machine}
use Rattle.bosh_work.specs.Finished.{is_machine, stands_at, without_swept}
use Rattle.bosh_work.specs.Line.{finished_line, given_line}
use Rattle.bosh_work.specs.Work.{without_machine}
use Rattle.bosh_work.specs.declared.line.Line.{Line}
use Rattle.bosh_work.specs.declared.part.MachineName.{MachineName}
use Rattle.bosh_work.specs.declared.work.Work.{Work}
use Rattle.laws_stands.proofs.LineLemmas.{stands_finished, stands_on}
use Rattle.laws_stands.proofs.MarkLemmas.{marks_of_one, placed}
use Rattle.laws_stands.proofs.PremiseLemmas.{none_at}
use Rattle.laws_stands.specs.LineStands.{LineStands, place_of}
use Rattle.laws_stands.specs.Linked.{same_machine}
use Rattle.laws_stands.specs.Reading.{machine_of, work_of}
use Rattle.laws_stands.specs.Stands.{AreSwept, IsWork, StandsIn, key_of_slot, key_place, row_of_slot}
use Rattle.laws_stands.specs.Told.{Told, is_going, is_idle}
use Rattle.laws_stands.specs.WorkStands.{StandsFor, is_worked_for, keys_in}
use Rattle.laws_stands_ends.proofs.DroppedToldLemmas.{keys_given, none_placed, same_slot_is, slot_now, some_there}
use Rattle.laws_stands_ends.proofs.DroppedToldLemmas.{swept_now, worked_other}
use Rattle.laws_stands_ends.proofs.WithoutLemmas.{count_fewer, count_stays}
use Rattle.laws_stands_ends.specs.Dropping.{AllowsDrop, told_dropped}
use Rattle.laws_stands_on.proofs.ChangedLemmas.{each_found, eqb_flip}
use Rattle.laws_stands_on.proofs.LinkLemmas.{ListsSame}
use Rattle.laws_stands_on.proofs.TableLemmas.{nat_at, nat_keys, thing_changed}
use Rattle.laws_stands_on.proofs.TaskLemmas.{dep_recorded}
use Rattle.laws_stands_on.proofs.WorksLemmas.{of_task, of_task_is}
use Rattle.laws_stands_slots.proofs.SlotTableLemmas.{same_machine_is}
use Rattle.laws_stands_slots.proofs.SweptLemmas.{swept_never, swept_once}
use Rattle.laws_stands_slots.specs.Slots.{named}

-- ---- what is recorded

-- the work of its task
abbrev pub less : Machine → Work → Work
less machine work = without_machine work machine.key

-- what is left to sweep, where it has a place
abbrev pub line_by : MachineName → Option ℕ → Line MachineName → Line MachineName
line_by name (Some place) line =
    if stands_at (is_machine name) place line then finished_line line (Some place) else line
line_by name None line = line

abbrev pub swept_works : MachineName → Option ℕ → List (ℕ × Option Work) → List (ℕ × Option Work)
swept_works name (Some place) works = each_thing (without_swept name place) works
swept_works name None works = works

module _ (t s : ℕ) (machine : Machine) where
  -- how each work changes
  abbrev pub change : ℕ → Work → Work
  change u work = record (of_task t (less machine) u work) {
    sweep = line_by (machine_name t s) machine.sweep work.sweep;
  }

  -- each lists what it listed
  pub lists_same : (u : ℕ) (w : Work) → ListsSame (change u w) w
  lists_same u w = record {
    pings = part (λ work. work.pings.items) (λ work. refl);
    obsolete = part (λ work. work.obsolete.items) (λ work. refl);
    changed = part_list (eqb t u);
    sweep = items machine.sweep;
    disks = part (λ work. work.disks.items) (λ work. refl);
  }
    where
      part : {X : Type 0} (read : Work → X) → ((work : Work) → read (less machine work) ≡ read work)
          → read (of_task t (less machine) u w) ≡ read w
      part read same = by (eqb t u)
        where
          by : (b : Bool) → read (if b then less machine w else w) ≡ read w
          by true = same w
          by false = refl

      part_list : (b : Bool) → (if b then less machine w else w).changed ≡ w.changed
      part_list true = refl
      part_list false = refl

      items : (o : Option ℕ) → (line_by (machine_name t s) o w.sweep).items ≡ w.sweep.items
      items None = refl
      items (Some place) = by (stands_at (is_machine (machine_name t s)) place w.sweep)
        where
          by : (b : Bool) → (if b then finished_line w.sweep (Some place) else w.sweep).items ≡ w.sweep.items
          by true = refl
          by false = refl

module _ (it : Recorded) (t s : ℕ) (machine : Machine) where
  abbrev pub recorded_now : Recorded
  recorded_now = record it {
    machines = table.without machine_cmp (machine_name t s) it.machines;
    works = swept_works (machine_name t s) machine.sweep (changed nat_cmp t (less machine) it.works);
  }

  pub work_is : (u : ℕ) → work_of recorded_now u ≡ option_map (change t s machine u) (work_of it u)
  work_is u = by machine.sweep (changed nat_cmp t (less machine) it.works)
      ∙ ap (option_map (λ (work : Work). record work { sweep = line_by (machine_name t s) machine.sweep work.sweep }))
      (thing_changed nat_cmp nat_keys t (less machine) it.works u
      ∙ (λ j. if nat_at t u j then option_map (less machine) (work_of it u) else work_of it u)
      ∙ of_task_is t (less machine) u (work_of it u))
      ∙ both (work_of it u)
    where
      by : (o : Option ℕ) (works : List (ℕ × Option Work)) → thing_in nat_cmp (swept_works (machine_name t s) o works) u
          ≡ option_map (λ (work : Work). record work { sweep = line_by (machine_name t s) o work.sweep })
          (thing_in nat_cmp works u)
      by (Some place) works = each_found (without_swept (machine_name t s) place) works u
      by None works = same (thing_in nat_cmp works u)
        where
          same : (o : Option Work) → o ≡ option_map (λ (work : Work). record work { sweep = work.sweep }) o
          same (Some work) = refl
          same None = refl

      kept : (b : Bool) (work : Work) → (if b then less machine work else work).sweep ≡ work.sweep
      kept true work = refl
      kept false work = refl

      both : (o : Option Work)
          → option_map (λ (work : Work). record work { sweep = line_by (machine_name t s) machine.sweep work.sweep })
          (option_map (of_task t (less machine) u) o) ≡ option_map (change t s machine u) o
      both (Some work) = λ j. Some (record (of_task t (less machine) u work) {
        sweep = line_by (machine_name t s) machine.sweep (kept (eqb t u) work j);
      })
      both None = refl

-- ---- what it stands for

module _ (told : Told) (it : Recorded) (t s : ℕ) (allows : AllowsDrop told t s) (stands : StandsIn told it)
    (machine : Machine) (is : machine_of it (record { task = t; slot = s }) ≡ Some machine) where
  abbrev k : Known
  k = told.known

  abbrev name : MachineName
  name = record { task = t; slot = s }

  abbrev new : Told
  new = told_dropped t s told

  row_is : machine.row ≡ row_of_slot t s allows.row
  row_is =
      let e : Some machine.row ≡ Some (row_of_slot t s allows.row) =
      ap (option_map (λ (machine : Machine). machine.row)) (sym is) ∙ stands.machines name
      ∙ ap (option_map (row_of_slot t s)) allows.there in cc

  key_is : told.snapped < t → machine.key ≡ key_place k t (allows.row).key
  key_is later = ap (option_and_then (λ (machine : Machine). machine.key)) (sym is) ∙ stands.machine_keys name later
      ∙ ap (λ slot. key_place k t (key_of_slot slot)) allows.there

  -- it is finished where it is swept
  line_is : (u : ℕ) (swept : List MachineName) (work : Work) → work_of it u ≡ Some work → is_going k u ≡ true
      → AreSwept k u swept → work.sweep.items ≡ swept
      → line_by name machine.sweep work.sweep ≡ finished_line work.sweep (place_of same_machine name swept)
  line_is u swept work there going are items = by (is_leftover k u (named t s)) refl
    where
      flip : (x : MachineName) → is_machine name x ≡ same_machine name x
      flip x = λ j. eqb_flip x.task t j && eqb_flip x.slot s j

      at_it : (o : Option ℕ) → place_of same_machine name swept ≡ o
          → line_by name o work.sweep ≡ finished_line work.sweep o
      at_it None placed_at = refl
      at_it (Some place) placed_at =
          let p : (x : MachineName) × (slice_get swept place ≡ Some x) × (same_machine name x ≡ true) =
          placed (same_machine name) swept place placed_at in
          λ j. if (ap (λ xs. option_map_or (is_machine name) (slice_get xs place) false) items
          ∙ ap (λ o. option_map_or (is_machine name) o false) p.1 ∙ flip p.0 ∙ p.2) j
          then finished_line work.sweep (Some place) else work.sweep

      never : is_among same_machine name swept ≡ false → (o : Option ℕ) → line_by name o work.sweep ≡ work.sweep
      never none None = refl
      never none (Some place) = λ j. if (ap (λ xs. option_map_or (is_machine name) (slice_get xs place) false) items
          ∙ away (slice_get swept place) refl) j then finished_line work.sweep (Some place) else work.sweep
        where
          away : (o : Option MachineName) → slice_get swept place ≡ o → option_map_or (is_machine name) o false ≡ false
          away (Some x) at_place = flip x ∙ none_at (same_machine name) swept place x none at_place
          away None at_place = refl

      by : (b : Bool) → is_leftover k u (named t s) ≡ b
          → line_by name machine.sweep work.sweep ≡ finished_line work.sweep (place_of same_machine name swept)
      by false not_left =
          let none : is_among same_machine name swept ≡ false =
          swept_never k u swept are name (some_there told t s allows) not_left in
          never none machine.sweep ∙ ap (finished_line work.sweep) (sym (none_placed same_machine name swept none))
      by true left =
          ap (λ o. line_by name o work.sweep) (stands.linked.sweeps u work name machine there is
          (dep_recorded told it u stands going ∙ dep_is ∙ (λ j. Some (sym row_is j).dep))
          ∙ ap (place_of same_machine name) items)
          ∙ at_it (place_of same_machine name swept) refl
        where
          same_dep : option_eq bytes_eq (Some (allows.row).dep) (k.task u).dep ≡ true
          same_dep =
              ap (holds (λ (slot : Slot). option_eq bytes_eq (Some slot.dep) (k.task u).dep)) (sym allows.there)
              ∙ (and_parts (not (t == u))
              (holds (λ (slot : Slot). option_eq bytes_eq (Some slot.dep) (k.task u).dep) (k.slot t s)) left).1

          dep_is : (k.task u).dep ≡ Some (allows.row).dep
          dep_is = of (k.task u).dep refl same_dep
            where
              of : (o : Option (List ℕ)) → (k.task u).dep ≡ o → option_eq bytes_eq (Some (allows.row).dep) o ≡ true
                  → (k.task u).dep ≡ Some (allows.row).dep
              of None its same = absurd (false≢true same)
              of (Some dep) its same =
                  its ∙ ap Some (sym ((bytes_eq-Decides (allows.row).dep dep).0 same))

  sweep_now : (u : ℕ) (swept : List MachineName) (work : Work) → AreSwept k u swept
      → LineStands swept (λ x. is_some (k.slot x.task x.slot)) (λ x. is_idle told (Compile x.task x.slot)) work.sweep
      → LineStands swept (λ x. is_some (new.known.slot x.task x.slot)) (λ x. is_idle new (Compile x.task x.slot))
      (finished_line work.sweep (place_of same_machine name swept))
  sweep_now u swept work are line =
      stands_finished same_machine same_machine_is swept name
      (marks_of_one same_machine name swept (swept_once k u swept are name (some_there told t s allows) allows.once))
      (λ x. is_some (k.slot x.task x.slot)) (λ x. is_idle told (Compile x.task x.slot))
      (λ x. is_some (new.known.slot x.task x.slot)) (λ x. is_idle new (Compile x.task x.slot)) work.sweep
      (λ x. ap is_some (slot_now told t s allows x.task x.slot) ∙ by (same_machine name x) (k.slot x.task x.slot))
      (λ x. refl) line
    where
      by : (b : Bool) (o : Option Slot) → is_some (if b then None else o) ≡ (if b then false else is_some o)
      by true o = refl
      by false o = refl

  counted : (u : ℕ) → eqb t u ≡ false → count_by (λ (x : SlotName). x.task == u) new.known.machines
      ≡ count_by (λ (x : SlotName). x.task == u) k.machines
  counted u other = count_stays same_slot same_slot_is (named t s) (λ (x : SlotName). x.task == u) other k.machines

  fewer : count_by (λ (x : SlotName). x.task == t) k.machines
      ≡ count_by (λ (x : SlotName). x.task == t) new.known.machines + 1
  fewer = count_fewer same_slot same_slot_is (named t s) (λ (x : SlotName). x.task == t) (eq-eqb t t refl) k.machines
      allows.once

  -- the work of another task
  other_stands : (u : ℕ) (swept : List MachineName) (work : Work) → eqb t u ≡ false → AreSwept k u swept
      → StandsFor told (k.task u) u swept work
      → StandsFor new (k.task u) u swept
      (record work { sweep = finished_line work.sweep (place_of same_machine name swept) })
  other_stands u swept work other are work_stands = record {
    task_is = work_stands.task_is;
    pings = work_stands.pings;
    obsolete = work_stands.obsolete;
    disks = work_stands.disks;
    sweep = sweep_now u swept work are work_stands.sweep;
    keys = stands_on (keys_in (k.task u).goal) (λ key. not (is_compiled k key)) (λ key. not (is_worked_for k u key))
        (λ key. not (is_compiled k key)) (λ key. not (is_worked_for new.known u key)) work.keys (λ key. refl)
        (λ key. ap not (worked_other told t s allows u other key)) work_stands.keys;
    slots_are = work_stands.slots_are;
    machines_are = work_stands.machines_are ∙ sym (counted u other);
    changed_are = work_stands.changed_are;
    groups_stand = work_stands.groups_stand;
    failed_is = work_stands.failed_is;
    open_are = work_stands.open_are;
  }

  -- .. and of its own
  own_stands : (swept : List MachineName) (work : Work) → is_going k t ≡ true → told.snapped < t → AreSwept k t swept
      → StandsFor told (k.task t) t swept work
      → StandsFor new (k.task t) t swept
      (record (less machine work) { sweep = finished_line work.sweep (place_of same_machine name swept) })
  own_stands swept work going later are work_stands = record {
    task_is = work_stands.task_is;
    pings = work_stands.pings;
    obsolete = work_stands.obsolete;
    disks = work_stands.disks;
    sweep = sweep_now t swept work are work_stands.sweep;
    keys = subst (λ place. LineStands (keys_in (k.task t).goal) (λ key. not (is_compiled k key))
        (λ key. not (is_worked_for new.known t key)) (given_line work.keys place)) (sym (key_is later))
        (keys_given told t s allows going work.keys work_stands.keys);
    slots_are = work_stands.slots_are;
    machines_are = ap (λ c. c - 1) (work_stands.machines_are ∙ fewer)
        ∙ one_less (count_by (λ (x : SlotName). x.task == t) new.known.machines);
    changed_are = work_stands.changed_are;
    groups_stand = work_stands.groups_stand;
    failed_is = work_stands.failed_is;
    open_are = work_stands.open_are;
  }
    where
      one_less : (c : ℕ) → (c + 1) - 1 ≡ c
      one_less c = omega arith

  work_stands_on : (u : ℕ) (swept : List MachineName) (work : Work) → work_of it u ≡ Some work
      → is_going k u ≡ true → told.snapped < u → AreSwept k u swept → StandsFor told (k.task u) u swept work
      → StandsFor new (k.task u) u swept (change t s machine u work)
  work_stands_on u swept work there going later are work_stands =
      subst (λ line. StandsFor new (k.task u) u swept (record (of_task t (less machine) u work) { sweep = line }))
      (sym (line_is u swept work there going are (work_stands.sweep).items_are)) (by (eqb t u) refl)
    where
      own : t ≡ u → StandsFor new (k.task u) u swept (record (less machine work) {
        sweep = finished_line work.sweep (place_of same_machine name swept);
      })
      own same = subst (λ u. is_going k u ≡ true → told.snapped < u → AreSwept k u swept
          → StandsFor told (k.task u) u swept work
          → StandsFor new (k.task u) u swept (record (less machine work) {
            sweep = finished_line work.sweep (place_of same_machine name swept);
          })) same
          (own_stands swept work) going later are work_stands

      by : (b : Bool) → eqb t u ≡ b
          → StandsFor new (k.task u) u swept (record (if b then less machine work else work) {
            sweep = finished_line work.sweep (place_of same_machine name swept);
          })
      by true same = own (eqb-true t u same)
      by false other = other_stands u swept work other are work_stands

  pub works : (u : ℕ) → IsWork new u (work_of (recorded_now it t s machine) u)
  works u = subst (IsWork new u) (sym (work_is it t s machine u)) (by (work_of it u) refl (stands.works u))
    where
      by : (o : Option Work) → work_of it u ≡ o → IsWork told u o → IsWork new u (option_map (change t s machine u) o)
      by (Some work) there (going, later, (swept, work_stands, are)) = (
        going,
        later,
        (swept, work_stands_on u swept work there going later are work_stands, swept_now told t s allows u swept are),
      )
      by None there gone = gone
