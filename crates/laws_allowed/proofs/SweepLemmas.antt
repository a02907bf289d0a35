-- The beginning of a call for a compile machine that an earlier task left, which may be noted, is allowed.
use Rattle.std.proofs.Common.{◌≡◌, ◌≢◌, ◌∙◌, ℕ, ◌<◌, Bool, true, false, not, List, Option, Some, None}
use Rattle.std.proofs.Common.{ap, refl, sym, subst, arith}
use Rattle.std.specs.Prelude.{◌==◌, is_some, if◌then◌else◌}
use Rattle.std.specs.Option.{option_and_then, option_eq, option_map}
use Rattle.std.specs.Str.{bytes_eq}
use Rattle.std.proofs.lemmas.Bool.{and_parts, eqb-true, false≢true}
use Rattle.bosh_base.specs.declared.entry.Begin.{Begin}
use Rattle.bosh_base.specs.declared.entry.Entry.TheVariants as entries
use Rattle.bosh_base.specs.declared.owner.Owner.TheVariants.{Compile}
use Rattle.bosh_base.specs.declared.row.Doubt.{Doubt}
use Rattle.bosh_base.specs.declared.row.Vm.{Vm}
use Rattle.bosh_base.specs.declared.snapshot.CompileRow.{CompileRow}
use Rattle.bosh_claim.specs.Beginning.{begins, call_for, is_free_at, sweep_for, sweep_in}
use Rattle.bosh_claim.specs.Phase.{present}
use Rattle.bosh_claim.specs.Sweep as sweeps
use Rattle.bosh_history.specs.Items.{is_leftover, is_slot_left, none_left_before, phase_of}
use Rattle.bosh_history.specs.Known.{Known, Slot, SlotName, Task}
use Rattle.bosh_history.specs.Moments.{Moment}
use Rattle.bosh_history.specs.Notes.{Begins}
use Rattle.bosh_history.specs.Orders.{same_slot}
use Rattle.bosh_history.specs.Recovered.{may_follow}
use Rattle.bosh_history.specs.Steps.{call_now, is_idle, own_slot, sweep_by, sweep_call}
use Rattle.bosh_history.specs.Words.{holds, is_among}
use Rattle.bosh_records.specs.Readers.{machine_at}
use Rattle.bosh_records.specs.declared.machines.Machine.{Machine}
use Rattle.bosh_records.specs.declared.records.Records.{Records}
use Rattle.bosh_rows.specs.Standing.{same_truth}
use Rattle.bosh_work.specs.declared.part.MachineName.{MachineName}
use Rattle.laws_allowed.proofs.BeginLemmas.{begins_by, choosing, free_at}
use Rattle.laws_allowed.proofs.ListedLemmas.{kept_in, machine_is, slot_name}
use Rattle.laws_allowed.proofs.PresentLemmas.{sweeps_now}
use Rattle.laws_allowed.proofs.WorkingLemmas.{IsAtWork, at_work}
use Rattle.laws_choices.proofs.ReadLemmas.{dep_is}
use Rattle.laws_facts.proofs.CurrentLemmas.{done_works}
use Rattle.laws_facts.specs.KnownFacts.{KnownFacts}
use Rattle.laws_facts.specs.Owners.{works}
use Rattle.laws_items.proofs.ListLemmas.{among_is, holds_some, in_filtered}
use Rattle.laws_items.proofs.ListedLemmas.{WorksAt, works_at}
use Rattle.laws_items.specs.Lists.{IsIn}
use Rattle.laws_stands.proofs.MemberLemmas.{bytes_is}
use Rattle.laws_stands.specs.Agrees.{Agrees}
use Rattle.laws_stands.specs.Choosing.{CanChoose}
use Rattle.laws_stands.specs.Linked.{same_machine}
use Rattle.laws_stands.specs.LineStands.{place_of}
use Rattle.laws_stands.specs.Stands.{Stands, row_of_slot}
use Rattle.laws_stands.specs.Told.{Told}

same_sweep : (vm : Option Vm) (doubt : Option Doubt) → sweeps.sweep_by vm doubt ≡ sweep_by vm doubt
same_sweep None None = refl
same_sweep None (Some doubt) = refl
same_sweep (Some vm) None = refl
same_sweep (Some vm) (Some doubt) = refl

slot_is : (a b : SlotName) → same_slot a b ≡ true → a ≡ b
slot_is a b same = machine_as (and_parts (a.task == b.task) (a.slot == b.slot) same)
  where
    machine_as : ((a.task == b.task) ≡ true) × ((a.slot == b.slot) ≡ true) → a ≡ b
    machine_as (task, slot) = λ i. record { task = eqb-true a.task b.task task i; slot = eqb-true a.slot b.slot slot i }

truth_back : (a b : Bool) → same_truth a b ≡ true → b ≡ true → a ≡ true
truth_back true b same is = refl
truth_back false true same is = absurd (false≢true same)
truth_back false false same is = absurd (false≢true is)

dep_from : (dep : List ℕ) (own : Option (List ℕ)) → option_eq bytes_eq (Some dep) own ≡ true → own ≡ Some dep
dep_from dep (Some other) same = ap Some (sym (bytes_is dep other same))
dep_from dep None same = absurd (false≢true same)

module _ (m : Moment) (records : Records) (b : Begin) (at : IsAtWork m records b.task) (facts : KnownFacts m)
    (working : works m b.task ≡ true) (numbers : m.known.last_call < 18446744073709551615)
    (noted : Begins m b) (u s : ℕ) (own : b.owner ≡ Compile u s) (other : (u == b.task) ≡ false) where
  abbrev k : Known
  k = m.known

  abbrev t : Task
  t = m.known.task b.task

  abbrev name : MachineName
  name = record { task = u; slot = s }

  can : CanChoose m b.task records at.swept at.work
  can = choosing m records b at facts working numbers noted

  numbered : WorksAt m b.task
  numbered = works_at m b.task working

  call_is : sweep_call (k.slot u s) ≡ Some b.call
  call_is = (λ j. if sym other j then own_slot m b.task s (k.slot u s) else sweep_call (k.slot u s))
      ∙ ap (call_now m b.task) (sym own) ∙ noted.is_call

  item : holds (none_left_before k b.task) (if is_leftover k b.task (slot_name name) then Some 1 else None) ≡ true
  item =
      sym (ap (λ owner. holds (none_left_before k b.task) (phase_of k b.task owner)) own
      ∙ ap (λ c. holds (none_left_before k b.task) (if c then (if is_slot_left k b.task s then Some 2 else None)
      else (if is_leftover k b.task (slot_name name) then Some 1 else None))) other)
      ∙ noted.is_item

  left : is_leftover k b.task (slot_name name) ≡ true
  left = by (is_leftover k b.task (slot_name name)) item
    where
      by : (c : Bool) → holds (none_left_before k b.task) (if c then Some 1 else None) ≡ true → c ≡ true
      by true is = refl
      by false is = absurd (false≢true is)

  none : none_left_before k b.task 1 ≡ true
  none = sym (ap (λ c. holds (none_left_before k b.task) (if c then Some 1 else None)) left) ∙ item

  -- the machine is recorded, and of the task's deployment
  slot : (it : Slot) × (k.slot u s ≡ Some it) × (option_eq bytes_eq (Some it.dep) t.dep ≡ true)
  slot = holds_some (λ (it : Slot). option_eq bytes_eq (Some it.dep) t.dep) (k.slot u s)
      (and_parts (not (u == b.task)) _ left).1

  among : is_among same_machine name at.swept ≡ true
  among =
      kept_in (λ name. is_some (k.slot name.task name.slot)) at.swept name
      (subst (IsIn (slot_name name)) (sym at.are_swept)
      (in_filtered (is_leftover k b.task) (slot_name name) k.machines
      (among_is same_slot slot_is (slot_name name) k.machines
      (truth_back (is_among same_slot (slot_name name) k.machines) (is_some (k.slot u s))
      (facts.lists.machine_listed u s) (ap is_some slot.1)))
      left))

  sweeps_it : sweep_for records at.work u s ≡ Some b.call
  sweeps_it = by (machine_at records name) refl (can.machine_rows u s ∙ ap (option_map (row_of_slot u s)) slot.1)
    where
      of : (it : Machine) → machine_at records name ≡ Some it → it.row ≡ row_of_slot u s slot.0
          → sweep_for records at.work u s ≡ Some b.call
      of it there row =
          ap (option_and_then (sweep_in at.work)) there
          ∙ (λ j. if free j then sweeps.sweep_of it else None)
          ∙ (λ j. sweeps.sweep_by (row j).vm (row j).doubt) ∙ same_sweep slot.0.vm slot.0.doubt
          ∙ ap sweep_call (sym slot.1) ∙ call_is
        where
          free : is_free_at at.work.sweep it.sweep ≡ true
          free = free_at same_machine machine_is at.swept (λ name. is_some (k.slot name.task name.slot))
              (λ name. is_idle m (Compile name.task name.slot)) at.work.sweep name it.sweep can.sweep among
              (ap is_some slot.1) (ap (is_idle m) (sym own) ∙ noted.is_idle)
              (at.stands.linked.sweeps b.task at.work name it at.there there
              (dep_is m at.snapped records at.stands b.task numbered.low numbered.high
              ∙ dep_from slot.0.dep t.dep slot.2 ∙ ap Some (sym (ap (λ (row : CompileRow). row.dep) row)))
              ∙ ap (place_of same_machine name) at.work_stands.sweep.items_are)

      by : (o : Option Machine) → machine_at records name ≡ o
          → option_map (λ (it : Machine). it.row) o ≡ Some (row_of_slot u s slot.0)
          → sweep_for records at.work u s ≡ Some b.call
      by (Some it) there is = let row : it.row ≡ row_of_slot u s slot.0 = cc in of it there row
      by None there is = absurd cc

  pub call_begins : begins records b ≡ true
  call_begins =
      begins_by m records b at noted
      (ap (λ owner. option_and_then (λ phase. call_for records at.work phase owner) (present records at.work)) own
      ∙ ap (option_and_then (λ phase. call_for records at.work phase (Compile u s)))
      (sweeps_now m b.task records at.swept at.work can 1 none name among (ap is_some slot.1) (omega arith))
      ∙ sweeps_it)

pub begin_is_allowed : (m : Moment) (told : Told) (records : Records) (b : Begin) (u s : ℕ) → Stands told records
    → Agrees m told → KnownFacts m → m.known.last_call < 18446744073709551615 → b.owner ≡ Compile u s
    → u ≢ b.task → Begins m b
    → may_follow m (entries.Begin b) ≡ true → begins records b ≡ true
begin_is_allowed m told records b u s stands agrees facts numbers own differs noted follows =
    call_begins m records b (at_work m told records b.task facts stands agrees working) facts working numbers noted u s
    own (by (u == b.task) refl)
  where
    working : works m b.task ≡ true
    working = done_works m b.task follows noted.is_open

    by : (c : Bool) → (u == b.task) ≡ c → c ≡ false
    by true same = absurd (differs (eqb-true u b.task same))
    by false other = refl
