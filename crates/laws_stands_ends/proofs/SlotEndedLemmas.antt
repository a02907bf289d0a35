-- A call of a compile machine ends that compiles nothing.
use Rattle.std.proofs.Common.{◌&&◌, ◌∙◌, ◌≡◌, Bool, List, None, Option, Some, ap, false, refl, subst, sym, true, ℕ}
use Rattle.std.proofs.lemmas.Bool.{eq-eqb}
use Rattle.std.specs.List.Sorted.{IsStrictlySortedBy}
use Rattle.std.specs.Map.{keys_of}
use Rattle.std.specs.Option.{option_and_then, option_map}
use Rattle.std.specs.Ordering.{nat_cmp}
use Rattle.std.specs.Prelude.{if◌then◌else◌, eqb}
use Rattle.bosh_base.specs.declared.answer.Answer.{Answer}
use Rattle.bosh_base.specs.declared.answer.Answer.TheVariants as answers
use Rattle.bosh_base.specs.declared.call.Call.{Call}
use Rattle.bosh_base.specs.declared.call.Call.TheVariants.{CompilePackage, CreateVm, DeleteVm, FindVm, HasVm, Ping}
use Rattle.bosh_base.specs.declared.entry.Begin.{Begin}
use Rattle.bosh_base.specs.declared.entry.End.{End}
use Rattle.bosh_base.specs.declared.entry.Entry.TheVariants as entries
use Rattle.bosh_base.specs.declared.key.Key.{Key}
use Rattle.bosh_base.specs.declared.owner.Owner.TheVariants.{Compile}
use Rattle.bosh_base.specs.declared.task.TaskEnd.{TaskEnd}
use Rattle.bosh_compile.specs.Readiness.{same_key}
use Rattle.bosh_fold.specs.Calls.{built_in, dropped_machine, ended_by, ended_in, machine_name, machine_told, swept_in}
use Rattle.bosh_history.specs.Calls.{call_ended, least_failure, slot_answered, task_after_ping, task_told}
use Rattle.bosh_history.specs.Calls as known_calls
use Rattle.bosh_history.specs.Known.{Known, Slot, Task}
use Rattle.bosh_history.specs.Slots.{slot_after, slot_told}
use Rattle.bosh_history.specs.Steps.{compiles}
use Rattle.bosh_history.specs.Words.{at}
use Rattle.bosh_plan.specs.Ended.{ended_of, is_told}
use Rattle.bosh_plan.specs.Ended as planned
use Rattle.bosh_plan.specs.declared.ending.After.TheVariants as afters
use Rattle.bosh_plan.specs.declared.ending.Ended.{Ended}
use Rattle.bosh_plan.specs.declared.ending.Told as tellings
use Rattle.bosh_plan.specs.declared.ending.Told.TheVariants.{Absent, Nothing, There}
use Rattle.bosh_records.specs.Changes.{with_machine_call, with_pinged}
use Rattle.bosh_records.specs.Keys.{key_cmp}
use Rattle.bosh_records.specs.Ordered.{AreOrdered}
use Rattle.bosh_records.specs.Readers.{machine_cmp}
use Rattle.bosh_records.specs.Recorded.{Recorded}
use Rattle.bosh_records.specs.Table.{changed, thing_in, without}
use Rattle.bosh_records.specs.declared.machines.Machine.{Machine}
use Rattle.bosh_records.specs.declared.records.Records.{Records}
use Rattle.bosh_rows.specs.SoundSnapshot.{are_distinct}
use Rattle.bosh_work.specs.Part.{no_part}
use Rattle.bosh_work.specs.Work.{failed_by, given, without_machine}
use Rattle.bosh_work.specs.declared.part.Places.{Places}
use Rattle.bosh_work.specs.declared.work.Work.{Work}
use Rattle.laws_stands.specs.Stands.{Stands, StandsIn, StandsInOrder}
use Rattle.laws_stands.specs.Told.{Told, is_idle, telling}
use Rattle.laws_stands.specs.WorkStands.{keys_in}
use Rattle.laws_stands_ends.proofs.SlotDroppedLemmas.{slot_dropped}
use Rattle.laws_stands_ends.specs.Dropping.{AllowsDrop, AllowsGoing}
use Rattle.laws_stands_on.proofs.AnsweredLemmas.{none_built, none_known, takes_ping}
use Rattle.laws_stands_on.proofs.OnlyCallLemmas.{ended_works, going_same, has_begun, idle_as, task_same}
use Rattle.laws_stands_on.proofs.TableLemmas.{altered_keys}
use Rattle.laws_stands_slots.proofs.CompilationEndedLemmas.{after_compilation}
use Rattle.laws_stands_slots.proofs.SlotClosedLemmas.{ended, ended_is, ended_stands}
use Rattle.laws_stands_slots.proofs.SlotTableLemmas.{slot_same}
use Rattle.laws_stands_slots.proofs.SlotToldLemmas.{slot_shown}
use Rattle.laws_stands_slots.specs.Slots.{AllowsSlot, AreKeysApart, slot_there, told_closed, told_slot}

-- what is told of a machine
abbrev slot_by : tellings.Told → Slot → Option Slot
slot_by Nothing it = Some it
slot_by (There vm) it = Some (slot_there vm it)
slot_by Absent it = None

said_as : (n : ℕ) (call : Call) (answer : Answer) (it : Slot)
    → slot_told n call answer it ≡ slot_by (planned.machine_told n call answer) it
said_as n (CreateVm make disks) (answers.Cid v) it = refl
said_as n (CreateVm make disks) answer it = refl
said_as n (FindVm agent) (answers.Found (Some v)) it = refl
said_as n (FindVm agent) (answers.Found None) it = refl
said_as n (FindVm agent) answer it = refl
said_as n (DeleteVm vm) answers.Done it = refl
said_as n (DeleteVm vm) answers.Gone it = refl
said_as n (DeleteVm vm) answer it = refl
said_as n (HasVm vm) answers.No it = refl
said_as n (HasVm vm) answers.Yes it = refl
said_as n (HasVm vm) answer it = refl
said_as n call answer it = refl

no_ping : (call : Call) (answer : Answer) (t s : ℕ) (task : Task)
    → task_after_ping call answer (Compile t s) task ≡ task
no_ping (Ping vm) answers.Failed t s task = refl
no_ping (Ping vm) answer t s task = refl
no_ping call answer t s task = refl

module _ (told : Told) (was : Records) (it : Recorded) (n number worker : ℕ) (call : Call) (answer : Answer) (t s : ℕ)
    (only : told.calls number
    ≡ Some (record { n = number; task = n; worker = worker; owner = Compile t s; call = call }))
    (allows : AllowsSlot told n t s) (plain : (key : Key) → compiles key call ≡ false)
    (apart : AreKeysApart told) (goes : AllowsGoing told t s allows.row) (stood : Stands told was)
    (stands : StandsIn told it) where
  abbrev b : Begin
  b = record { n = number; task = n; worker = worker; owner = Compile t s; call = call }

  abbrev e : End
  e = record { n = number; answer = answer }

  abbrev k : Known
  k = told.known

  abbrev closed : Told
  closed = told_closed b answer told

  told_is : (o : Option Slot) → slot_after number call answer (k.slot t s) ≡ o
      → telling told (entries.End e)
      ≡ record closed { known = record (slot_answered t s o k) { task = closed.known.task } }
  told_is o is = λ j. record { known = known_is j; calls = at eqb number None told.calls; snapped = told.snapped }
    where
      known_is : call_ended answer (k.begun number) k ≡ record (slot_answered t s o k) { task = closed.known.task }
      known_is =
          ap (λ o. call_ended answer o k) (has_begun told it b answer (k.task n).pinged only stands)
          ∙ (λ j. record (known_calls.compiles call answer (slot_answered t s (is j) k)) {
            task = at eqb n (task_told k b answer (k.task n)) k.task;
          })
          ∙ (λ j. record (none_known call answer (slot_answered t s o k) plain j) {
            task = at eqb n (task_told k b answer (k.task n)) k.task;
          })
          ∙ (λ j. record (slot_answered t s o k) {
            task = at eqb n (record (no_ping call answer t s (k.task n) j) {
              failed = least_failure (k.task n).failed (known_calls.failure_of k b answer);
            }) k.task;
          })

  abbrev plan : Ended
  plan = record {
    n = number;
    after = Some (afters.Other (planned.machine_told number call answer));
    failed = planned.failure_of was answer b;
    built = planned.built_by answer;
    is_asked = is_told answer;
  }

  plan_is : ended_of was e ≡ plan
  plan_is = λ j. record {
    n = number;
    after = ap (option_and_then (planned.after_by was answer)) (stood.calls number ∙ only) j;
    failed = ap (option_and_then (planned.failure_of was answer)) (stood.calls number ∙ only) j;
    built = planned.built_by answer;
    is_asked = is_told answer;
  }

  abbrev over : Recorded
  over = ended told was it n number worker call answer t s only allows stands

  over_is : ended_in plan it ≡ machine_told (machine_name t s) (planned.machine_told number call answer) over
  over_is =
      ap (λ o. ended_by o plan (record it { calls = without nat_cmp number it.calls })) (stands.calls number ∙ only)
      ∙ (λ j. built_in call (planned.built_by answer)
      (machine_told (machine_name t s) (planned.machine_told number call answer)
      (ended_is told was it n number worker call answer t s only allows stands j)))
      ∙ none_built call (planned.built_by answer)
      (machine_told (machine_name t s) (planned.machine_told number call answer) over) plain

  over_stands : StandsInOrder closed over
  over_stands = ended_stands told was it n number worker call answer t s only allows stands

  slot_is : slot_after number call answer (k.slot t s) ≡ slot_by (planned.machine_told number call answer) allows.row
  slot_is = ap (option_and_then (slot_told number call answer)) allows.there
      ∙ said_as number call answer allows.row

  -- ---- the order of keys before the machine is told of

  abbrev dropped : Machine → Recorded
  dropped machine = record over {
    machines = without machine_cmp (machine_name t s) over.machines;
    works = changed nat_cmp t (λ work. without_machine work machine.key) over.works;
  }

  same_calls : (said : tellings.Told) → (machine_told (machine_name t s) said over).calls ≡ over.calls
  same_calls Nothing = refl
  same_calls (There vm) = refl
  same_calls Absent = by (thing_in machine_cmp over.machines (machine_name t s))
    where
      swept : (o : Option ℕ) (x : Recorded) → (swept_in (machine_name t s) o x).calls ≡ x.calls
      swept (Some place) x = refl
      swept None x = refl

      by : (o : Option Machine) → (dropped_machine (machine_name t s) o over).calls ≡ over.calls
      by (Some machine) = swept machine.sweep (dropped machine)
      by None = refl

  same_keys : (said : tellings.Told) → (machine_told (machine_name t s) said over).keys ≡ over.keys
  same_keys Nothing = refl
  same_keys (There vm) = refl
  same_keys Absent = by (thing_in machine_cmp over.machines (machine_name t s))
    where
      swept : (o : Option ℕ) (x : Recorded) → (swept_in (machine_name t s) o x).keys ≡ x.keys
      swept (Some place) x = refl
      swept None x = refl

      by : (o : Option Machine) → (dropped_machine (machine_name t s) o over).keys ≡ over.keys
      by (Some machine) = swept machine.sweep (dropped machine)
      by None = refl

  abbrev places : Places
  places = record {
    part = no_part;
    sweep = option_and_then (λ machine. machine.sweep) (thing_in machine_cmp
        (changed machine_cmp (machine_name t s) (with_machine_call None) it.machines) (machine_name t s));
    deleting = None;
  }

  abbrev fail : Option TaskEnd
  fail = planned.failure_of was answer b

  abbrev given_works : List (ℕ × Option Work)
  given_works = changed nat_cmp n (λ work. given work places) it.works

  works_order : (asked : Bool) → keys_of it.works ≡ keys_of (ended_works n asked places fail it.works)
  works_order true =
      sym (altered_keys nat_cmp n (option_map (λ work. failed_by work fail))
      (changed nat_cmp n (with_pinged places.part.ping) given_works)
      ∙ altered_keys nat_cmp n (option_map (with_pinged places.part.ping)) given_works
      ∙ altered_keys nat_cmp n (option_map (λ work. given work places)) it.works)
  works_order false =
      sym (altered_keys nat_cmp n (option_map (λ work. failed_by work fail)) given_works
      ∙ altered_keys nat_cmp n (option_map (λ work. given work places)) it.works)

  in_order : (said : tellings.Told) → AreOrdered (machine_told (machine_name t s) said over) → AreOrdered over
  in_order said ordered = record {
    deployments = (stands.ordered).deployments;
    instances = (stands.ordered).instances;
    machines = subst (IsStrictlySortedBy machine_cmp)
        (sym (altered_keys machine_cmp (machine_name t s) (option_map (with_machine_call None)) it.machines))
        (stands.ordered).machines;
    orphans = (stands.ordered).orphans;
    keys = subst (λ keys. IsStrictlySortedBy key_cmp (keys_of keys)) (same_keys said) ordered.keys;
    tasks = (stands.ordered).tasks;
    works = subst (IsStrictlySortedBy nat_cmp) (works_order (takes_ping call (is_told answer)))
        (stands.ordered).works;
    calls = subst (λ calls. IsStrictlySortedBy nat_cmp (keys_of calls)) (same_calls said) ordered.calls;
  }

  -- ---- what is told of the machine

  drops : AllowsDrop closed t s
  drops = record {
    row = allows.row;
    there = allows.there;
    once = allows.once;
    idle = idle_as told it b answer (k.task n).pinged only stands (Compile t s)
        ∙ (λ j. if eq-eqb t t refl j && eq-eqb s s refl j then true else is_idle told (Compile t s));
    dep = λ going. task_same told it b answer (k.task n).pinged only stands (λ it. it.dep) refl t
        ∙ goes.dep (sym (going_same told it b answer (k.task n).pinged only stands t) ∙ going);
    keys = λ going. task_same told it b answer (k.task n).pinged only stands
        (λ it. are_distinct same_key (keys_in it.goal)) refl t
        ∙ apart t (sym (going_same told it b answer (k.task n).pinged only stands t) ∙ going);
    alone = λ key is going. goes.alone key is
        (sym (going_same told it b answer (k.task n).pinged only stands t) ∙ going);
  }

  by : (said : tellings.Told)
      → StandsInOrder (record closed {
        known = record (slot_answered t s (slot_by said allows.row) k) {
          task = closed.known.task;
        };
      }) (machine_told (machine_name t s) said over)
  by Nothing = subst (λ (slots : ℕ → ℕ → Option Slot). StandsInOrder (record closed {
    known = record closed.known {
      slot = slots;
    };
  }) over) (sym (λ j u r. slot_same (λ slot. slot) t s (Some allows.row) k.slot (sym allows.there) u r j))
      over_stands
  by (There vm) =
      subst (λ (slot : Option Slot). StandsInOrder (told_slot t s (option_map (slot_there vm) slot) closed)
      (machine_told (machine_name t s) (There vm) over)) allows.there
      (λ ordered. slot_shown closed over t s vm (over_stands (in_order (There vm) ordered)) ordered)
  by Absent = λ ordered. slot_dropped closed over t s drops (over_stands (in_order Absent ordered)) ordered

  pub after_plain_end : StandsInOrder (telling told (entries.End e)) (ended_in (ended_of was e) it)
  after_plain_end =
      subst (λ (plan : Ended). StandsInOrder (telling told (entries.End e)) (ended_in plan it)) (sym plan_is)
      (subst (StandsInOrder (telling told (entries.End e))) (sym over_is)
      (subst (λ (new : Told). StandsInOrder new
      (machine_told (machine_name t s) (planned.machine_told number call answer) over))
      (sym (told_is (slot_by (planned.machine_told number call answer) allows.row) slot_is))
      (by (planned.machine_told number call answer))))

-- ---- any call

pub after_slot_end : (told : Told) (was : Records) (it : Recorded) (n number worker : ℕ) (call : Call)
    (answer : Answer) (t s : ℕ) (only : told.calls number
    ≡ Some (record { n = number; task = n; worker = worker; owner = Compile t s; call = call }))
    (allows : AllowsSlot told n t s) → AreKeysApart told → AllowsGoing told t s allows.row → Stands told was
    → StandsIn told it
    → StandsInOrder (telling told (entries.End (record { n = number; answer = answer })))
    (ended_in (ended_of was (record { n = number; answer = answer })) it)
after_slot_end told was it n number worker (CompilePackage vm work deps) answer t s only allows apart goes stood
    stands =
    after_compilation told was it n number worker vm work deps answer t s only allows apart stood stands
after_slot_end told was it n number worker call answer t s only allows apart goes stood stands =
    after_plain_end told was it n number worker call answer t s only allows (λ key. refl) apart goes stood stands
