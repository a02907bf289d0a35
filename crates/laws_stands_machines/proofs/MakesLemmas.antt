-- A call that makes a compile machine begins.
use Rattle.std.proofs.Common.{◌≡◌, ◌∙◌, ◌+◌, ◌&&◌, ℕ, true, [], Some, None, refl, subst, sym}
use Rattle.std.specs.Prelude.{cond, count_by, is_some, option_map}
use Rattle.std.specs.List.Sorted.{IsStrictlySortedBy}
use Rattle.std.specs.Ordering.{nat_cmp}
use Rattle.std.proofs.lemmas.Bool.{eq-eqb, false≢true}
use Rattle.bosh_base.specs.declared.call.Call.{Call}
use Rattle.bosh_base.specs.declared.call.Call.TheVariants.{CreateVm}
use Rattle.bosh_base.specs.declared.entry.Begin.{Begin}
use Rattle.bosh_base.specs.declared.entry.Entry.TheVariants as entries
use Rattle.bosh_base.specs.declared.make.Make.{Make}
use Rattle.bosh_base.specs.declared.owner.Owner.TheVariants.{Compile}
use Rattle.bosh_fold.specs.Calls.{begun_in, with_machine_of}
use Rattle.bosh_history.specs.Calls.{key_for}
use Rattle.bosh_history.specs.Known.{Known, Slot, dep_of_task}
use Rattle.bosh_history.specs.Orders.{same_slot, slot_cmp}
use Rattle.bosh_plan.specs.Begun.{subject_of}
use Rattle.bosh_plan.specs.declared.beginning.Subject.{Subject}
use Rattle.bosh_plan.specs.declared.beginning.Subject.TheVariants as subjects
use Rattle.bosh_records.specs.Ordered.{AreOrdered}
use Rattle.bosh_records.specs.Readers.{machine_cmp}
use Rattle.bosh_records.specs.Recorded.{Recorded}
use Rattle.bosh_records.specs.Table.{found}
use Rattle.bosh_records.specs.declared.records.Records.{Records}
use Rattle.bosh_work.specs.Work.{with_machine}
use Rattle.bosh_work.specs.declared.part.MachineName.{MachineName}
use Rattle.bosh_work.specs.declared.work.Work.{Work}
use Rattle.laws_stands.specs.Stands.{StandsIn, StandsInOrder, key_place}
use Rattle.laws_stands.specs.Told.{Told, telling}
use Rattle.laws_stands_begun.proofs.SlotOpenedLemmas.{slot_opened}
use Rattle.laws_stands_machines.proofs.FactLemmas.{count_none}
use Rattle.laws_stands_machines.proofs.InsertedLemmas.{count_inserted}
use Rattle.laws_stands_machines.proofs.MadeToldLemmas.{never_left, own_slot, slot_equal}
use Rattle.laws_stands_machines.proofs.SlotMadeLemmas.{slot_made}
use Rattle.laws_stands_machines.specs.Making.{AllowsMake, machine_of_slot, told_made}
use Rattle.laws_stands_on.proofs.TableLemmas.{altered_keys}
use Rattle.laws_stands_on.specs.Allows.{AllowsNext}
use Rattle.laws_stands_slots.specs.Slots.{AllowsSlot, named}

module _ (told : Told) (was : Records) (it : Recorded) (n number worker s : ℕ) (make : Make) where
  abbrev k : Known
  k = told.known

  abbrev call : Call
  call = CreateVm make []

  abbrev b : Begin
  b = record { n = number; task = n; worker = worker; owner = Compile n s; call = call }

  abbrev name : MachineName
  name = record { task = n; slot = s }

  -- what is told of the machine once the call began
  abbrev pub slot_to_make : Slot
  slot_to_make = record {
    dep = dep_of_task k n;
    make = make;
    vm = None;
    doubt = Some (record { n = number; call = call });
    key = key_for k n s;
  }

  module _ (next : AllowsNext told b) (allows : AllowsMake told it n s slot_to_make) (stands : StandsIn told it)
      (room : is_some (found nat_cmp it.calls number) ≡ true)
      (planned : subject_of was b ≡ subjects.Machine (machine_of_slot told n s slot_to_make)) where
    abbrev made : Told
    made = told_made n s slot_to_make told

    abbrev noted : Recorded
    noted = with_machine_of (machine_of_slot told n s slot_to_make) it

    ordered : AreOrdered noted
    ordered = record {
      deployments = (stands.ordered).deployments;
      instances = (stands.ordered).instances;
      machines =
          subst (IsStrictlySortedBy machine_cmp)
          (sym (altered_keys machine_cmp name (λ _. Some (machine_of_slot told n s slot_to_make)) it.machines))
          (stands.ordered).machines;
      orphans = (stands.ordered).orphans;
      keys = (stands.ordered).keys;
      tasks = (stands.ordered).tasks;
      works =
          subst (IsStrictlySortedBy nat_cmp)
          (sym (altered_keys nat_cmp n (option_map (λ (work : Work). with_machine work (key_place k n slot_to_make.key)))
          it.works))
          (stands.ordered).works;
      calls = (stands.ordered).calls;
    }

    made_stands : StandsIn made noted
    made_stands = slot_made told it n s slot_to_make allows stands ordered

    next_made : AllowsNext made b
    next_made = record {
      next = next.next;
      small = next.small;
      going = next.going;
      none_failed = next.none_failed;
      idle = next.idle;
      compiles_new = next.compiles_new;
    }

    listed_once : count_by (same_slot (named n s)) made.known.machines ≡ 1
    listed_once =
        count_inserted slot_cmp same_slot slot_equal (named n s) (same_slot (named n s)) k.machines allows.unlisted
        ∙ (λ j. cond (eq-eqb n n refl j && eq-eqb s s refl j) 1 0
        + count_none same_slot (named n s) k.machines allows.unlisted j)

    allows_made : AllowsSlot made n n s
    allows_made = record {
      row = slot_to_make;
      there = own_slot told it n s slot_to_make allows;
      dep = allows.dep;
      once = listed_once;
      not_left = λ u other going. never_left told it n s slot_to_make allows u going;
    }

    pub machine_begins : StandsInOrder (telling told (entries.Begin b))
        (begun_in (record { begin = b; subject = subject_of was b }) it)
    machine_begins =
        subst (λ (subject : Subject). StandsInOrder (telling told (entries.Begin b))
        (begun_in (record { begin = b; subject = subject }) it)) (sym planned)
        (slot_opened made noted n number worker call n s next_made allows_made room (λ key is. absurd (false≢true is))
        made_stands)
