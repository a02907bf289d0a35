-- A call of a compile machine that is there begins.
use Rattle.std.proofs.Common.{◌≡◌, ◌∙◌, ℕ, false, ◌&&◌, not, ◌==◌, List, Option, Some, refl}
use Rattle.std.proofs.Common.{subst, sym}
use Rattle.std.specs.Prelude.{if◌then◌else◌}
use Rattle.std.specs.Option.{option_eq, option_map}
use Rattle.std.specs.Str.{bytes_eq}
use Rattle.std.specs.List.Sorted.{IsStrictlySortedBy}
use Rattle.std.proofs.lemmas.Bool.{eq-eqb, true≢false}
use Rattle.bosh_base.specs.declared.call.Call.{Call}
use Rattle.bosh_base.specs.declared.call.Call.TheVariants.{CreateVm, DeleteVm}
use Rattle.bosh_base.specs.declared.entry.Begin.{Begin}
use Rattle.bosh_base.specs.declared.entry.Entry.TheVariants as entries
use Rattle.bosh_base.specs.declared.owner.Owner.TheVariants.{Compile}
use Rattle.bosh_base.specs.declared.row.Doubt.{Doubt}
use Rattle.bosh_fold.specs.Calls.{begun_in, counted, noted_call, opened_call, with_doubt}
use Rattle.bosh_history.specs.Known.{Known, Slot, SlotName}
use Rattle.bosh_history.specs.Orders.{slot_cmp}
use Rattle.bosh_history.specs.Words.{holds, inserted}
use Rattle.bosh_plan.specs.Begun.{subject_of}
use Rattle.bosh_records.specs.Changes.{with_machine_call}
use Rattle.bosh_records.specs.Ordered.{AreOrdered}
use Rattle.bosh_records.specs.Readers.{machine_cmp}
use Rattle.bosh_records.specs.Recorded.{Recorded}
use Rattle.bosh_records.specs.declared.records.Records.{Records}
use Rattle.bosh_work.specs.declared.part.MachineName.{MachineName}
use Rattle.laws_stands.specs.Stands.{StandsIn, StandsInOrder}
use Rattle.laws_stands.specs.Told.{Told, telling}
use Rattle.laws_stands_begun.proofs.SlotOpenedLemmas.{slot_opened}
use Rattle.laws_stands_begun.specs.Beginning.{HasRoom, IsListed, makes_machine}
use Rattle.laws_stands_on.proofs.NextCallLemmas.{told_next}
use Rattle.laws_stands_on.proofs.TableLemmas.{altered_keys}
use Rattle.laws_stands_on.specs.Allows.{AllowsNext}
use Rattle.laws_stands_slots.proofs.SlotTableLemmas.{slot_same, with_slot_is}
use Rattle.laws_stands_slots.proofs.SlotToldLemmas.{slot_doubted}
use Rattle.laws_stands_slots.specs.Slots.{AllowsSlot, in_doubt_by, named, told_slot, with_slot}

module _ (told : Told) (was : Records) (it : Recorded) (n number worker : ℕ) (t s : ℕ) (allows : AllowsSlot told n t s)
    (listed : IsListed told t s) (stands : StandsIn told it) where
  abbrev k : Known
  k = told.known

  abbrev name : MachineName
  name = record { task = t; slot = s }

  abbrev begin : Call → Begin
  begin call = record { n = number; task = n; worker = worker; owner = Compile t s; call = call }

  -- what is told once it began, with what is told of the machine
  abbrev told_by : (told : Told) (it : Recorded) (call : Call) → AllowsNext told (begin call) → StandsIn told it
      → List SlotName → (ℕ → ℕ → Option Slot) → Told
  told_by told it call next stands machines slot = record (told_next told it (begin call) next stands) {
    known = record (told_next told it (begin call) next stands).known { machines = machines; slot = slot };
  }

  -- ---- a call that changes nothing of the machine

  slots_stay : with_slot t s (k.slot t s) k.slot ≡ k.slot
  slots_stay = λ j u r. slot_same (λ slot. slot) t s (k.slot t s) k.slot refl u r j

  plain : (call : Call) (next : AllowsNext told (begin call)) → HasRoom it number call
      → StandsInOrder
      (told_by told it call next stands (inserted slot_cmp (named t s) k.machines) (with_slot t s (k.slot t s) k.slot))
      (noted_call (begin call) (counted n (opened_call (begin call) it)))
  plain call next room =
      subst (λ (machines : List SlotName). StandsInOrder
      (told_by told it call next stands machines (with_slot t s (k.slot t s) k.slot))
      (noted_call (begin call) (counted n (opened_call (begin call) it)))) (sym listed)
      (subst (λ (slot : ℕ → ℕ → Option Slot). StandsInOrder (told_by told it call next stands k.machines slot)
      (noted_call (begin call) (counted n (opened_call (begin call) it)))) (sym slots_stay)
      (slot_opened told it n number worker call t s next allows room.for_call room.for_key stands))

  -- ---- a machine is deleted, and in doubt from now on

  module _ (vm : ℕ) (next : AllowsNext told (begin (DeleteVm vm))) (room : HasRoom it number (DeleteVm vm)) where
    abbrev doubt : Doubt
    doubt = record { n = number; call = DeleteVm vm }

    abbrev doubted : Told
    doubted = told_slot t s (option_map (in_doubt_by doubt) (k.slot t s)) told

    abbrev unsure : Recorded
    unsure = with_doubt (Compile t s) doubt it

    own_slot : doubted.known.slot t s ≡ Some (in_doubt_by doubt allows.row)
    own_slot =
        with_slot_is t s (option_map (in_doubt_by doubt) (k.slot t s)) k.slot t s
        ∙ (λ j. if eq-eqb t t refl j && eq-eqb s s refl j then option_map (in_doubt_by doubt) (allows.there j)
        else k.slot t s)

    allows_doubted : AllowsSlot doubted n t s
    allows_doubted = record {
      row = in_doubt_by doubt allows.row;
      there = own_slot;
      dep = allows.dep;
      once = allows.once;
      not_left = λ u other going.
          (λ j. not (t == u)
          && holds (λ (slot : Slot). option_eq bytes_eq (Some slot.dep) (k.task u).dep) (own_slot j))
          ∙ (λ j. not (t == u)
          && holds (λ (slot : Slot). option_eq bytes_eq (Some slot.dep) (k.task u).dep) (sym allows.there j))
          ∙ allows.not_left u other going;
    }

    next_doubted : AllowsNext doubted (begin (DeleteVm vm))
    next_doubted = record {
      next = next.next;
      small = next.small;
      going = next.going;
      none_failed = next.none_failed;
      idle = next.idle;
      compiles_new = next.compiles_new;
    }

    abbrev opened : Recorded
    opened = noted_call (begin (DeleteVm vm)) (counted n (opened_call (begin (DeleteVm vm)) unsure))

    in_order : AreOrdered opened → AreOrdered unsure
    in_order ordered = record {
      deployments = (stands.ordered).deployments;
      instances = (stands.ordered).instances;
      machines = subst (IsStrictlySortedBy machine_cmp)
          (altered_keys machine_cmp name (option_map (with_machine_call (Some number))) unsure.machines)
          ordered.machines;
      orphans = (stands.ordered).orphans;
      keys = (stands.ordered).keys;
      tasks = (stands.ordered).tasks;
      works = (stands.ordered).works;
      calls = (stands.ordered).calls;
    }

    deleted : StandsInOrder (telling told (entries.Begin (begin (DeleteVm vm)))) opened
    deleted ordered =
        subst (λ (machines : List SlotName). StandsIn (record (telling told (entries.Begin (begin (DeleteVm vm)))) {
          known = record (telling told (entries.Begin (begin (DeleteVm vm)))).known { machines = machines };
        }) opened) (sym listed)
        (slot_opened doubted unsure n number worker (DeleteVm vm) t s next_doubted allows_doubted room.for_call
        room.for_key (slot_doubted told it t s doubt stands (in_order ordered)) ordered)

  -- ---- as it is learned

  pub after_slot_begin : (call : Call) → makes_machine call ≡ false → AllowsNext told (begin call)
      → HasRoom it number call
      → StandsInOrder (telling told (entries.Begin (begin call)))
      (begun_in (record { begin = begin call; subject = subject_of was (begin call) }) it)
  after_slot_begin (CreateVm make disks) none next room = absurd (true≢false none)
  after_slot_begin (DeleteVm vm) none next room = deleted vm next room
  after_slot_begin call none next room = plain call next room
