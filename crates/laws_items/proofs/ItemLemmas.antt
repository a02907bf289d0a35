-- The owner of an open call stays an item of its task, and is asked just where it is to be asked.
use Rattle.std.proofs.Common.{◌≡◌, ◌∙◌, ℕ, ◌+◌, Bool, true, false, ◌&&◌, not, Option, Some, None, List}
use Rattle.std.proofs.Common.{ap, refl, sym, subst, arith}
use Rattle.std.specs.Prelude.{◌≢◌, ◌==◌, eqb, if◌then◌else◌, is_some, length, nat_lt}
use Rattle.std.specs.Option.{option_eq, option_map}
use Rattle.std.specs.Str.{bytes_eq}
use Rattle.std.proofs.lemmas.Bool.{and_from, and_parts, eq-eqb, eqb-true, false≢true, or_left}
use Rattle.std.proofs.lemmas.Bool.Decides.{eqb_tells}
use Rattle.bosh_base.specs.declared.call.Call.TheVariants as calls
use Rattle.bosh_base.specs.declared.entry.Begin.{Begin}
use Rattle.bosh_base.specs.declared.entry.End.{End}
use Rattle.bosh_base.specs.declared.entry.Entry.{Entry}
use Rattle.bosh_base.specs.declared.entry.Entry.TheVariants as entries
use Rattle.bosh_base.specs.declared.entry.TaskOpen.{TaskOpen}
use Rattle.bosh_base.specs.declared.inst.Inst.{Inst}
use Rattle.bosh_base.specs.declared.moves.Move.{Move}
use Rattle.bosh_base.specs.declared.moves.Move.TheVariants as moves
use Rattle.bosh_base.specs.declared.owner.Owner.{Owner}
use Rattle.bosh_base.specs.declared.owner.Owner.TheVariants.{Instance, Compile, Disk}
use Rattle.bosh_base.specs.declared.row.Vm.{Vm}
use Rattle.bosh_base.specs.declared.snapshot.Orphan.{Orphan}
use Rattle.bosh_history.specs.Calls.{begins, key_for}
use Rattle.bosh_history.specs.Items.{instance_phase, is_item, is_leftover, is_slot_left, is_to_ping, phase_of}
use Rattle.bosh_history.specs.Items.{slots_of, stage_of}
use Rattle.bosh_history.specs.Known.{Known, SlotName, dep_of_task, plan_in}
use Rattle.bosh_history.specs.Learn.{learn}
use Rattle.bosh_history.specs.Moments.{Moment, OpenCall, later, noting, performed_call}
use Rattle.bosh_history.specs.Notes.{Begins, EndsCall, MayNote, Outside}
use Rattle.bosh_history.specs.Permitted.{IsPermitted}
use Rattle.bosh_history.specs.Recovered.{may_follow}
use Rattle.bosh_history.specs.Slots.{next_key, slot_begun}
use Rattle.bosh_history.specs.Steps.{call_now, disk_call, want_of}
use Rattle.bosh_history.specs.Tasks.{task_opened}
use Rattle.bosh_history.specs.Words.{holds, is_among}
use Rattle.bosh_rows.specs.CallOf.{next_call}
use Rattle.bosh_rows.specs.Same.{same_inst}
use Rattle.bosh_rows.specs.Standing.{same_truth}
use Rattle.laws_facts.proofs.CallLemmas.{none_open}
use Rattle.laws_facts.proofs.WorkLemmas.{begun_works, opens_next}
use Rattle.laws_facts.specs.KnownFacts.{KnownFacts}
use Rattle.laws_facts.specs.OpenCalls.{fits_known, fits_slot, is_asked, is_call_of_item, is_on_orphan}
use Rattle.laws_facts.specs.Owners.{works}
use Rattle.laws_items.proofs.DoneLemmas.{some_from}
use Rattle.laws_items.proofs.ItemFrames.{are_listed, onward}
use Rattle.laws_items.proofs.MarkLemmas.{IsMarked, SameMark, Spares, mark_itself, mark_note}
use Rattle.laws_items.proofs.OnwardLemmas.{Onward, disk_by, none_onward, slot_by}
use Rattle.laws_items.proofs.OrphanFrames.{orphan_stays}
use Rattle.laws_items.proofs.PhaseLemmas.{IsLeft, is_item_at, left_before, none_before, of_item}
use Rattle.laws_items.proofs.PingLemmas.{plain_call}
use Rattle.laws_items.proofs.SlotCalls.{SlotCall, compiles, creates, deletes, finds, looks, slot_call}
use Rattle.laws_items.proofs.SlotFrames.{answered_apart, begun_apart, begun_own, slots_note}
use Rattle.laws_items.specs.Items.{AreOfItems}
use Rattle.laws_row_facts.specs.Calls.{is_ping}
use Rattle.laws_tasks.proofs.TaskFrames.{OpenedAlike}

-- ---- the phase of one owner

-- what the phase of an owner is by is the same, or is recorded before and after
abbrev Alike : Known → Known → ℕ → Owner → Type 0
Alike old new t (Instance i) = IsMarked (old.task t) (new.task t) i
Alike old new t (Compile task s) =
    (is_some (new.slot task s) ≡ true)
    × (is_leftover old t (record { task = task; slot = s }) ≡ true
    → is_leftover new t (record { task = task; slot = s }) ≡ true)
Alike old new t (Disk d) = is_some (new.orphan d) ≡ true

-- it stays
module _ (old new : Known) (t p : ℕ) (alike : OpenedAlike (old.task t) (new.task t)) where
  phase_inst : (i : Inst) → IsMarked (old.task t) (new.task t) i
      → instance_phase (new.task t) i ≡ instance_phase (old.task t) i
  phase_inst i marks =
      λ j. if (is_among same_inst i (alike.to_ping j) && not (marks.pinged j)) then Some 0
      else (if (is_among same_inst i (alike.obsolete j) && not (marks.gone j)) then Some 3
      else (if (is_among same_inst i (alike.changed j) && not (marks.finished j))
      then Some (4 + stage_of (plan_in (alike.goal j) i)) else None))

  phase_slot : (task s : ℕ) → Alike old new t (Compile task s) → phase_of old t (Compile task s) ≡ Some p
      → phase_of new t (Compile task s) ≡ Some p
  phase_slot task s same was =
      by (task == t) refl (is_slot_left old t s) refl (is_leftover old t name) refl was
    where
      name : SlotName
      name = record { task = task; slot = s }

      left : (task == t) ≡ true → is_slot_left old t s ≡ true → is_slot_left new t s ≡ true
      left own is =
          let parts : (nat_lt s (length (slots_of (old.task t).goal)) ≡ true) × _ =
          and_parts (nat_lt s (length (slots_of (old.task t).goal))) _ is in
          and_from (nat_lt s (length (slots_of (new.task t).goal))) _
          ((λ j. nat_lt s (length (slots_of (alike.goal j)))) ∙ parts.0)
          (or_left (is_some (new.slot t s)) (is_some (next_key new t s))
          (sym (λ j. is_some (new.slot (eqb-true task t own j) s)) ∙ same.0))

      by : (own : Bool) → (task == t) ≡ own → (slot : Bool) → is_slot_left old t s ≡ slot → (over : Bool)
          → is_leftover old t name ≡ over
          → slot_by own slot over ≡ Some p
          → phase_of new t (Compile task s) ≡ Some p
      by true own true is over of_it was =
          (λ j. slot_by (own j) (left own is j) (is_leftover new t name)) ∙ was
      by true own false is over of_it was = absurd cc
      by false other slot is true of_it was =
          (λ j. slot_by (other j) (is_slot_left new t s) (same.1 of_it j)) ∙ was
      by false other slot is false of_it was = absurd cc

  phase_disk : (d : ℕ) → is_some (new.orphan d) ≡ true → phase_of old t (Disk d) ≡ Some p
      → phase_of new t (Disk d) ≡ Some p
  phase_disk d there was =
      by (is_among eqb d (old.task t).disks) refl (is_some (old.orphan d)) was
    where
      by : (listed : Bool) → is_among eqb d (old.task t).disks ≡ listed → (some : Bool)
          → disk_by (listed && some) ≡ Some p → phase_of new t (Disk d) ≡ Some p
      by true listed true was =
          let still : is_among eqb d (new.task t).disks ≡ true = (λ j. is_among eqb d (alike.disks j)) ∙ listed in
          (λ j. disk_by (still j && there j)) ∙ was
      by true listed false was = absurd cc
      by false listed some was = absurd cc

  phase_stays : (owner : Owner) → Alike old new t owner → phase_of old t owner ≡ Some p
      → phase_of new t owner ≡ Some p
  phase_stays (Instance i) same was = phase_inst i same ∙ was
  phase_stays (Compile task s) same was = phase_slot task s same was
  phase_stays (Disk d) same was = phase_disk d same was

-- an item of a task that works stays one, where its phase does
item_stays : (m : Moment) (h : KnownFacts m) (t : ℕ) → works m t ≡ true → (new : Known) → Onward m.known new t
    → (owner : Owner) → Alike m.known new t owner → is_item m.known t owner ≡ true → is_item new t owner ≡ true
item_stays m h t working new on owner same item =
    let it : (p : ℕ) × IsLeft m.known t owner p = of_item m.known t owner item in
    is_item_at new t owner it.0
    (phase_stays m.known new t it.0 on.task.alike owner same it.1.phase)
    (left_before new t it.0
    (none_onward m t h working new on it.0 owner it.1.phase
    (none_before m.known t it.0 (are_listed m h) it.1.present)))

-- whether it is asked too
asked_stays : (old new : Known) (t : ℕ) → OpenedAlike (old.task t) (new.task t) → (owner : Owner)
    → Alike old new t owner → is_asked (new.task t) owner ≡ is_asked (old.task t) owner
asked_stays old new t alike (Instance i) same =
    λ j. is_among same_inst i (alike.to_ping j) && not (same.pinged j)
asked_stays old new t alike (Compile task s) same = refl
asked_stays old new t alike (Disk d) same = refl

-- ---- a call that was open

-- the entry is no answer to the call
abbrev pub LeavesOpen : Entry → ℕ → Type 0
LeavesOpen (entries.End e) n = (e.n == n) ≡ false
LeavesOpen entry n = Unit {0}

module _ (outside : Outside) (m : Moment) (h : KnownFacts m) (n : ℕ) (call : OpenCall) (is : m.calls n ≡ Some call) where
  -- an answer to another call is of another owner
  answer_apart : (e : End) → EndsCall e (m.calls e.n) → (e.n == n) ≡ false → (b : Begin) → m.known.begun e.n ≡ Some b
      → b.owner ≢ call.begin.owner
  answer_apart e may other b begun own = by (m.calls e.n) refl may
    where
      by : (that : Option OpenCall) → m.calls e.n ≡ that → EndsCall e that → ⊥
      by (Some that) that_is ends =
          let known : m.known.begun e.n ≡ Some that.begin = (h.calls e.n that that_is).begun in
          let same : that.begin ≡ b = cc in
          let number : e.n ≡ n =
          (h.calls n call is).one_call e.n that that_is (ap (λ (it : Begin). it.owner) same ∙ own) in
          false≢true (sym other ∙ eq-eqb e.n n number)
      by None that_is ends = absurd ends

  -- an entry that does not answer it spares its owner
  pub spares : (e : Entry) → MayNote outside m e → LeavesOpen e n → Spares m e call.begin.owner
  spares (entries.End e) may other = answer_apart e may other
  spares (entries.UpdDone u) may other =
      λ own. none_open m (Instance u.inst) h.numbers.past may.is_idle n call is (sym own)
  spares (entries.Gone u) may other =
      λ own. none_open m (Instance u.inst) h.numbers.past may.is_idle n call is (sym own)
  spares entry may other = tt

  -- its compile machine is recorded, and its disk
  slot_some : (task s : ℕ) → call.begin.owner ≡ Compile task s → is_some (m.known.slot task s) ≡ true
  slot_some task s own =
      some_from (fits_slot call.begin.n call.begin.call) (m.known.slot task s)
      (subst (λ owner. fits_known m.known call.begin owner ≡ true) own (h.calls n call is).fits)

  orphan_some : (d : ℕ) → call.begin.owner ≡ Disk d → is_some (m.known.orphan d) ≡ true
  orphan_some d own =
      (and_parts (is_on_orphan call.begin.call d) (is_some (m.known.orphan d))
      (subst (λ owner. fits_known m.known call.begin owner ≡ true) own (h.calls n call is).fits)).1

  -- its compile machine stays as it is
  pub slot_same : (e : Entry) → MayNote outside m e → (task s : ℕ) → call.begin.owner ≡ Compile task s
      → Spares m e (Compile task s) → (learn m.known e).slot task s ≡ m.known.slot task s
  slot_same (entries.Begin b) may task s own apart =
      begun_apart b b.owner m.known task s
      (λ same. none_open m b.owner h.numbers.past may.is_idle n call is (own ∙ sym same))
  slot_same (entries.End e) may task s own apart = answered_apart e.answer (m.known.begun e.n) m.known task s apart
  slot_same (entries.Snapshot it) may task s own apart = absurd may
  slot_same entry may task s own apart = λ j. slots_note outside m entry may refl j task s

  -- a task that opens is another
  apart_opened : (o : TaskOpen) → MayNote outside m (entries.TaskOpen o) → (o.task == call.begin.task) ≡ false
  apart_opened o may =
      grind (arith, opens_next m.known o may.0, (h.calls n call is).works, eqb_tells o.task call.begin.task)

  pub mark_stays : (e : Entry) → MayNote outside m e → (owner : Owner) → Spares m e owner
      → SameMark owner (m.known.task call.begin.task) ((learn m.known e).task call.begin.task)
  mark_stays (entries.TaskOpen o) may owner apart =
      subst
      (λ (b : Bool). SameMark owner (m.known.task call.begin.task)
      (if b then task_opened m.known o else m.known.task call.begin.task)) (sym (apart_opened o may))
      (mark_itself owner (m.known.task call.begin.task))
  mark_stays (entries.Snapshot it) may owner apart = absurd may
  mark_stays entry may owner apart = mark_note outside m entry owner call.begin.task may refl apart

  alike_noted : (e : Entry) → MayNote outside m e → Onward m.known (learn m.known e) call.begin.task → (owner : Owner)
      → call.begin.owner ≡ owner → Spares m e owner → Alike m.known (learn m.known e) call.begin.task owner
  alike_noted e may on (Instance i) own apart = mark_stays e may (Instance i) apart
  alike_noted e may on (Compile task s) own apart =
      let same : (learn m.known e).slot task s ≡ m.known.slot task s = slot_same e may task s own apart in (
        (λ j. is_some (same j)) ∙ slot_some task s own,
        (λ was. (λ j. not (task == call.begin.task)
            && holds (λ it. option_eq bytes_eq (Some it.dep) (on.task.alike.dep j)) (same j)) ∙ was),
      )
  alike_noted e may on (Disk d) own apart = orphan_stays outside m e d may apart (orphan_some d own)

  item_noted : (e : Entry) → may_follow m e ≡ true → MayNote outside m e → LeavesOpen e n
      → is_call_of_item (noting m e) call.begin ≡ true
  item_noted e follows may other =
      let parts : (is_item m.known call.begin.task call.begin.owner ≡ true) × _ =
      and_parts (is_item m.known call.begin.task call.begin.owner) _ (h.calls n call is).of_item in
      and_from (is_item (learn m.known e) call.begin.task call.begin.owner) _
      (item_stays m h call.begin.task (h.calls n call is).works (learn m.known e) on call.begin.owner same parts.0)
      ((λ j. same_truth (is_ping call.begin.call)
      (asked_stays m.known (learn m.known e) call.begin.task on.task.alike call.begin.owner same j)) ∙ parts.1)
    where
      on : Onward m.known (learn m.known e) call.begin.task
      on = onward outside m h e follows may call.begin.task (h.calls n call is).works

      same : Alike m.known (learn m.known e) call.begin.task call.begin.owner
      same = alike_noted e may on call.begin.owner refl (spares e may other)

-- ---- a call that begins

module _ (outside : Outside) (m : Moment) (h : KnownFacts m) (b : Begin) (follows : may_follow m (entries.Begin b) ≡ true)
    (may : Begins m b) where
  abbrev new : Known
  new = learn m.known (entries.Begin b)

  asks_slot : (task s : ℕ) → SlotCall m b.task task s b.call → is_ping b.call ≡ false
  asks_slot task s (creates work make own none next at_make is) = sym (λ j. is_ping (is j))
  asks_slot task s (deletes it vm at_slot has none done is) = sym (λ j. is_ping (is j))
  asks_slot task s (compiles it vm key work own at_slot has none keyed fresh free of_key is) =
      sym (λ j. is_ping (is j))
  asks_slot task s (finds it doubt other at_slot has doubted is) = sym (λ j. is_ping (is j))
  asks_slot task s (looks it vm doubt other at_slot has doubted is) = sym (λ j. is_ping (is j))

  -- it is a ping just where its owner is to be asked
  pub asks : (owner : Owner) → call_now m b.task owner ≡ Some b.call
      → same_truth (is_ping b.call) (is_asked (m.known.task b.task) owner) ≡ true
  asks (Instance i) is = by (is_to_ping (m.known.task b.task) i) refl (m.known.row i).vm is
    where
      by : (ping : Bool) → is_to_ping (m.known.task b.task) i ≡ ping → (vm : Option Vm)
          → (if ping then option_map (λ it. calls.Ping it.vm) vm
          else next_call (want_of (m.known.task b.task) i) (m.known.row i)) ≡ Some b.call
          → same_truth (is_ping b.call) (is_to_ping (m.known.task b.task) i) ≡ true
      by true ping (Some vm) is =
          let same : calls.Ping vm.vm ≡ b.call = cc in
          (λ j. same_truth (is_ping b.call) (ping j)) ∙ sym (λ j. same_truth (is_ping (same j)) true)
      by true ping None is = absurd cc
      by false ping vm is =
          λ j. same_truth
          ((plain_call (want_of (m.known.task b.task) i) (m.known.row i) b.call is).0 j) (ping j)
  asks (Compile task s) is = λ j. same_truth (asks_slot task s (slot_call m b.task task s b.call is) j) false
  asks (Disk d) is = by (m.known.orphan d) is
    where
      other : (doubt : Bool) → (if doubt then calls.HasDisk d else calls.DeleteDisk d) ≡ b.call
          → same_truth (is_ping b.call) false ≡ true
      other true same = sym (λ j. same_truth (is_ping (same j)) false)
      other false same = sym (λ j. same_truth (is_ping (same j)) false)

      by : (it : Option Orphan) → option_map (disk_call d) it ≡ Some b.call
          → same_truth (is_ping b.call) false ≡ true
      by (Some it) is = other (is_some it.doubt) (let same : disk_call d it ≡ b.call = cc in same)
      by None is = absurd cc

  -- its compile machine is recorded from here on, in its deployment
  slot_begins : (task s : ℕ) → SlotCall m b.task task s b.call
      → (is_some (slot_begun b.n b.call (dep_of_task m.known task) (key_for m.known task s) (m.known.slot task s))
      ≡ true)
      × ((dep : Option (List ℕ)) → holds (λ it. option_eq bytes_eq (Some it.dep) dep) (m.known.slot task s) ≡ true
      → holds (λ it. option_eq bytes_eq (Some it.dep) dep)
      (slot_begun b.n b.call (dep_of_task m.known task) (key_for m.known task s) (m.known.slot task s)) ≡ true)
  slot_begins task s (creates work make own none next at_make is) = (
    sym (λ j. is_some
        (slot_begun b.n (is j) (dep_of_task m.known task) (key_for m.known task s) (m.known.slot task s))),
    (λ dep was. absurd
        (false≢true (sym (λ j. holds (λ it. option_eq bytes_eq (Some it.dep) dep) (none j)) ∙ was))),
  )
  slot_begins task s (deletes it vm at_slot has none done is) = (
    (λ j. is_some
        (slot_begun b.n (sym is j) (dep_of_task m.known task) (key_for m.known task s) (at_slot j))),
    (λ dep was. (λ j. holds (λ it. option_eq bytes_eq (Some it.dep) dep)
        (slot_begun b.n (sym is j) (dep_of_task m.known task) (key_for m.known task s) (at_slot j)))
        ∙ sym (λ j. holds (λ it. option_eq bytes_eq (Some it.dep) dep) (at_slot j)) ∙ was),
  )
  slot_begins task s (compiles it vm key work own at_slot has none keyed fresh free of_key is) = (
    (λ j. is_some
        (slot_begun b.n (sym is j) (dep_of_task m.known task) (key_for m.known task s) (at_slot j))),
    (λ dep was. (λ j. holds (λ it. option_eq bytes_eq (Some it.dep) dep)
        (slot_begun b.n (sym is j) (dep_of_task m.known task) (key_for m.known task s) (m.known.slot task s))) ∙ was),
  )
  slot_begins task s (finds it doubt other at_slot has doubted is) = (
    (λ j. is_some
        (slot_begun b.n (sym is j) (dep_of_task m.known task) (key_for m.known task s) (at_slot j))),
    (λ dep was. (λ j. holds (λ it. option_eq bytes_eq (Some it.dep) dep)
        (slot_begun b.n (sym is j) (dep_of_task m.known task) (key_for m.known task s) (m.known.slot task s))) ∙ was),
  )
  slot_begins task s (looks it vm doubt other at_slot has doubted is) = (
    (λ j. is_some
        (slot_begun b.n (sym is j) (dep_of_task m.known task) (key_for m.known task s) (at_slot j))),
    (λ dep was. (λ j. holds (λ it. option_eq bytes_eq (Some it.dep) dep)
        (slot_begun b.n (sym is j) (dep_of_task m.known task) (key_for m.known task s) (m.known.slot task s))) ∙ was),
  )

  orphan_there : (d : ℕ) → call_now m b.task (Disk d) ≡ Some b.call → is_some (m.known.orphan d) ≡ true
  orphan_there d is = by (m.known.orphan d) is
    where
      by : (it : Option Orphan) → option_map (disk_call d) it ≡ Some b.call → is_some it ≡ true
      by (Some it) is = refl
      by None is = absurd cc

  on : Onward m.known new b.task
  on = onward outside m h (entries.Begin b) follows may b.task (begun_works m b follows may)

  alike_begun : (owner : Owner) → b.owner ≡ owner → call_now m b.task owner ≡ Some b.call
      → Alike m.known new b.task owner
  alike_begun (Instance i) own is = mark_note outside m (entries.Begin b) (Instance i) b.task may refl tt
  alike_begun (Compile task s) own is =
      let begins_slot : _ × _ = slot_begins task s (slot_call m b.task task s b.call is) in
      let now : new.slot task s
      ≡ slot_begun b.n b.call (dep_of_task m.known task) (key_for m.known task s) (m.known.slot task s) =
      (λ j. (begins b (own j) m.known).slot task s) ∙ begun_own b m.known task s in (
        (λ j. is_some (now j)) ∙ begins_slot.0,
        (λ was.
            let parts : (not (task == b.task) ≡ true) × _ = and_parts (not (task == b.task)) _ was in
            and_from (not (task == b.task)) _ parts.0
            ((λ j. holds (λ it. option_eq bytes_eq (Some it.dep) (on.task.alike.dep j)) (now j))
            ∙ begins_slot.1 (m.known.task b.task).dep parts.1)),
      )
  alike_begun (Disk d) own is = orphan_stays outside m (entries.Begin b) d may tt (orphan_there d is)

  item_begun : is_call_of_item (noting m (entries.Begin b)) b ≡ true
  item_begun =
      and_from (is_item new b.task b.owner) _
      (item_stays m h b.task (begun_works m b follows may) new on b.owner same may.is_item)
      ((λ j. same_truth (is_ping b.call) (asked_stays m.known new b.task on.task.alike b.owner same j))
      ∙ asks b.owner may.is_call)
    where
      same : Alike m.known new b.task b.owner
      same = alike_begun b.owner refl may.is_call

-- ---- moves

items_note : (outside : Outside) (m : Moment) (e : Entry) → KnownFacts m → may_follow m e ≡ true → MayNote outside m e
    → AreOfItems (noting m e)
items_note outside m (entries.Begin b) h follows may n call is = by (eqb b.n n) refl is
  where
    by : (same : Bool) → eqb b.n n ≡ same
        → (if same then Some (record { begin = b; did = None }) else m.calls n) ≡ Some call
        → is_call_of_item (noting m (entries.Begin b)) call.begin ≡ true
    by true same now =
        let begin : b ≡ call.begin = ap (λ (it : OpenCall). it.begin) (opened_as now) in
        sym (λ j. is_call_of_item (noting m (entries.Begin b)) (begin j)) ∙ item_begun outside m h b follows may
      where
        opened_as : Some (record { begin = b; did = None }) ≡ Some call → record { begin = b; did = None } ≡ call
        opened_as now = cc
    by false other now = item_noted outside m h n call now (entries.Begin b) follows may tt
items_note outside m (entries.End e) h follows may n call is = by (eqb e.n n) refl is
  where
    by : (same : Bool) → eqb e.n n ≡ same → (if same then None else m.calls n) ≡ Some call
        → is_call_of_item (noting m (entries.End e)) call.begin ≡ true
    by true same now = absurd cc
    by false other now = item_noted outside m h n call now (entries.End e) follows may other
items_note outside m (entries.Snapshot s) h follows may n call is = absurd may
items_note outside m entry h follows may n call is = item_noted outside m h n call is entry follows may tt

items_move : (outside : Outside) (m : Moment) (move : Move) → IsPermitted outside m move → KnownFacts m
    → AreOfItems (later m move)
items_move outside m (moves.Note e) may h n call is = items_note outside m e h may.1 may.2 n call is
items_move outside m (moves.Did d) may h n call is = by (eqb d.n n) refl (m.calls d.n) refl is
  where
    by : (same : Bool) → eqb d.n n ≡ same → (that : Option OpenCall) → m.calls d.n ≡ that
        → (if same then performed_call d that else m.calls n) ≡ Some call
        → is_call_of_item m call.begin ≡ true
    by true same (Some that) that_is now =
        let begin : that.begin ≡ call.begin = ap (λ (it : OpenCall). it.begin) (performed now) in
        sym (λ j. is_call_of_item m (begin j)) ∙ (h.calls d.n that that_is).of_item
      where
        performed : Some (record that { did = Some d }) ≡ Some call → record that { did = Some d } ≡ call
        performed now = cc
    by true same None that_is now = absurd cc
    by false other that that_is now = (h.calls n call now).of_item
items_move outside m (moves.Stop s) may h n call is = absurd cc
items_move outside m move may h n call is = (h.calls n call is).of_item

pub items_kept : (outside : Outside) (m : Moment) (move : Move) → IsPermitted outside m move → KnownFacts m
    → AreOfItems (later m move)
items_kept outside m move may h = items_move outside m move may h
