-- What is recorded of compile machines keeps its shape.
use Rattle.std.proofs.Common.{◌≡◌, ◌∙◌, ℕ, true, Option, Some, None, refl, sym}
use Rattle.std.proofs.lemmas.Bool.{and_parts, eq-eqb, false≢true}
use Rattle.bosh_base.specs.ExactParts.{Decides-make}
use Rattle.bosh_base.specs.declared.answer.Answer.{Answer}
use Rattle.bosh_base.specs.declared.answer.Answer.TheVariants as answers
use Rattle.bosh_base.specs.declared.call.Call.{Call}
use Rattle.bosh_base.specs.declared.call.Call.TheVariants as calls
use Rattle.bosh_base.specs.declared.entry.Begin.{Begin}
use Rattle.bosh_base.specs.declared.entry.End.{End}
use Rattle.bosh_base.specs.declared.entry.Entry.{Entry}
use Rattle.bosh_base.specs.declared.entry.Entry.TheVariants as entries
use Rattle.bosh_base.specs.declared.moves.Move.{Move}
use Rattle.bosh_base.specs.declared.owner.Owner.{Owner}
use Rattle.bosh_base.specs.declared.owner.Owner.TheVariants.{Instance, Compile, Disk}
use Rattle.bosh_base.specs.declared.row.Vm.{Vm}
use Rattle.bosh_history.specs.Calls.{begins, call_ended, key_for}
use Rattle.bosh_history.specs.Known.{Known, Slot, dep_of_task}
use Rattle.bosh_history.specs.Learn.{learn}
use Rattle.bosh_history.specs.Moments.{Moment, OpenCall, later}
use Rattle.bosh_history.specs.Notes.{Begins, EndsCall, MayNote, Outside}
use Rattle.bosh_history.specs.Permitted.{IsPermitted}
use Rattle.bosh_history.specs.Slots.{slot_after, slot_begun, slot_told}
use Rattle.bosh_history.specs.Steps.{call_now, compile_make}
use Rattle.bosh_history.specs.Words.{holds}
use Rattle.laws_facts.proofs.MoveLemmas.{by_note}
use Rattle.laws_facts.specs.KnownFacts.{KnownFacts}
use Rattle.laws_facts.specs.OpenCalls.{fits_known, fits_slot}
use Rattle.laws_items.proofs.SlotCalls.{SlotCall, compiles, creates, deletes, finds, looks, slot_call}
use Rattle.laws_items.proofs.SlotFrames.{changed_slot, slots_ended, slots_note, slots_told}
use Rattle.laws_machines.specs.Machines.{AreShaped}
use Rattle.laws_row_facts.specs.Words.{where_any}
use Rattle.laws_rows.specs.Rightful.{is_machine}
use Rattle.laws_slots.specs.Slots.{has_shape, is_shaped_by}

-- one keeps its shape
abbrev KeepsShape : Option Slot → Option Slot → Type 0
KeepsShape old new = where_any has_shape old ≡ true → where_any has_shape new ≡ true

-- ---- an answer

-- one with a machine and no doubt has its shape
settled : (it : Slot) (v : ℕ) → is_machine it.vm v ≡ true → has_shape (record it { doubt = None }) ≡ true
settled it v is = by it.vm refl is
  where
    by : (vm : Option Vm) → it.vm ≡ vm → is_machine vm v ≡ true → is_shaped_by it.make it.vm None ≡ true
    by (Some vm) has is = λ j. is_shaped_by it.make (has j) None
    by None has is = absurd (false≢true is)

told_shape : (n : ℕ) (call : Call) (answer : Answer) (it : Slot) → fits_slot n call it ≡ true → has_shape it ≡ true
    → where_any has_shape (slot_told n call answer it) ≡ true
told_shape n (calls.CreateVm make disks) (answers.Cid v) it fits shape = refl
told_shape n (calls.FindVm agent) (answers.Found (Some v)) it fits shape = refl
told_shape n (calls.FindVm agent) (answers.Found None) it fits shape = refl
told_shape n (calls.DeleteVm vm) answers.Done it fits shape = refl
told_shape n (calls.DeleteVm vm) answers.Gone it fits shape =
    settled it vm (and_parts (is_machine it.vm vm) _ fits).0
told_shape n (calls.HasVm vm) answers.No it fits shape = refl
told_shape n (calls.HasVm vm) answers.Yes it fits shape = settled it vm (and_parts (is_machine it.vm vm) _ fits).0
told_shape n call answer it fits shape = shape

after_shape : (n : ℕ) (call : Call) (answer : Answer) (slot : Option Slot) → holds (fits_slot n call) slot ≡ true
    → KeepsShape slot (slot_after n call answer slot)
after_shape n call answer (Some it) fits shape = told_shape n call answer it fits shape
after_shape n call answer None fits shape = refl

ended_shape : (k : Known) (b : Begin) (answer : Answer) (owner : Owner) → fits_known k b owner ≡ true → AreShaped k
    → (t s : ℕ) → where_any has_shape (slots_told b answer owner k.slot t s) ≡ true
ended_shape k b answer (Instance i) fits has t s = has t s
ended_shape k b answer (Compile task n) fits has t s =
    changed_slot KeepsShape (λ slot shape. shape) task n (slot_after b.n b.call answer (k.slot task n)) k.slot
    (after_shape b.n b.call answer (k.slot task n) fits) t s (has t s)
ended_shape k b answer (Disk d) fits has t s = has t s

-- ---- a call begins

module _ (m : Moment) (b : Begin) (may : Begins m b) (has : AreShaped m.known) where
  begun_shape : (task s : ℕ) → SlotCall m b.task task s b.call
      → where_any has_shape
      (slot_begun b.n b.call (dep_of_task m.known task) (key_for m.known task s) (m.known.slot task s)) ≡ true
  begun_shape task s (creates work make own none next at_make is) =
      sym (λ j. where_any has_shape
      (slot_begun b.n (is j) (dep_of_task m.known task) (key_for m.known task s) (m.known.slot task s)))
      ∙ (Decides-make (compile_make work.key make) (compile_make work.key make)).1 refl
  begun_shape task s (deletes it vm at_slot has none done is) =
      (λ j. where_any has_shape
      (slot_begun b.n (sym is j) (dep_of_task m.known task) (key_for m.known task s) (at_slot j)))
      ∙ (λ j. is_shaped_by it.make (has j) (Some (record { n = b.n; call = calls.DeleteVm vm.vm })))
      ∙ eq-eqb vm.vm vm.vm refl
  begun_shape task s (compiles it vm key work own at_slot one none keyed fresh free of_key is) =
      sym (λ j. where_any has_shape
      (slot_begun b.n (is j) (dep_of_task m.known task) (key_for m.known task s) (m.known.slot task s))) ∙ has task s
  begun_shape task s (finds it doubt other at_slot one doubted is) =
      sym (λ j. where_any has_shape
      (slot_begun b.n (is j) (dep_of_task m.known task) (key_for m.known task s) (m.known.slot task s))) ∙ has task s
  begun_shape task s (looks it vm doubt other at_slot one doubted is) =
      sym (λ j. where_any has_shape
      (slot_begun b.n (is j) (dep_of_task m.known task) (key_for m.known task s) (m.known.slot task s))) ∙ has task s

  shape_begun : (owner : Owner) → b.owner ≡ owner → (t s : ℕ)
      → where_any has_shape ((begins b owner m.known).slot t s) ≡ true
  shape_begun (Instance i) own t s = has t s
  shape_begun (Compile task n) own t s =
      changed_slot KeepsShape (λ slot shape. shape) task n
      (slot_begun b.n b.call (dep_of_task m.known task) (key_for m.known task n) (m.known.slot task n)) m.known.slot
      (λ shape. begun_shape task n
      (slot_call m b.task task n b.call (sym (λ j. call_now m b.task (own j)) ∙ may.is_call))) t s (has t s)
  shape_begun (Disk d) own t s = has t s

-- ---- entries

shape_ended : (m : Moment) → KnownFacts m → (e : End) → EndsCall e (m.calls e.n) → AreShaped m.known
    → AreShaped (learn m.known (entries.End e))
shape_ended m h e may has t s = by (m.calls e.n) refl may
  where
    by : (that : Option OpenCall) → m.calls e.n ≡ that → EndsCall e that
        → where_any has_shape ((learn m.known (entries.End e)).slot t s) ≡ true
    by (Some that) open_now ends =
        (λ j. where_any has_shape ((call_ended e.answer ((h.calls e.n that open_now).begun j) m.known).slot t s))
        ∙ (λ j. where_any has_shape (slots_ended e.answer that.begin m.known j t s))
        ∙ ended_shape m.known that.begin e.answer that.begin.owner (h.calls e.n that open_now).fits has t s
    by None open_now ends = absurd ends

shape_note : (outside : Outside) (m : Moment) → KnownFacts m → (e : Entry) → MayNote outside m e → AreShaped m.known
    → AreShaped (learn m.known e)
shape_note outside m h (entries.Begin b) may has t s = shape_begun m b may has b.owner refl t s
shape_note outside m h (entries.End e) may has t s = shape_ended m h e may has t s
shape_note outside m h (entries.Snapshot it) may has t s = absurd may
shape_note outside m h entry may has t s =
    (λ j. where_any has_shape (slots_note outside m entry may refl j t s)) ∙ has t s

pub shape_kept : (outside : Outside) (m : Moment) (move : Move) → IsPermitted outside m move → KnownFacts m
    → AreShaped (later m move).known
shape_kept outside m move may h =
    by_note outside AreShaped m (λ e also. shape_note outside m h e also h.shapes)
    h.shapes move may
