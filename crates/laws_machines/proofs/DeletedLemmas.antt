-- A compile machine of a task that works is deleted only once its key is compiled.
use Rattle.std.proofs.Common.{◌≡◌, ◌∙◌, ℕ, ◌+◌, Bool, true, false, Option, Some, None, ap, refl, sym}
use Rattle.std.proofs.Common.{subst, inl, inr}
use Rattle.std.specs.Prelude.{◌⊎◌, ◌≢◌, ◌==◌, eqb}
use Rattle.std.proofs.lemmas.Bool.{eq-eqb, eqb-true, false≢true}
use Rattle.std.proofs.lemmas.Bool.Decides.{eqb_tells}
use Rattle.bosh_base.specs.declared.answer.Answer.{Answer}
use Rattle.bosh_base.specs.declared.answer.Answer.TheVariants as told_as
use Rattle.bosh_base.specs.declared.call.Call.{Call}
use Rattle.bosh_base.specs.declared.call.Call.TheVariants as calls
use Rattle.bosh_base.specs.declared.entry.Begin.{Begin}
use Rattle.bosh_base.specs.declared.entry.Entry.{Entry}
use Rattle.bosh_base.specs.declared.entry.Entry.TheVariants as entries
use Rattle.bosh_base.specs.declared.key.Key.{Key}
use Rattle.bosh_base.specs.declared.moves.Move.{Move}
use Rattle.bosh_base.specs.declared.moves.Move.TheVariants as moves
use Rattle.bosh_base.specs.declared.owner.Owner.{Owner}
use Rattle.bosh_base.specs.declared.owner.Owner.TheVariants.{Instance, Compile, Disk}
use Rattle.bosh_base.specs.declared.row.Vm.{Vm}
use Rattle.bosh_history.specs.Calls.{begins, call_ended, key_for}
use Rattle.bosh_history.specs.Items.{is_item}
use Rattle.bosh_history.specs.Known.{Known, Slot, dep_of_task}
use Rattle.bosh_history.specs.Learn.{learn}
use Rattle.bosh_history.specs.Moments.{Moment, later, noting}
use Rattle.bosh_history.specs.Notes.{Begins, MayNote, Outside}
use Rattle.bosh_history.specs.Permitted.{IsPermitted}
use Rattle.bosh_history.specs.Recovered.{may_follow}
use Rattle.bosh_history.specs.Slots.{is_compiled, slot_after, slot_begun, slot_told}
use Rattle.bosh_history.specs.Steps.{call_now}
use Rattle.bosh_history.specs.Words.{holds}
use Rattle.laws_compiling.proofs.GrowthLemmas.{compiled_stays}
use Rattle.laws_facts.proofs.CurrentLemmas.{none_works, worked}
use Rattle.laws_facts.proofs.LockLemmas.{note_stays}
use Rattle.laws_facts.proofs.WorkLemmas.{begun_works, opens_next}
use Rattle.laws_facts.specs.CompileMachines.{is_being_deleted}
use Rattle.laws_facts.specs.KnownFacts.{KnownFacts}
use Rattle.laws_facts.specs.Owners.{works}
use Rattle.laws_items.proofs.ListedLemmas.{implied}
use Rattle.laws_items.proofs.SlotCalls.{SlotCall, compiles, creates, deletes, finds, looks, slot_call}
use Rattle.laws_items.proofs.SlotFrames.{Slots, begun_apart, begun_own, changed_slot, slots_ended, slots_note, slots_told}
use Rattle.laws_machines.proofs.AnswerLemmas.{task_of_item}
use Rattle.laws_machines.proofs.GoalLemmas.{implied_by, none_of_new}
use Rattle.laws_machines.proofs.OpenLemmas.{past_last, worked_beside}
use Rattle.laws_machines.specs.Machines.{AreDeletedCompiled}
use Rattle.laws_row_facts.specs.Words.{implies, where_any}

-- one that is being deleted was before, for the same key
record WasDeleted (old : Option Slot) (now : Slot) : Type 0 where
  it : Slot
  was : old ≡ Some it
  key : now.key ≡ it.key
  deleted : is_being_deleted it ≡ true

abbrev Deleted : Option Slot → Option Slot → Type 0
Deleted old new = (now : Slot) → new ≡ Some now → is_being_deleted now ≡ true → WasDeleted old now

itself : (a : Option Slot) → Deleted a a
itself a now is deleted = record { it = now; was = is; key = refl; deleted = deleted }

-- ---- an answer

rested : (it now : Slot) (vm : Option Vm) → Some (record it { vm = vm; doubt = None }) ≡ Some now
    → is_being_deleted now ≡ true → ⊥
rested it now vm is deleted =
    let same : record it { vm = vm; doubt = None } ≡ now = cc in
    false≢true (ap is_being_deleted same ∙ deleted)

unchanged : (it now : Slot) → Some it ≡ Some now → is_being_deleted now ≡ true → WasDeleted (Some it) now
unchanged it now is deleted =
    let same : it ≡ now = cc in
    record {
      it =
          it;
      was = refl;
      key = ap (λ (x : Slot). x.key) (sym same);
      deleted = ap is_being_deleted same ∙ deleted;
    }

told_deleted : (n : ℕ) (call : Call) (answer : Answer) (it : Slot) → Deleted (Some it) (slot_told n call answer it)
told_deleted n (calls.CreateVm make disks) (told_as.Cid v) it now is deleted =
    absurd (rested it now (Some (record { vm = v; agent = n })) is deleted)
told_deleted n (calls.FindVm agent) (told_as.Found (Some v)) it now is deleted =
    absurd (rested it now (Some (record { vm = v; agent = agent })) is deleted)
told_deleted n (calls.FindVm agent) (told_as.Found None) it now is deleted = absurd cc
told_deleted n (calls.DeleteVm vm) told_as.Done it now is deleted = absurd cc
told_deleted n (calls.DeleteVm vm) told_as.Gone it now is deleted = absurd (rested it now it.vm is deleted)
told_deleted n (calls.HasVm vm) told_as.No it now is deleted = absurd cc
told_deleted n (calls.HasVm vm) told_as.Yes it now is deleted = absurd (rested it now it.vm is deleted)
told_deleted n call answer it now is deleted = unchanged it now is deleted

after_deleted : (n : ℕ) (call : Call) (answer : Answer) (slot : Option Slot)
    → Deleted slot (slot_after n call answer slot)
after_deleted n call answer (Some it) now is deleted = told_deleted n call answer it now is deleted
after_deleted n call answer None now is deleted = absurd cc

ended_deleted : (b : Begin) (answer : Answer) (owner : Owner) (slots : Slots) (t s : ℕ)
    → Deleted (slots t s) (slots_told b answer owner slots t s)
ended_deleted b answer (Instance i) slots t s = itself (slots t s)
ended_deleted b answer (Compile task k) slots t s =
    changed_slot Deleted itself task k (slot_after b.n b.call answer (slots task k)) slots
    (after_deleted b.n b.call answer (slots task k)) t s
ended_deleted b answer (Disk d) slots t s = itself (slots t s)

answered_deleted : (answer : Answer) (b : Option Begin) (k : Known) (t s : ℕ)
    → Deleted (k.slot t s) ((call_ended answer b k).slot t s)
answered_deleted answer (Some b) k t s =
    subst (λ (slots : Slots). Deleted (k.slot t s) (slots t s)) (sym (slots_ended answer b k))
    (ended_deleted b answer b.owner k.slot t s)
answered_deleted answer None k t s = itself (k.slot t s)

-- ---- one compile machine

abbrev IsCompiled : Known → ℕ → ℕ → Type 0
IsCompiled k t s =
    where_any (λ (it : Slot). implies (is_being_deleted it) (holds (is_compiled k) it.key)) (k.slot t s) ≡ true

key_grows : (old new : Known) → ((key : Key) → is_compiled old key ≡ true → is_compiled new key ≡ true)
    → (key : Option Key) → holds (is_compiled old) key ≡ true → holds (is_compiled new) key ≡ true
key_grows old new grows (Some key) is = grows key is
key_grows old new grows None is = absurd (false≢true is)

compiled_by : (k : Known) (t s : ℕ)
    → ((now : Slot) → k.slot t s ≡ Some now → is_being_deleted now ≡ true → holds (is_compiled k) now.key ≡ true)
    → IsCompiled k t s
compiled_by k t s each = by (k.slot t s) refl
  where
    by : (slot : Option Slot) → k.slot t s ≡ slot → IsCompiled k t s
    by (Some now) is =
        (λ j. where_any (λ (it : Slot). implies (is_being_deleted it) (holds (is_compiled k) it.key)) (is j))
        ∙ implied_by (is_being_deleted now) (holds (is_compiled k) now.key) (each now is)
    by None is = λ j. where_any (λ (it : Slot). implies (is_being_deleted it) (holds (is_compiled k) it.key)) (is j)

-- what was being deleted is for a key that is compiled
still_compiled : (old new : Known) (t s : ℕ)
    → ((key : Key) → is_compiled old key ≡ true → is_compiled new key ≡ true)
    → Deleted (old.slot t s) (new.slot t s) → IsCompiled old t s → (now : Slot) → new.slot t s ≡ Some now
    → is_being_deleted now ≡ true → holds (is_compiled new) now.key ≡ true
still_compiled old new t s grows deleted was now is being =
    let it : WasDeleted (old.slot t s) now = deleted now is being in
    (λ j. holds (is_compiled new) (it.key j))
    ∙ key_grows old new grows it.it.key
    (implied (is_being_deleted it.it) (holds (is_compiled old) it.it.key)
    (sym (λ j. where_any (λ (x : Slot). implies (is_being_deleted x) (holds (is_compiled old) x.key)) (it.was j)) ∙ was)
    it.deleted)

-- ---- a call begins

module _ (outside : Outside) (m : Moment) (h : KnownFacts m) (b : Begin) (follows : may_follow m (entries.Begin b) ≡ true)
    (may : Begins m b) (t s : ℕ) (working : works m t ≡ true) where
  abbrev new : Known
  new = learn m.known (entries.Begin b)

  old : IsCompiled m.known t s
  old = implied (works m t) _ (h.slots_work t s).compiled working

  grows : (key : Key) → is_compiled m.known key ≡ true → is_compiled new key ≡ true
  grows key is = compiled_stays outside m (entries.Begin b) key may is

  -- a slot that stays as it is
  slot_same : new.slot t s ≡ m.known.slot t s → IsCompiled new t s
  slot_same same =
      compiled_by new t s
      (still_compiled m.known new t s grows
      (subst (λ (slot : Option Slot). Deleted (m.known.slot t s) slot) (sym same) (itself (m.known.slot t s))) old)

  own_slot : b.owner ≡ Compile t s
      → new.slot t s ≡ slot_begun b.n b.call (dep_of_task m.known t) (key_for m.known t s) (m.known.slot t s)
  own_slot own = (λ j. (begins b (own j) m.known).slot t s) ∙ begun_own b m.known t s

  by_call : b.owner ≡ Compile t s → SlotCall m b.task t s b.call → IsCompiled new t s
  by_call own (creates work make mine none next at_make is) =
      λ j. where_any (λ (it : Slot). implies (is_being_deleted it) (holds (is_compiled new) it.key))
      ((own_slot own
      ∙ sym (λ l. slot_begun b.n (is l) (dep_of_task m.known t) (key_for m.known t s) (m.known.slot t s))) j)
  by_call own (deletes it vm at_slot has none done is) =
      (λ j. where_any (λ (x : Slot). implies (is_being_deleted x) (holds (is_compiled new) x.key)) (now j))
      ∙ key_grows m.known new grows it.key (done mine)
    where
      now : new.slot t s ≡ Some (record it { doubt = Some (record { n = b.n; call = calls.DeleteVm vm.vm }) })
      now =
          own_slot own
          ∙ (λ j. slot_begun b.n (sym is j) (dep_of_task m.known t) (key_for m.known t s) (at_slot j))

      mine : (t == b.task) ≡ true
      mine =
          eq-eqb t b.task
          (sym
          (task_of_item m h t s working b.task (begun_works m b follows may)
          (sym (λ j. is_item m.known b.task (own j)) ∙ may.is_item)))
  by_call own (compiles it vm key work mine at_slot has none keyed fresh free of_key is) =
      slot_same
      (own_slot own
      ∙ sym (λ j. slot_begun b.n (is j) (dep_of_task m.known t) (key_for m.known t s) (m.known.slot t s)))
  by_call own (finds it doubt other at_slot has doubted is) =
      slot_same
      (own_slot own
      ∙ sym (λ j. slot_begun b.n (is j) (dep_of_task m.known t) (key_for m.known t s) (m.known.slot t s)))
  by_call own (looks it vm doubt other at_slot has doubted is) =
      slot_same
      (own_slot own
      ∙ sym (λ j. slot_begun b.n (is j) (dep_of_task m.known t) (key_for m.known t s) (m.known.slot t s)))

  begun_compiled : IsCompiled new t s
  begun_compiled = by b.owner refl
    where
      apart : (owner : Owner) → b.owner ≡ owner → owner ≢ Compile t s → IsCompiled new t s
      apart owner own differs =
          slot_same (begun_apart b b.owner m.known t s (λ same. differs (sym own ∙ same)))

      here : (task k : ℕ) → b.owner ≡ Compile task k → (c : Bool) → eqb task t ≡ c → (d : Bool) → eqb k s ≡ d
          → IsCompiled new t s
      here task k own true one true two =
          let mine : b.owner ≡ Compile t s =
          own ∙ (λ j. Compile (eqb-true task t one j) (eqb-true k s two j)) in
          by_call mine (slot_call m b.task t s b.call (sym (λ j. call_now m b.task (mine j)) ∙ may.is_call))
      here task k own true one false two =
          apart (Compile task k) own
          (λ same. let slot : k ≡ s = cc in false≢true (sym two ∙ eq-eqb k s slot))
      here task k own false one d two =
          apart (Compile task k) own
          (λ same. let equal : task ≡ t = cc in false≢true (sym one ∙ eq-eqb task t equal))

      by : (owner : Owner) → b.owner ≡ owner → IsCompiled new t s
      by (Instance i) own = apart (Instance i) own (λ same. absurd cc)
      by (Compile task k) own = here task k own (eqb task t) refl (eqb k s) refl
      by (Disk d) own = apart (Disk d) own (λ same. absurd cc)

-- ---- entries

module _ (outside : Outside) (m : Moment) (h : KnownFacts m) (t s : ℕ) where
  were : works m t ≡ true → IsCompiled m.known t s
  were working = implied (works m t) _ (h.slots_work t s).compiled working

  deleted_note : (e : Entry) → may_follow m e ≡ true → MayNote outside m e → works (noting m e) t ≡ true
      → IsCompiled (learn m.known e) t s
  deleted_note (entries.Begin b) follows may working =
      begun_compiled outside m h b follows may t s
      (worked m (entries.Begin b) t (note_stays outside m (entries.Begin b) may refl t) working)
  deleted_note (entries.End e) follows may working =
      compiled_by (learn m.known (entries.End e)) t s
      (still_compiled m.known (learn m.known (entries.End e)) t s
      (λ key is. compiled_stays outside m (entries.End e) key may is)
      (answered_deleted e.answer (m.known.begun e.n) m.known t s)
      (were (worked m (entries.End e) t (note_stays outside m (entries.End e) may refl t) working)))
  deleted_note (entries.TaskOpen o) follows may working = by (eqb_tells o.task t)
    where
      number : o.task ≡ m.known.tasks + 1
      number = opens_next m.known o may.0

      by : ((o.task == t) ≡ true) × (o.task ≡ t) ⊎ ((o.task == t) ≡ false) × (o.task ≢ t)
          → IsCompiled (learn m.known (entries.TaskOpen o)) t s
      by (inl same) =
          λ j. where_any (λ (it : Slot). implies (is_being_deleted it) (holds (is_compiled m.known) it.key))
          (none_of_new m h t s (past_last m.known.tasks o.task t number same.1) j)
      by (inr apart) = were (worked_beside m o t number apart.0 apart.1 working)
  deleted_note (entries.Snapshot it) follows may working = absurd may
  deleted_note entry follows may working =
      compiled_by (learn m.known entry) t s
      (still_compiled m.known (learn m.known entry) t s (λ key is. compiled_stays outside m entry key may is)
      (subst (λ (slots : Slots). Deleted (m.known.slot t s) (slots t s)) (sym (slots_note outside m entry may refl))
      (itself (m.known.slot t s)))
      (were (worked m entry t (note_stays outside m entry may refl t) working)))

-- ---- moves

deleted_move : (outside : Outside) (m : Moment) (move : Move) → IsPermitted outside m move → KnownFacts m
    → AreDeletedCompiled (later m move)
deleted_move outside m (moves.Note e) may h t s =
    implied_by (works (noting m e) t) _ (λ working. deleted_note outside m h t s e may.1 may.2 working)
deleted_move outside m (moves.Stop it) may h t s =
    implied_by (works (later m (moves.Stop it)) t) _
    (λ working. absurd (false≢true (sym (none_works m it t) ∙ working)))
deleted_move outside m move may h t s = (h.slots_work t s).compiled

pub deleted_kept : (outside : Outside) (m : Moment) (move : Move) → IsPermitted outside m move → KnownFacts m
    → AreDeletedCompiled (later m move)
deleted_kept outside m move may h = deleted_move outside m move may h
