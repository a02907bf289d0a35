-- A call that begins is the one that is to be made for its owner as that was before it.
use Rattle.std.proofs.Common.{◌≡◌, ◌∙◌, ℕ, Bool, true, false, ◌&&◌, not, Option, Some, None, List, [], refl, sym, subst}
use Rattle.std.specs.Prelude.{◌==◌, find, if◌then◌else◌, is_some}
use Rattle.std.specs.Option.{option_eq, option_map}
use Rattle.std.proofs.lemmas.Bool.{and_from, eq-eqb, false≢true}
use Rattle.bosh_base.specs.ExactParts.{Decides-call}
use Rattle.bosh_base.specs.declared.call.Call.{Call}
use Rattle.bosh_base.specs.declared.call.Call.TheVariants as calls
use Rattle.bosh_base.specs.declared.entry.Begin.{Begin}
use Rattle.bosh_base.specs.declared.entry.Entry.TheVariants as entries
use Rattle.bosh_base.specs.declared.inst.Inst.{Inst}
use Rattle.bosh_base.specs.declared.key.Key.{Key}
use Rattle.bosh_base.specs.declared.key.KeyWork.{KeyWork}
use Rattle.bosh_base.specs.declared.owner.Owner.{Owner}
use Rattle.bosh_base.specs.declared.owner.Owner.TheVariants.{Instance, Compile, Disk}
use Rattle.bosh_base.specs.declared.row.Row.{Row}
use Rattle.bosh_base.specs.declared.row.Vm.{Vm}
use Rattle.bosh_base.specs.declared.snapshot.Orphan.{Orphan}
use Rattle.bosh_compile.specs.Readiness.{same_key}
use Rattle.bosh_history.specs.Calls.{begins, key_for, task_with_call}
use Rattle.bosh_history.specs.Items.{is_to_ping}
use Rattle.bosh_history.specs.Known.{Known, Task, dep_of_task}
use Rattle.bosh_history.specs.Learn.{learn}
use Rattle.bosh_history.specs.Moments.{Moment}
use Rattle.bosh_history.specs.Notes.{Begins, Outside}
use Rattle.bosh_history.specs.Slots.{keys_of, slot_begun}
use Rattle.bosh_history.specs.Steps.{call_now, compile_make, disk_call, want_of}
use Rattle.bosh_history.specs.Words.{holds}
use Rattle.bosh_rows.specs.After.{begun_row, leaves_doubt}
use Rattle.bosh_rows.specs.CallOf.{next_call}
use Rattle.bosh_rows.specs.Tied.{without_doubt}
use Rattle.laws_answered_rows.proofs.NextCases.{before_next}
use Rattle.laws_facts.specs.KnownFacts.{KnownFacts}
use Rattle.laws_facts.specs.OpenCalls.{call_of_row, fits_known, fits_row, fits_slot, is_on_orphan}
use Rattle.laws_facts.specs.Owners.{is_doubt, works}
use Rattle.laws_items.proofs.ListLemmas.{find_in}
use Rattle.laws_items.proofs.OrphanFrames.{orphan_stays}
use Rattle.laws_items.proofs.PingLemmas.{plain_call}
use Rattle.laws_items.proofs.RowFrames.{row_itself}
use Rattle.laws_items.proofs.SlotCalls.{SlotCall, compiles, creates, deletes, finds, looks, slot_call}
use Rattle.laws_items.proofs.SlotFrames.{begun_own}
use Rattle.laws_row_facts.specs.Calls.{is_ping, row_before}
use Rattle.laws_row_facts.specs.Words.{implies, same_call}
use Rattle.laws_rows.specs.Rightful.{is_machine}

-- ---- what is in doubt of its own call

call_itself : (call : Call) → same_call call call ≡ true
call_itself call = (Decides-call call call).1 refl

doubt_itself : (n : ℕ) (call : Call) → is_doubt n call (Some (record { n = n; call = call })) ≡ true
doubt_itself n call = and_from (n == n) (same_call call call) (eq-eqb n n refl) (call_itself call)

-- ---- an instance

pub vm_before : (call : Call) (row : Row) → (row_before call row).vm ≡ row.vm
vm_before call row = by (leaves_doubt call)
  where
    by : (leaves : Bool) → (if leaves then without_doubt row else row).vm ≡ row.vm
    by true = refl
    by false = refl

implied_by : (a b : Bool) → (a ≡ true → b ≡ true) → implies a b ≡ true
implied_by true b is = is refl
implied_by false b is = refl

pub row_begins : (t : Task) (b : Begin) (i : Inst) (row : Row) → call_of_row t i row ≡ Some b.call
    → (is_to_ping t i ≡ true → row.lost ≡ false) → fits_row t b i (begun_row b.n b.call row) ≡ true
row_begins t b i row next answers =
    and_from (option_eq same_call (call_of_row t i before) (Some b.call)) _
    ((λ j. option_eq same_call (by (is_to_ping t i) refl next j) (Some b.call)) ∙ call_itself b.call)
    (and_from (implies (leaves_doubt b.call) (is_doubt b.n b.call (begun_row b.n b.call row).doubt)) _
    (doubted (leaves_doubt b.call))
    (implied_by (is_ping b.call) (not row.lost) (λ pings. asked (is_to_ping t i) refl next pings)))
  where
    before : Row
    before = row_before b.call (begun_row b.n b.call row)

    by : (ping : Bool) → is_to_ping t i ≡ ping
        → (if ping then option_map (λ (it : Vm). calls.Ping it.vm) row.vm else next_call (want_of t i) row) ≡ Some b.call
        → call_of_row t i before ≡ Some b.call
    by true ping called =
        (λ j. if ping j then option_map (λ (it : Vm). calls.Ping it.vm) (vm_before b.call (begun_row b.n b.call row) j)
        else next_call (want_of t i) before)
        ∙ called
    by false ping called =
        (λ j. if ping j then option_map (λ (it : Vm). calls.Ping it.vm) before.vm else next_call (want_of t i) before)
        ∙ before_next (want_of t i) b.n row b.call called

    doubted : (leaves : Bool)
        → implies leaves (is_doubt b.n b.call (if leaves then Some (record { n = b.n; call = b.call }) else row.doubt))
        ≡ true
    doubted true = doubt_itself b.n b.call
    doubted false = refl

    asked : (ping : Bool) → is_to_ping t i ≡ ping
        → (if ping then option_map (λ (it : Vm). calls.Ping it.vm) row.vm else next_call (want_of t i) row) ≡ Some b.call
        → is_ping b.call ≡ true → not row.lost ≡ true
    asked true ping called pings = λ j. not (answers ping j)
    asked false ping called pings =
        absurd (false≢true (sym (plain_call (want_of t i) row b.call called).0 ∙ pings))

-- ---- a compile machine

key_found : (keys : List KeyWork) (key : Key) (work : KeyWork) → find (λ work. same_key work.key key) keys ≡ Some work
    → same_key work.key key ≡ true
key_found keys key work found = (find_in (λ work. same_key work.key key) work keys found).1

pub slot_begins : (m : Moment) (b : Begin) (task s : ℕ) (dep : List ℕ) (key : Option Key)
    → SlotCall m b.task task s b.call
    → holds (fits_slot b.n b.call) (slot_begun b.n b.call dep key (m.known.slot task s)) ≡ true
slot_begins m b task s dep key (creates work make own none next at_make is) =
    subst (λ (call : Call). holds (fits_slot b.n call) (slot_begun b.n call dep key (m.known.slot task s)) ≡ true) is
    (doubt_itself b.n (calls.CreateVm (compile_make work.key make) []))
slot_begins m b task s dep key (deletes it vm at_slot has none done is) =
    subst (λ (call : Call). holds (fits_slot b.n call) (slot_begun b.n call dep key (m.known.slot task s)) ≡ true) is
    ((λ j. holds (fits_slot b.n (calls.DeleteVm vm.vm)) (slot_begun b.n (calls.DeleteVm vm.vm) dep key (at_slot j)))
    ∙ and_from (is_machine it.vm vm.vm) _ ((λ j. is_machine (has j) vm.vm) ∙ eq-eqb vm.vm vm.vm refl)
    (doubt_itself b.n (calls.DeleteVm vm.vm)))
slot_begins m b task s dep key (compiles it vm of work own at_slot has none keyed fresh free of_key is) =
    subst (λ (call : Call). holds (fits_slot b.n call) (slot_begun b.n call dep key (m.known.slot task s)) ≡ true) is
    ((λ j. holds
    (λ it. is_machine it.vm vm.vm && (not (is_some it.doubt) && holds (same_key work.key) it.key)) (at_slot j))
    ∙ and_from (is_machine it.vm vm.vm) _ ((λ j. is_machine (has j) vm.vm) ∙ eq-eqb vm.vm vm.vm refl)
    (and_from (not (is_some it.doubt)) _ (λ j. not (is_some (none j)))
    ((λ j. holds (same_key work.key) (keyed j)) ∙ key_found (keys_of (m.known.task b.task).goal) of work of_key)))
slot_begins m b task s dep key (finds it doubt other at_slot has doubted is) =
    subst (λ (call : Call). holds (fits_slot b.n call) (slot_begun b.n call dep key (m.known.slot task s)) ≡ true) is
    ((λ j. holds (fits_slot b.n (calls.FindVm doubt.n)) (at_slot j))
    ∙ and_from (not (is_some it.vm)) _ (λ j. not (is_some (has j)))
    ((λ j. holds (λ d. d.n == doubt.n) (doubted j)) ∙ eq-eqb doubt.n doubt.n refl))
slot_begins m b task s dep key (looks it vm doubt other at_slot has doubted is) =
    subst (λ (call : Call). holds (fits_slot b.n call) (slot_begun b.n call dep key (m.known.slot task s)) ≡ true) is
    ((λ j. holds (fits_slot b.n (calls.HasVm vm.vm)) (at_slot j))
    ∙ and_from (is_machine it.vm vm.vm) _ ((λ j. is_machine (has j) vm.vm) ∙ eq-eqb vm.vm vm.vm refl)
    (λ j. is_some (doubted j)))

-- ---- an orphaned disk

disk_begins : (d : ℕ) (it : Option Orphan) (call : Call) → option_map (disk_call d) it ≡ Some call
    → (is_on_orphan call d ≡ true) × (is_some it ≡ true)
disk_begins d (Some it) call is = (by (is_some it.doubt) called, refl)
  where
    called : disk_call d it ≡ call
    called = cc

    by : (doubt : Bool) → (if doubt then calls.HasDisk d else calls.DeleteDisk d) ≡ call → is_on_orphan call d ≡ true
    by true same = sym (λ j. is_on_orphan (same j) d) ∙ eq-eqb d d refl
    by false same = sym (λ j. is_on_orphan (same j) d) ∙ eq-eqb d d refl
disk_begins d None call is = absurd cc

-- ---- its owner

not_lost : (ping some lost through : Bool) → implies ping (some && (not lost && not through)) ≡ true → ping ≡ true
    → lost ≡ false
not_lost true true true through is asks = absurd cc
not_lost true true false through is asks = refl
not_lost true false lost through is asks = absurd cc
not_lost false some lost through is asks = absurd cc

module _ (outside : Outside) (m : Moment) (h : KnownFacts m) (b : Begin) (may : Begins m b)
    (working : works m b.task ≡ true) where
  abbrev new : Known
  new = learn m.known (entries.Begin b)

  task_now : new.task b.task ≡ task_with_call (m.known.task b.task)
  task_now = λ j. if eq-eqb b.task b.task refl j then task_with_call (m.known.task b.task) else m.known.task b.task

  pub begun_fits : (owner : Owner) → b.owner ≡ owner → call_now m b.task owner ≡ Some b.call
      → fits_known new b owner ≡ true
  begun_fits (Instance i) own is =
      (λ j. fits_row (task_now j) b i (row_now j))
      ∙ row_begins (m.known.task b.task) b i (m.known.row i) is
      (not_lost (is_to_ping (m.known.task b.task) i) _ (m.known.row i).lost _
      (((h.tasks b.task).working working).can_be_asked i))
    where
      row_now : new.row i ≡ begun_row b.n b.call (m.known.row i)
      row_now =
          (λ j. (begins b (own j) m.known).row i) ∙ row_itself i (begun_row b.n b.call (m.known.row i)) m.known.row
  begun_fits (Compile task s) own is =
      (λ j. holds (fits_slot b.n b.call) (slot_now j))
      ∙ slot_begins m b task s (dep_of_task m.known task) (key_for m.known task s) (slot_call m b.task task s b.call is)
    where
      slot_now : new.slot task s
          ≡ slot_begun b.n b.call (dep_of_task m.known task) (key_for m.known task s) (m.known.slot task s)
      slot_now = (λ j. (begins b (own j) m.known).slot task s) ∙ begun_own b m.known task s
  begun_fits (Disk d) own is =
      let it : (is_on_orphan b.call d ≡ true) × (is_some (m.known.orphan d) ≡ true) =
      disk_begins d (m.known.orphan d) b.call is in
      and_from (is_on_orphan b.call d) _ it.0 (orphan_stays outside m (entries.Begin b) d may tt it.1)
