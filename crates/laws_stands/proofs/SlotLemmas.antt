-- The choice in the phase of keys.
use Rattle.std.proofs.Common.{◌≡◌, ◌∙◌, ℕ, ◌<◌, ◌≤◌, zero, suc, Bool, true, false, ◌&&◌, ◌||◌, not, List, []}
use Rattle.std.proofs.Common.{◌∷◌, length, map, Option, Some, None, ap, refl, sym, arith}
use Rattle.std.specs.Prelude.{is_none, is_some, slice_get}
use Rattle.std.specs.Prelude.{if◌then◌else◌}
use Rattle.std.specs.Option.{option_and_then, option_map, option_or}
use Rattle.std.proofs.lemmas.Bool.{eq-eqb, false≢true, lt-ltb}
use Rattle.std.proofs.lemmas.Bool.{true≢false}
use Rattle.bosh_base.specs.declared.call.Call.{Call}
use Rattle.bosh_base.specs.declared.call.Call.TheVariants as calls
use Rattle.bosh_base.specs.declared.entry.Entry.{Entry}
use Rattle.bosh_base.specs.declared.goal.Goal.{Goal}
use Rattle.bosh_base.specs.declared.key.Key.{Key}
use Rattle.bosh_base.specs.declared.key.KeyWork.{KeyWork}
use Rattle.bosh_base.specs.declared.make.Make.{Make}
use Rattle.bosh_base.specs.declared.owner.Owner.{Owner}
use Rattle.bosh_base.specs.declared.owner.Owner.TheVariants.{Compile}
use Rattle.bosh_base.specs.declared.row.Doubt.{Doubt}
use Rattle.bosh_base.specs.declared.row.Vm.{Vm}
use Rattle.bosh_claim.specs.Choice.{begun_by}
use Rattle.bosh_claim.specs.Noted.{beginning}
use Rattle.bosh_claim.specs.Slot as slots
use Rattle.bosh_compile.specs.Readiness.{same_key}
use Rattle.bosh_history.specs.Claim.{item, new_call}
use Rattle.bosh_history.specs.Items.{is_slot_left, slots_of}
use Rattle.bosh_history.specs.Known.{Known, Slot, Task}
use Rattle.bosh_history.specs.Moments.{Moment}
use Rattle.bosh_history.specs.Slots.{keys_of, next_key}
use Rattle.bosh_history.specs.Steps.{compile_make, compiling, creation, is_compiling, is_idle, key_call, nth}
use Rattle.bosh_history.specs.Steps.{own_slot, slot_by, sweep_call, work_for}
use Rattle.bosh_history.specs.Words.{numbers_below}
use Rattle.bosh_progress.specs.Tree.{first_marked}
use Rattle.bosh_records.specs.Readers as readers
use Rattle.bosh_records.specs.declared.machines.Machine.{Machine}
use Rattle.bosh_records.specs.declared.records.Records.{Records}
use Rattle.bosh_work.specs.declared.part.MachineName.{MachineName}
use Rattle.bosh_work.specs.declared.work.Work.{Work}
use Rattle.laws_stands.specs.Choosing.{CanChoose}
use Rattle.laws_stands.specs.Stands.{key_of_slot, key_place, row_of_slot}
use Rattle.laws_stands.proofs.AnswerLemmas.{answers_append, first_answer, gives}
use Rattle.laws_stands.proofs.MarkLemmas.{found}
use Rattle.laws_stands.proofs.AskLemmas.{call_is}
use Rattle.laws_stands.proofs.PhaseLemmas.{IsPresent, answer, is_phase, item_as, of_slots}
use Rattle.laws_stands.proofs.PremiseLemmas.{own_late, own_phase}
use Rattle.laws_stands.proofs.NextKeyLemmas.{find_passes, goal_of_work, kept_same, key_at_is, key_is, next_is}
use Rattle.laws_stands.proofs.NextKeyLemmas.{nth_is}

module _ (m : Moment) (n worker : ℕ) (records : Records) (swept : List MachineName) (work : Work)
    (can : CanChoose m n records swept work) where
  abbrev k : Known
  k = m.known

  abbrev t : Task
  t = m.known.task n

  abbrev name_at : ℕ → MachineName
  name_at s = record { task = n; slot = s }

  -- ---- the call of a slot

  same_call_for : (v : ℕ) (key : Key) (o : Option KeyWork) → work_for t.goal key ≡ o → is_some o ≡ true
      → option_and_then (slots.call_for_key records v) o ≡ key_call m n v key
  same_call_for v key None there some = absurd (false≢true some)
  same_call_for v key (Some it) there some =
      let is : it.key ≡ key =
      key_is it.key key (find_passes (λ work. same_key work.key key) (keys_of t.goal) it there) in
      (λ i. if is_some (can.digests_are it.key i) then Some (calls.DeleteVm v)
      else (if can.compiling_are it.key i then None
      else Some
      (calls.CompilePackage v it (kept_same (readers.digest_of records) k.digest it.deps can.digests_are i))))
      ∙ (λ i. if is_some (k.digest (is i)) then Some (calls.DeleteVm v)
      else (if is_compiling m (is i) then None else option_map (compiling k v) (sym there i)))

  keys_call : (s v : ℕ) (machine : Machine) (key : Option Key) → machine.key ≡ key_place k n key
      → ((it : Key) → key ≡ Some it → is_some (work_for t.goal it) ≡ true)
      → option_and_then (slots.call_for_key records v) (slots.key_for records work machine)
      ≡ option_and_then (key_call m n v) key
  keys_call s v machine None place wanted =
      ap (λ o. option_and_then (slots.call_for_key records v) (option_and_then (slots.key_at records work) o)) place
  keys_call s v machine (Some key) place wanted =
      ap (λ o. option_and_then (slots.call_for_key records v) (option_and_then (slots.key_at records work) o)) place
      ∙ ap (option_and_then (slots.call_for_key records v))
      (key_at_is m n worker records swept work can
      (first_marked (map (λ work. same_key work.key key) (keys_of t.goal)))
      ∙ found (λ work. same_key work.key key) (keys_of t.goal))
      ∙ same_call_for v key (work_for t.goal key) refl (wanted key refl)

  -- a slot that has a machine
  own_is : (s : ℕ) (machine : Machine) (dep : List ℕ) (make : Make) (key : Option Key) (vm : Option Vm)
      (doubt : Option Doubt) (call : Option ℕ) (idle : Bool)
      → is_none call ≡ idle → machine.key ≡ key_place k n key
      → ((it : Key) → key ≡ Some it → is_some (work_for t.goal it) ≡ true)
      → slots.own_call records work
      (record machine {
        row = record { task = n; slot = s; dep = dep; make = make; vm = vm; doubt = doubt };
        call = call;
      })
      ≡ (if idle then slot_by m n (record { dep = dep; make = make; vm = vm; doubt = doubt; key = key }) vm doubt
      else None)
  own_is s machine dep make key vm doubt (Some call) true idle place wanted = absurd (false≢true idle)
  own_is s machine dep make key vm None (Some call) false idle place wanted = refl
  own_is s machine dep make key vm (Some doubt) (Some call) false idle place wanted = refl
  own_is s machine dep make key vm doubt None false idle place wanted = absurd (true≢false idle)
  own_is s machine dep make key None (Some doubt) None true idle place wanted = refl
  own_is s machine dep make key (Some vm) (Some doubt) None true idle place wanted = refl
  own_is s machine dep make key None None None true idle place wanted = refl
  own_is s machine dep make key (Some vm) None None true idle place wanted =
      keys_call s vm.vm machine key place wanted

  -- a slot that has none makes one for the first key that it may take
  creation_is : (s : ℕ) → k.slot n s ≡ None → slots.creation records work s ≡ creation k n s
  creation_is s none =
      ap (option_and_then (slots.creation_for records work s)) (next_is m n worker records swept work can s none)
      ∙ by (next_key k n s)
    where
      slot_at_is : slots.slot_at records work s ≡ nth s (slots_of t.goal)
      slot_at_is = ap (option_and_then (λ (goal : Goal). slice_get goal.slots s))
          (goal_of_work m n worker records swept work can) ∙ of t.goal
        where
          of : (goal : Option Goal) → option_and_then (λ (goal : Goal). slice_get goal.slots s) goal
              ≡ nth s (slots_of goal)
          of (Some goal) = sym (nth_is s goal.slots)
          of None = sym (nth_is s (slots_of None) ∙ none_get s)
            where
              none_get : (s : ℕ) → slice_get (slots_of None) s ≡ None
              none_get zero = refl
              none_get (suc s) = refl

      by : (o : Option KeyWork) → option_and_then (slots.creation_for records work s) o
          ≡ option_and_then (λ work. option_map (λ make. calls.CreateVm (compile_make work.key make) [])
          (nth s (slots_of t.goal))) o
      by (Some it) = ap (option_map (λ (make : Make). calls.CreateVm (compile_make it.key make) [])) slot_at_is
      by None = refl

  pub slot_call_is : (s : ℕ) → s < length (slots_of t.goal)
      → slots.call_of_slot records work s
      ≡ (if is_slot_left k n s then (if is_idle m (Compile n s) then own_slot m n s (k.slot n s) else None)
      else None)
  slot_call_is s low =
      (λ i. slots.call_with records work s (readers.machine_at records (record { task = can.task_is i; slot = s })))
      ∙ by (readers.machine_at records (name_at s)) (k.slot n s) refl (can.machine_rows n s) (can.machine_idle s)
      (can.machine_keys s)
      ∙ ap (λ b. if b && (is_some (k.slot n s) || is_some (next_key k n s))
      then (if is_idle m (Compile n s) then own_slot m n s (k.slot n s) else None) else None)
      (sym (lt-ltb s (length (slots_of t.goal)) low))
    where
      by : (o : Option Machine) (slot : Option Slot) → k.slot n s ≡ slot → option_map (λ it. it.row) o
          ≡ option_map (row_of_slot n s) (k.slot n s)
          → is_none (option_and_then (λ it. it.call) o) ≡ is_idle m (Compile n s) → option_and_then (λ it. it.key) o
          ≡ key_place k n (key_of_slot (k.slot n s))
          → slots.call_with records work s o
          ≡ (if is_some (k.slot n s) || is_some (next_key k n s)
          then (if is_idle m (Compile n s) then own_slot m n s (k.slot n s) else None) else None)
      by (Some machine) (Some it) there row idle place =
          let e : Some machine.row ≡ Some (row_of_slot n s it) = row ∙ ap (option_map (row_of_slot n s)) there in
          let is : machine.row ≡ row_of_slot n s it = cc in
          (λ i. slots.own_call records work (record machine { row = is i; call = machine.call }))
          ∙ own_is s machine it.dep it.make it.key it.vm it.doubt machine.call (is_idle m (Compile n s)) idle
          (place ∙ ap (λ o. key_place k n (key_of_slot o)) there)
          (λ key is. can.wanted s key (ap key_of_slot there ∙ is))
          ∙ (λ i. if is_some (sym there i) || is_some (next_key k n s)
          then (if is_idle m (Compile n s) then own_slot m n s (sym there i) else None) else None)
      by None None there row idle place =
          creation_is s there
          ∙ of (next_key k n s)
          ∙ (λ i. if is_some (sym there i) || is_some (next_key k n s)
          then (if idle i then own_slot m n s (sym there i) else None) else None)
        where
          of : (o : Option KeyWork)
              → option_and_then
              (λ (work : KeyWork). option_map (λ make. calls.CreateVm (compile_make work.key make) [])
              (nth s (slots_of t.goal))) o
              ≡ (if is_some o then option_and_then
              (λ (work : KeyWork). option_map (λ make. calls.CreateVm (compile_make work.key make) [])
              (nth s (slots_of t.goal))) o else None)
          of (Some it) = refl
          of None = refl
      by (Some machine) None there row idle place = absurd (let e : Some machine.row ≡ None = row
          ∙ ap (option_map (row_of_slot n s)) there in cc)
      by None (Some it) there row idle place = absurd (let e : None ≡ Some (row_of_slot n s it) = row
          ∙ ap (option_map (row_of_slot n s)) there in cc)

  -- ---- all slots

  -- what is begun for a slot
  begun_for : (s : ℕ)
      → begun_by records work worker (option_map (slots.for_slot work s) (slots.call_of_slot records work s))
      ≡ option_map (new_call m n worker (Compile n s)) (slots.call_of_slot records work s)
  begun_for s = by (slots.call_of_slot records work s)
    where
      by : (o : Option Call) → begun_by records work worker (option_map (slots.for_slot work s) o)
          ≡ option_map (new_call m n worker (Compile n s)) o
      by (Some call) = ap Some ((λ i. beginning records work worker (Compile (can.task_is i) s) call)
          ∙ call_is m n worker records swept work can (Compile n s) call)
      by None = refl

  slot_answer : IsPresent k n 2 → (s : ℕ) → s < length (slots_of t.goal)
      → option_map (new_call m n worker (Compile n s)) (slots.call_of_slot records work s)
      ≡ answer k n (gives m n worker) (Compile n s)
  slot_answer present s low =
      ap (option_map (new_call m n worker (Compile n s))) (slot_call_is s low)
      ∙ by (is_slot_left k n s) (is_idle m (Compile n s)) (own_slot m n s (k.slot n s))
      ∙ sym (ap (λ b. if b then gives m n worker (Compile n s) else None)
      (item_as k n 2 present (Compile n s) (own_late k n 2 s (omega arith))
      ∙ ap (is_phase k n 2) (own_phase k n s) ∙ of (is_slot_left k n s))
      ∙ ap (λ b. if is_slot_left k n s then (if not (is_idle m (Compile n s)) then None else item m n worker
      (Compile n s) (if b then own_slot m n s (k.slot n s) else sweep_call (k.slot n s))) else None)
      (eq-eqb n n refl))
    where
      of : (b : Bool) → is_phase k n 2 (if b then Some 2 else None) ≡ b
      of true = refl
      of false = refl

      by : (l d : Bool) (o : Option Call) → option_map (new_call m n worker (Compile n s))
          (if l then (if d then o else None) else None)
          ≡ (if l then (if not d then None else item m n worker (Compile n s) o) else None)
      by true true (Some call) = refl
      by true true None = refl
      by true false o = refl
      by false d o = refl

  or_none : (o : Option Entry) → option_or o None ≡ o
  or_none (Some e) = refl
  or_none None = refl

  map_or : {A B : Type 0} (g : A → B) (a b : Option A) → option_map g (option_or a b)
      ≡ option_or (option_map g a) (option_map g b)
  map_or g (Some a) b = refl
  map_or g None b = refl

  below_is : IsPresent k n 2 → (count : ℕ) → count ≤ length (slots_of t.goal)
      → begun_by records work worker (slots.call_below records work count)
      ≡ first_answer (λ s. answer k n (gives m n worker) (Compile n s)) (numbers_below count)
  below_is present zero low = refl
  below_is present (suc count) low =
      map_or (λ (it : Owner × Call). beginning records work worker it.0 it.1) (slots.call_below records work count)
      (option_map (slots.for_slot work count) (slots.call_of_slot records work count))
      ∙ (λ i. option_or (below_is present count (omega arith) i)
      ((begun_for count ∙ slot_answer present count (omega arith)
      ∙ sym (or_none (answer k n (gives m n worker) (Compile n count)))) i))
      ∙ sym (answers_append (λ s. answer k n (gives m n worker) (Compile n s)) (numbers_below count) (count ∷ []))

  pub slots_are : IsPresent k n 2 → begun_by records work worker (slots.slot_call records work)
      ≡ of_slots k n (gives m n worker)
  slots_are present = ap (λ count. begun_by records work worker (slots.call_below records work count)) can.slots_are
      ∙ below_is present (length (slots_of t.goal)) (omega arith)
