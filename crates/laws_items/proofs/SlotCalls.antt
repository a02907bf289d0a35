-- The call that is to be made for a compile machine, case by case.
use Rattle.std.proofs.Common.{◌≡◌, ◌∙◌, ℕ, Bool, true, false, Option, Some, None, [], refl, sym}
use Rattle.std.specs.Prelude.{◌==◌, if◌then◌else◌}
use Rattle.std.specs.Option.{option_and_then, option_map}
use Rattle.std.proofs.lemmas.Bool.{false≢true}
use Rattle.bosh_base.specs.declared.call.Call.{Call}
use Rattle.bosh_base.specs.declared.call.Call.TheVariants as calls
use Rattle.bosh_base.specs.declared.key.Key.{Key}
use Rattle.bosh_base.specs.declared.key.KeyWork.{KeyWork}
use Rattle.bosh_base.specs.declared.make.Make.{Make}
use Rattle.bosh_base.specs.declared.owner.Owner.TheVariants.{Compile}
use Rattle.bosh_base.specs.declared.row.Doubt.{Doubt}
use Rattle.bosh_base.specs.declared.row.Vm.{Vm}
use Rattle.bosh_history.specs.Items.{slots_of}
use Rattle.bosh_history.specs.Known.{Slot}
use Rattle.bosh_history.specs.Moments.{Moment}
use Rattle.bosh_history.specs.Slots.{is_compiled, next_key}
use Rattle.bosh_history.specs.Steps.{call_now, compile_make, compiling, is_compiling, nth, own_slot, slot_by}
use Rattle.bosh_history.specs.Steps.{sweep_by, sweep_call, work_for}
use Rattle.bosh_history.specs.Words.{holds}

-- An idle slot of the task makes a machine for the next key; one with a machine compiles its key, or deletes the
-- machine
-- once the key is compiled; a machine of an earlier task is asked for, or deleted.
pub data SlotCall (m : Moment) (t task s : ℕ) (call : Call) : Type 0 where
  creates : (work : KeyWork) (make : Make) → (task == t) ≡ true → m.known.slot task s ≡ None
      → next_key m.known t s ≡ Some work → nth s (slots_of (m.known.task t).goal) ≡ Some make
      → calls.CreateVm (compile_make work.key make) [] ≡ call → SlotCall m t task s call
  deletes : (it : Slot) (vm : Vm) → m.known.slot task s ≡ Some it → it.vm ≡ Some vm → it.doubt ≡ None
      → ((task == t) ≡ true → holds (is_compiled m.known) it.key ≡ true)
      → calls.DeleteVm vm.vm ≡ call → SlotCall m t task s call
  compiles : (it : Slot) (vm : Vm) (key : Key) (work : KeyWork) → (task == t) ≡ true → m.known.slot task s ≡ Some it
      → it.vm ≡ Some vm → it.doubt ≡ None → it.key ≡ Some key → is_compiled m.known key ≡ false
      → is_compiling m key ≡ false → work_for (m.known.task t).goal key ≡ Some work
      → compiling m.known vm.vm work ≡ call → SlotCall m t task s call
  finds : (it : Slot) (doubt : Doubt) → (task == t) ≡ false → m.known.slot task s ≡ Some it → it.vm ≡ None
      → it.doubt ≡ Some doubt → calls.FindVm doubt.n ≡ call → SlotCall m t task s call
  looks : (it : Slot) (vm : Vm) (doubt : Doubt) → (task == t) ≡ false → m.known.slot task s ≡ Some it
      → it.vm ≡ Some vm → it.doubt ≡ Some doubt → calls.HasVm vm.vm ≡ call → SlotCall m t task s call

one : {X : Type 0} (a b : X) → Some a ≡ Some b → a ≡ b
one a b is = cc

module _ (m : Moment) (t task s : ℕ) (call : Call) where
  -- an idle slot of the task
  created : (task == t) ≡ true → m.known.slot task s ≡ None → (work : Option KeyWork) → next_key m.known t s ≡ work
      → (make : Option Make) → nth s (slots_of (m.known.task t).goal) ≡ make
      → option_and_then
      (λ work. option_map (λ make. calls.CreateVm (compile_make work.key make) []) make) work ≡ Some call
      → SlotCall m t task s call
  created own none (Some work) next (Some make) at is =
      creates work make own none next at (one (calls.CreateVm (compile_make work.key make) []) call is)
  created own none (Some work) next None at is = absurd cc
  created own none None next make at is = absurd cc

  -- a slot of the task with a machine and a key
  keyed : (task == t) ≡ true → (it : Slot) (vm : Vm) (key : Key) → m.known.slot task s ≡ Some it → it.vm ≡ Some vm
      → it.doubt ≡ None → it.key ≡ Some key → (done : Bool) → is_compiled m.known key ≡ done → (busy : Bool)
      → is_compiling m key ≡ busy → (work : Option KeyWork) → work_for (m.known.task t).goal key ≡ work
      → (if done then Some (calls.DeleteVm vm.vm)
      else (if busy then None else option_map (compiling m.known vm.vm) work)) ≡ Some call → SlotCall m t task s call
  keyed own it vm key at has none keyed_by true done busy waits work of is =
      deletes it vm at has none (λ own. (λ j. holds (is_compiled m.known) (keyed_by j)) ∙ done)
      (one (calls.DeleteVm vm.vm) call is)
  keyed own it vm key at has none keyed_by false done true waits work of is = absurd cc
  keyed own it vm key at has none keyed_by false done false waits (Some work) of is =
      compiles it vm key work own at has none keyed_by done waits of (one (compiling m.known vm.vm work) call is)
  keyed own it vm key at has none keyed_by false done false waits None of is = absurd cc

  mine : (task == t) ≡ true → (it : Slot) → m.known.slot task s ≡ Some it → (vm : Option Vm) → it.vm ≡ vm
      → (doubt : Option Doubt) → it.doubt ≡ doubt → (key : Option Key) → it.key ≡ key
      → slot_by m t (record it { key = key }) vm doubt ≡ Some call → SlotCall m t task s call
  mine own it at (Some vm) has None none (Some key) keyed_by is =
      keyed own it vm key at has none keyed_by (is_compiled m.known key) refl (is_compiling m key) refl
      (work_for (m.known.task t).goal key) refl is
  mine own it at (Some vm) has None none None keyed_by is = absurd cc
  mine own it at (Some vm) has (Some doubt) none key keyed_by is = absurd cc
  mine own it at None has doubt none key keyed_by is = absurd cc

  -- a machine of an earlier task
  swept : (task == t) ≡ false → (it : Slot) → m.known.slot task s ≡ Some it → (vm : Option Vm) → it.vm ≡ vm
      → (doubt : Option Doubt) → it.doubt ≡ doubt → sweep_by vm doubt ≡ Some call → SlotCall m t task s call
  swept other it at None has (Some doubt) doubted is =
      finds it doubt other at has doubted (one (calls.FindVm doubt.n) call is)
  swept other it at None has None doubted is = absurd cc
  swept other it at (Some vm) has (Some doubt) doubted is =
      looks it vm doubt other at has doubted (one (calls.HasVm vm.vm) call is)
  swept other it at (Some vm) has None doubted is =
      deletes it vm at has doubted (λ own. absurd (false≢true (sym other ∙ own))) (one (calls.DeleteVm vm.vm) call is)

  pub slot_call : call_now m t (Compile task s) ≡ Some call → SlotCall m t task s call
  slot_call is = by (task == t) refl (m.known.slot task s) refl is
    where
      by : (own : Bool) → (task == t) ≡ own → (slot : Option Slot) → m.known.slot task s ≡ slot
          → (if own then own_slot m t s slot else sweep_call slot) ≡ Some call → SlotCall m t task s call
      by true own None at is =
          created own at (next_key m.known t s) refl (nth s (slots_of (m.known.task t).goal)) refl is
      by true own (Some it) at is = mine own it at it.vm refl it.doubt refl it.key refl is
      by false other None at is = absurd cc
      by false other (Some it) at is = swept other it at it.vm refl it.doubt refl is
