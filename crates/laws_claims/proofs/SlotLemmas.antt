-- Compile machines and orphaned disks of which something is left have a call.
use Rattle.std.proofs.Common.{◌≡◌, ◌∙◌, ℕ, ◌<◌, zero, suc, Bool, true, false, ◌&&◌, ◌||◌, not, List, [], ◌∷◌, length}
use Rattle.std.proofs.Common.{Option, Some, None, ap, refl, sym, subst, arith}
use Rattle.std.specs.Prelude.{eqb, is_some, nat_lt, if◌then◌else◌}
use Rattle.std.specs.Option.{option_and_then, option_map}
use Rattle.std.proofs.lemmas.Bool.{and_parts, false≢true, ltb-true}
use Rattle.bosh_base.specs.declared.call.Call.TheVariants as calls
use Rattle.bosh_base.specs.declared.key.Key.{Key}
use Rattle.bosh_base.specs.declared.owner.Owner.TheVariants.{Compile}
use Rattle.bosh_base.specs.declared.row.Doubt.{Doubt}
use Rattle.bosh_base.specs.declared.row.Vm.{Vm}
use Rattle.bosh_history.specs.Items.{is_leftover, is_slot_left, slots_of}
use Rattle.bosh_history.specs.Known.{Slot, SlotName}
use Rattle.bosh_history.specs.Moments.{Moment}
use Rattle.bosh_history.specs.Slots.{is_compiled, next_key}
use Rattle.bosh_history.specs.Steps.{compile_make, compiling, is_compiling, is_idle, key_call, nth, own_slot}
use Rattle.bosh_history.specs.Words.{holds}
use Rattle.bosh_history.specs.Steps.{slot_by, sweep_by, sweep_call, work_for}
use Rattle.laws_claims.proofs.Premises.{CanGoOn}
use Rattle.laws_claims.specs.Quiet.{is_in_the_making, key_of}
use Rattle.laws_items.proofs.ListLemmas.{holds_some}

nth_some : {X : Type 0} (s : ℕ) (xs : List X) → s < length xs → is_some (nth s xs) ≡ true
nth_some s [] below = absurd (omega arith)
nth_some zero (x ∷ xs) below = refl
nth_some (suc s) (x ∷ xs) below = nth_some s xs (omega arith)

some_mapped : {X Y : Type 0} (f : X → Y) (o : Option X) → is_some o ≡ true → is_some (option_map f o) ≡ true
some_mapped f (Some x) is = refl
some_mapped f None is = absurd (false≢true is)

some_then : {X Y : Type 0} (f : X → Option Y) (o : Option X) → is_some o ≡ true → ((x : X) → is_some (f x) ≡ true)
    → is_some (option_and_then f o) ≡ true
some_then f (Some x) is each = each x
some_then f None is each = absurd (false≢true is)

module _ (m : Moment) (t : ℕ) (can : CanGoOn m t) where
  -- a machine has a call, unless another call compiles its key
  key_has_call : (v : ℕ) (key : Option Key) → holds (is_in_the_making m) key ≡ false
      → is_some (option_and_then (work_for (m.known.task t).goal) key) ≡ true
      → is_some (option_and_then (key_call m t v) key) ≡ true
  key_has_call v None rests wanted = absurd (false≢true wanted)
  key_has_call v (Some key) rests wanted = by (is_compiled m.known key) (is_compiling m key) rests
    where
      by : (done busy : Bool) → (not done && busy) ≡ false
          → is_some (if done then Some (calls.DeleteVm v) else (if busy then None
          else option_map (compiling m.known v) (work_for (m.known.task t).goal key))) ≡ true
      by true busy rests = refl
      by false false rests = some_mapped (compiling m.known v) (work_for (m.known.task t).goal key) wanted
      by false true rests = absurd (false≢true (sym rests))

  -- a compile machine of the task has a call
  pub own_has_call : (m.known.task t).failed ≡ None → (s : ℕ) → holds (is_in_the_making m) (key_of m t s) ≡ false
      → is_idle m (Compile t s) ≡ true → is_slot_left m.known t s ≡ true
      → is_some (own_slot m t s (m.known.slot t s)) ≡ true
  own_has_call good s rests idle left = by (m.known.slot t s) refl
    where
      parts : (slot : Option Slot) → m.known.slot t s ≡ slot
          → (nat_lt s (length (slots_of (m.known.task t).goal)) ≡ true)
          × ((is_some slot || is_some (next_key m.known t s)) ≡ true)
      parts slot is =
          and_parts (nat_lt s (length (slots_of (m.known.task t).goal)))
          (is_some slot || is_some (next_key m.known t s))
          (subst
          (λ (it : Option Slot). (nat_lt s (length (slots_of (m.known.task t).goal))
          && (is_some it || is_some (next_key m.known t s))) ≡ true)
          is left)

      by_vm : (it : Slot) → m.known.slot t s ≡ Some it → (vm : Option Vm) (doubt : Option Doubt) → it.vm ≡ vm
          → it.doubt ≡ doubt → is_some (slot_by m t it vm doubt) ≡ true
      by_vm it is (Some vm) None known settled =
          key_has_call vm.vm it.key
          (sym (ap (λ (slot : Option Slot). holds (is_in_the_making m) (option_and_then (λ it. it.key) slot)) is)
          ∙ rests)
          (can.keys_are_wanted s it is)
      by_vm it is None None known settled =
          absurd (false≢true (sym (ap is_some settled) ∙ can.machines_are_known t s it is known))
      by_vm it is vm (Some doubt) known settled =
          absurd (let none : it.doubt ≡ None = can.doubts_are_open good s it is idle in cc)

      by : (slot : Option Slot) → m.known.slot t s ≡ slot → is_some (own_slot m t s slot) ≡ true
      by (Some it) is = by_vm it is it.vm it.doubt refl refl
      by None is =
          let it : (nat_lt s (length (slots_of (m.known.task t).goal)) ≡ true) ×
          (is_some (next_key m.known t s) ≡ true) = parts None is in
          some_then
          (λ work. option_map (λ make. calls.CreateVm (compile_make work.key make) [])
          (nth s (slots_of (m.known.task t).goal)))
          (next_key m.known t s) it.1
          (λ work. some_mapped (λ make. calls.CreateVm (compile_make work.key make) [])
          (nth s (slots_of (m.known.task t).goal))
          (nth_some s (slots_of (m.known.task t).goal) (ltb-true s (length (slots_of (m.known.task t).goal)) it.0)))

  -- .. and none while another call does
  pub held_up_has_none : (m.known.task t).failed ≡ None → (s : ℕ) → holds (is_in_the_making m) (key_of m t s) ≡ true
      → is_idle m (Compile t s) ≡ true → own_slot m t s (m.known.slot t s) ≡ None
  held_up_has_none good s busy idle = by (m.known.slot t s) refl
    where
      no_call : (v : ℕ) (key : Option Key) → holds (is_in_the_making m) key ≡ true
          → option_and_then (key_call m t v) key ≡ None
      no_call v None busy = refl
      no_call v (Some key) busy = at (is_compiled m.known key) (is_compiling m key) busy
        where
          at : (done busy : Bool) → (not done && busy) ≡ true
              → (if done then Some (calls.DeleteVm v) else (if busy then None
              else option_map (compiling m.known v) (work_for (m.known.task t).goal key))) ≡ None
          at true busy held = absurd (false≢true held)
          at false true held = refl
          at false false held = absurd (false≢true held)

      by_vm : (it : Slot) → m.known.slot t s ≡ Some it → (vm : Option Vm) (doubt : Option Doubt)
          → slot_by m t it vm doubt ≡ None
      by_vm it is (Some vm) None =
          no_call vm.vm it.key
          (sym (ap (λ (slot : Option Slot). holds (is_in_the_making m) (option_and_then (λ it. it.key) slot)) is)
          ∙ busy)
      by_vm it is None doubt = refl
      by_vm it is (Some vm) (Some doubt) = refl

      by : (slot : Option Slot) → m.known.slot t s ≡ slot → own_slot m t s slot ≡ None
      by (Some it) is = by_vm it is it.vm it.doubt
      by None is =
          absurd
          (false≢true
          (sym (ap (λ (slot : Option Slot). holds (is_in_the_making m) (option_and_then (λ it. it.key) slot)) is)
          ∙ busy))

  -- so has one that an earlier task left
  pub left_has_call : (name : SlotName) → is_leftover m.known t name ≡ true
      → is_some (sweep_call (m.known.slot name.task name.slot)) ≡ true
  left_has_call name left =
      let it : (slot : Slot) × (m.known.slot name.task name.slot ≡ Some slot) × _ =
      holds_some _ (m.known.slot name.task name.slot) (and_parts (not (eqb name.task t)) _ left).1 in
      ap (λ slot. is_some (sweep_call slot)) it.1 ∙ by it.0 it.1 (it.0).vm (it.0).doubt refl refl
    where
      by : (it : Slot) → m.known.slot name.task name.slot ≡ Some it → (vm : Option Vm) (doubt : Option Doubt)
          → it.vm ≡ vm → it.doubt ≡ doubt → is_some (sweep_by vm doubt) ≡ true
      by it is (Some vm) None known settled = refl
      by it is (Some vm) (Some doubt) known settled = refl
      by it is None (Some doubt) known settled = refl
      by it is None None known settled =
          absurd (false≢true (sym (ap is_some settled) ∙ can.machines_are_known name.task name.slot it is known))
