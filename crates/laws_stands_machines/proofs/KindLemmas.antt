-- Which call is to be made for a compile machine: none that makes one, where it is recorded, and none that compiles a key
-- that is being compiled.
use Rattle.std.proofs.Common.{◌≡◌, ◌∙◌, ℕ, Bool, true, false, [], Option, Some, None, ap, refl, subst, sym}
use Rattle.std.specs.Prelude.{if◌then◌else◌}
use Rattle.std.specs.Option.{option_and_then, option_map}
use Rattle.std.proofs.lemmas.Bool.{false≢true}
use Rattle.bosh_base.specs.declared.call.Call.{Call}
use Rattle.bosh_base.specs.declared.call.Call.TheVariants as calls
use Rattle.bosh_base.specs.declared.key.Key.{Key}
use Rattle.bosh_base.specs.declared.key.KeyWork.{KeyWork}
use Rattle.bosh_base.specs.declared.make.Make.{Make}
use Rattle.bosh_base.specs.declared.row.Doubt.{Doubt}
use Rattle.bosh_base.specs.declared.row.Vm.{Vm}
use Rattle.bosh_compile.proofs.KeyLemmas.{same_key_decides}
use Rattle.bosh_compile.specs.Readiness.{same_key}
use Rattle.bosh_history.specs.Items.{slots_of}
use Rattle.bosh_history.specs.Known.{Known, Slot}
use Rattle.bosh_history.specs.Moments.{Moment}
use Rattle.bosh_history.specs.Slots.{is_compiled, keys_of, next_key}
use Rattle.bosh_history.specs.Steps.{compile_make, compiles, compiling, creation, is_compiling, key_call, nth, own_slot, slot_by, sweep_by, sweep_call, work_for}
use Rattle.laws_stands.proofs.NextKeyLemmas.{find_passes}
use Rattle.laws_stands_begun.specs.Beginning.{makes_machine}

-- a call of a machine that is recorded
pub record IsCallOfMachine (m : Moment) (call : Call) : Type 0 where
  pub makes_none : makes_machine call ≡ false
  pub compiles_new : (key : Key) → compiles key call ≡ true → is_compiling m key ≡ false

-- a call that neither makes a machine nor compiles
plain : (m : Moment) (call : Call) → makes_machine call ≡ false → ((key : Key) → compiles key call ≡ false)
    → IsCallOfMachine m call
plain m call makes none = record {
  makes_none = makes;
  compiles_new = λ key is. absurd (false≢true (sym (none key) ∙ is));
}

same_call : (m : Moment) (one other : Call) → Some one ≡ Some other → IsCallOfMachine m one → IsCallOfMachine m other
same_call m one other is of = let same : one ≡ other = cc in subst (IsCallOfMachine m) same of

-- .. that sweeps
pub sweeps : (m : Moment) (call : Call) (slot : Option Slot) → sweep_call slot ≡ Some call → IsCallOfMachine m call
sweeps m call None is = absurd cc
sweeps m call (Some it) is = by it.vm it.doubt is
  where
    by : (vm : Option Vm) (doubt : Option Doubt) → sweep_by vm doubt ≡ Some call → IsCallOfMachine m call
    by None (Some doubt) is =
        same_call m (calls.FindVm doubt.n) call is (plain m (calls.FindVm doubt.n) refl (λ key. refl))
    by None None is = absurd cc
    by (Some vm) (Some doubt) is =
        same_call m (calls.HasVm vm.vm) call is (plain m (calls.HasVm vm.vm) refl (λ key. refl))
    by (Some vm) None is =
        same_call m (calls.DeleteVm vm.vm) call is (plain m (calls.DeleteVm vm.vm) refl (λ key. refl))

module _ (m : Moment) (t : ℕ) (call : Call) where
  -- .. for a key
  for_key : (v : ℕ) (key : Key) → key_call m t v key ≡ Some call → IsCallOfMachine m call
  for_key v key is = by (is_compiled m.known key) (is_compiling m key) refl (work_for (m.known.task t).goal key) refl is
    where
      by : (done going : Bool) → is_compiling m key ≡ going → (work : Option KeyWork)
          → work_for (m.known.task t).goal key ≡ work
          → (if done then Some (calls.DeleteVm v) else (if going then None
          else option_map (compiling m.known v) work)) ≡ Some call
          → IsCallOfMachine m call
      by true going free work found is =
          same_call m (calls.DeleteVm v) call is (plain m (calls.DeleteVm v) refl (λ key. refl))
      by false true free work found is = absurd cc
      by false false free None found is = absurd cc
      by false false free (Some work) found is =
          same_call m (compiling m.known v work) call is (record {
            makes_none = refl;
            compiles_new = λ other same.
                ap (is_compiling m)
                (sym ((same_key_decides work.key other).0 same)
                ∙ (same_key_decides work.key key).0
                (find_passes (λ (work : KeyWork). same_key work.key key) (keys_of (m.known.task t).goal) work found))
                ∙ free;
          })

  -- .. of a machine of the task's own
  pub of_its_own : (s : ℕ) (it : Slot) → own_slot m t s (Some it) ≡ Some call → IsCallOfMachine m call
  of_its_own s it is = by it.vm it.doubt it.key is
    where
      by : (vm : Option Vm) (doubt : Option Doubt) (key : Option Key)
          → slot_by m t (record it { key = key }) vm doubt ≡ Some call
          → IsCallOfMachine m call
      by (Some vm) None (Some key) is = for_key vm.vm key is
      by (Some vm) None None is = absurd cc
      by (Some vm) (Some doubt) key is = absurd cc
      by None doubt key is = absurd cc

-- a machine that is not recorded is made
pub makes : (k : Known) (t s : ℕ) (call : Call) → creation k t s ≡ Some call
    → (make : Make) × (call ≡ calls.CreateVm make [])
makes k t s call is = by (next_key k t s) (nth s (slots_of (k.task t).goal)) is
  where
    by : (work : Option KeyWork) (make : Option Make)
        → option_and_then (λ (work : KeyWork). option_map (λ make. calls.CreateVm (compile_make work.key make) []) make)
        work ≡ Some call
        → (make : Make) × (call ≡ calls.CreateVm make [])
    by (Some work) (Some make) is =
        let same : calls.CreateVm (compile_make work.key make) [] ≡ call = cc in (compile_make work.key make, sym same)
    by (Some work) None is = absurd cc
    by None make is = absurd cc
