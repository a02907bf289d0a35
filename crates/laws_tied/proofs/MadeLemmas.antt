-- A machine that is there was made.
use Rattle.std.proofs.Common.{◌≡◌, ℕ, ◌+◌, Bool, true, false, ◌&&◌, Option, Some, None, List, [], ◌∷◌, ◌++◌}
use Rattle.std.proofs.Common.{refl}
use Rattle.std.specs.Prelude.{◌==◌, is_some}
use Rattle.std.proofs.lemmas.Bool.{false≢true}
use Rattle.bosh_base.specs.Cloud.{creates_vm, is_vm_there, vm_created, vm_creation, vm_presence, vm_stays, vms_created, when}
use Rattle.bosh_base.specs.History.{chosen, latest_seen}
use Rattle.bosh_base.specs.declared.call.Call.{Call}
use Rattle.bosh_base.specs.declared.call.Call.TheVariants.{CreateVm, DeleteVm}
use Rattle.bosh_base.specs.declared.entry.Effect as effect
use Rattle.bosh_base.specs.declared.entry.Entry.{Entry}
use Rattle.bosh_base.specs.declared.entry.Entry.TheVariants.{Effect, Lost}

-- one more entry brings no machine that it does not make
module _ (v : ℕ) (was_there : Bool) (was_made : Option effect.Effect) (made : was_there ≡ true → is_some was_made ≡ true) where
  still : (e : Option effect.Effect) → chosen None was_there ≡ true → is_some (chosen None was_made) ≡ true
  still e is = made is

  called : (created : ℕ) (e : effect.Effect) (call : Call)
      → chosen (vm_stays v created call) was_there ≡ true
      → is_some (chosen (when (creates_vm call && created + 1 == v) (Some e)) was_made) ≡ true
  called created e (CreateVm make disks) is = by (created + 1 == v) is
    where
      by : (b : Bool) → chosen (when b true) was_there ≡ true → is_some (chosen (when b (Some e)) was_made) ≡ true
      by true is = refl
      by false is = made is
  called created e (DeleteVm vm) is = by (vm == v) is
    where
      by : (b : Bool) → chosen (when b false) was_there ≡ true → is_some was_made ≡ true
      by true is = absurd (false≢true is)
      by false is = made is
  called created e call is = made is

  one_more : (before : List Entry) (x : Entry) → chosen (vm_presence v before x) was_there ≡ true
      → is_some (chosen (vm_created v before x) was_made) ≡ true
  one_more before (Effect e) is = called (vms_created before) e e.call is
  one_more before (Lost loss) is = by (loss.whole && loss.vm == v) is
    where
      by : (b : Bool) → chosen (when b false) was_there ≡ true → is_some was_made ≡ true
      by true is = absurd (false≢true is)
      by false is = made is
  one_more before x is = made is

seen_made : (v : ℕ) (was_there : Bool) (was_made : Option effect.Effect)
    → (was_there ≡ true → is_some was_made ≡ true) → (before xs : List Entry)
    → latest_seen (vm_presence v) was_there before xs ≡ true
    → is_some (latest_seen (vm_created v) was_made before xs) ≡ true
seen_made v was_there was_made made before [] is = made is
seen_made v was_there was_made made before (x ∷ xs) is =
    seen_made v (chosen (vm_presence v before x) was_there) (chosen (vm_created v before x) was_made)
    (one_more v was_there was_made made before x) (before ++ x ∷ []) xs is

pub there_made : (effects : List Entry) (v : ℕ) → is_vm_there effects v ≡ true
    → is_some (vm_creation effects v) ≡ true
there_made effects v is = seen_made v false None (λ never. absurd (false≢true never)) [] effects is
