-- One more entry, and the machine of a number.
use Rattle.std.proofs.Common.{◌≡◌, ℕ, ◌+◌, ◌≤◌, ◌<◌, Bool, true, false, Option, Some, None, List, [], ◌∷◌, ◌++◌, refl, ◌∙◌, ap, arith}
use Rattle.std.specs.Prelude.{◌&&◌, ◌==◌, not, if◌then◌else◌}
use Rattle.std.proofs.lemmas.Bool.{eqb-true, ne_eqb}
use Rattle.bosh_base.proofs.HistoryLemmas.{latest_last}
use Rattle.bosh_base.specs.CallStep.{has_agent}
use Rattle.bosh_base.specs.Cloud.{when, applied, by_call, drained, is_drained, is_running, is_silent, is_vm_there, silence, spec_of, started, vm_presence, vm_stays, vms_created}
use Rattle.bosh_base.specs.History.{chosen}
use Rattle.bosh_base.specs.declared.call.Call.{Call}
use Rattle.bosh_base.specs.declared.call.Call.TheVariants.{CreateVm, DeleteVm, Apply, Start, Drain, Stop}
use Rattle.bosh_base.specs.declared.entry.Entry.{Entry}
use Rattle.bosh_base.specs.declared.entry.Entry.TheVariants.{Effect, Lost}
use Rattle.bosh_base.specs.declared.spec.Spec.{Spec}
use Rattle.laws_effects.proofs.AheadLemmas.{IsBehind, behind}
use Rattle.laws_effects.proofs.CreationLemmas.{is_vm_there-grown}
use Rattle.laws_effects.specs.Orderly.{AreOrderly}
use Rattle.laws_effects.specs.VmStates.{VmState, vm_state, new_vm, vm_after_call, vm_after_loss, vm_after}

-- the parts of a machine after an entry that says so of each
abbrev told : VmState → Option Bool → Option Bool → Option (Option Spec) → Option Bool → Option Bool → VmState
told it there silent spec running drained = record {
  there = chosen there it.there;
  silent = chosen silent it.silent;
  spec = chosen spec it.spec;
  running = chosen running it.running;
  drained = chosen drained it.drained;
}

grown : (xs : List Entry) (x : Entry) (v : ℕ) →
    vm_state (xs ++ x ∷ []) v
    ≡ told (vm_state xs v) (vm_presence v xs x) (silence v x) (by_call (applied v) x) (by_call (started v) x)
    (by_call (drained v) x)
grown xs x v =
    let there : is_vm_there (xs ++ x ∷ []) v ≡ chosen (vm_presence v xs x) (is_vm_there xs v) =
    is_vm_there-grown xs x v in
    let silent : is_silent (xs ++ x ∷ []) v ≡ chosen (silence v x) (is_silent xs v) =
    latest_last (silence v) false xs x in
    let spec : spec_of (xs ++ x ∷ []) v ≡ chosen (by_call (applied v) x) (spec_of xs v) =
    latest_last (by_call (applied v)) None xs x in
    let running : is_running (xs ++ x ∷ []) v ≡ chosen (by_call (started v) x) (is_running xs v) =
    latest_last (by_call (started v)) false xs x in
    let draining : is_drained (xs ++ x ∷ []) v ≡ chosen (by_call (drained v) x) (is_drained xs v) =
    latest_last (by_call (drained v)) false xs x in
    λ i. record { there = there i; silent = silent i; spec = spec i; running = running i; drained = draining i }

-- what a call says is what it changes, where a machine that is created is as new
by_call_told : (n v : ℕ) (call : Call) (it : VmState) → (n < v → (there : Bool) → record it { there = true } ≡ new_vm) →
    told it (vm_stays v n call) None (applied v call) (started v call) (drained v call) ≡ vm_after_call n v call it
by_call_told n v (CreateVm make disks) it new = by_number (n + 1 == v) refl
  where
    by_number : (b : Bool) → (n + 1 == v) ≡ b →
        told it (when b true) None None None None ≡ (if b then new_vm else it)
    by_number true is = let next : n + 1 ≡ v = eqb-true (n + 1) v is in new (omega arith) true
    by_number false is = refl
by_call_told n v (DeleteVm vm) it new = by_number (vm == v)
  where
    by_number : (b : Bool) → told it (when b false) None None None None ≡
        (if b then record it { there = false } else it)
    by_number true = refl
    by_number false = refl
by_call_told n v (Apply vm spec) it new = by_number (vm == v)
  where
    by_number : (b : Bool) →
        told it None None (when b (Some spec)) None None ≡ (if b then record it { spec = Some spec } else it)
    by_number true = refl
    by_number false = refl
by_call_told n v (Start vm) it new = by_number (vm == v)
  where
    by_number : (b : Bool) →
        told it None None None (when b true) (when b false)
        ≡ (if b then record it { running = true; drained = false } else it)
    by_number true = refl
    by_number false = refl
by_call_told n v (Drain vm) it new = by_number (vm == v)
  where
    by_number : (b : Bool) → told it None None None None (when b true) ≡
        (if b then record it { drained = true } else it)
    by_number true = refl
    by_number false = refl
by_call_told n v (Stop vm) it new = by_number (vm == v)
  where
    by_number : (b : Bool) →
        told it None None None (when b false) None ≡ (if b then record it { running = false } else it)
    by_number true = refl
    by_number false = refl
by_call_told n v call it new = refl

by_loss_told : (whole is : Bool) (it : VmState) →
    told it (when (whole && is) false) (when (not whole && is) true) None None None
    ≡ (if is then vm_after_loss whole it else it)
by_loss_told true true it = refl
by_loss_told true false it = refl
by_loss_told false true it = refl
by_loss_told false false it = refl

new_ahead : (xs : List Entry) → IsBehind xs → (v : ℕ) → vms_created xs < v → (there : Bool) →
    record (vm_state xs v) { there = true } ≡ new_vm
new_ahead xs behind v later there = λ i. record {
  there = true;
  silent = behind.silent v later i;
  spec = behind.spec v later i;
  running = behind.running v later i;
  drained = behind.drained v later i;
}

pub entry_changes_vm : (before : List Entry) (entry : Entry) (v : ℕ) → AreOrderly before →
    vm_state (before ++ entry ∷ []) v ≡ vm_after (vms_created before) v entry (vm_state before v)
entry_changes_vm xs x v orderly = grown xs x v ∙ by_entry x
  where
    by_entry : (x : Entry) →
        told (vm_state xs v) (vm_presence v xs x) (silence v x) (by_call (applied v) x) (by_call (started v) x)
        (by_call (drained v) x)
        ≡ vm_after (vms_created xs) v x (vm_state xs v)
    by_entry (Effect e) =
        by_call_told (vms_created xs) v e.call (vm_state xs v) (new_ahead xs (behind xs orderly) v)
    by_entry (Lost loss) = by_loss_told loss.whole (loss.vm == v) (vm_state xs v)
    by_entry x = refl

-- ---- what is gone

past_call : (n v : ℕ) (call : Call) → v ≤ n → chosen (vm_stays v n call) false ≡ false
past_call n v (CreateVm make disks) below = ap (λ is. chosen (when is true) false)
    (ne_eqb (n + 1) v (λ is. absurd (omega arith)))
past_call n v (DeleteVm vm) below = by_number (vm == v)
  where
    by_number : (b : Bool) → chosen (when b false) false ≡ false
    by_number true = refl
    by_number false = refl
past_call n v call below = refl

never_there : (xs : List Entry) (x : Entry) (v : ℕ) → v ≤ vms_created xs → chosen (vm_presence v xs x) false ≡ false
never_there xs (Effect e) v below = past_call (vms_created xs) v e.call below
never_there xs (Lost loss) v below = by_loss (loss.whole && loss.vm == v)
  where
    by_loss : (b : Bool) → chosen (when b false) false ≡ false
    by_loss true = refl
    by_loss false = refl
never_there xs x v below = refl

pub gone_vm : (before : List Entry) (entry : Entry) (v : ℕ) → v ≤ vms_created before →
    is_vm_there before v ≡ false → is_vm_there (before ++ entry ∷ []) v ≡ false
gone_vm xs x v below gone =
    is_vm_there-grown xs x v ∙ ap (chosen (vm_presence v xs x)) gone ∙ never_there xs x v below

always_silent : (x : Entry) (v : ℕ) → chosen (silence v x) true ≡ true
always_silent (Lost loss) v = by_loss (not loss.whole && loss.vm == v)
  where
    by_loss : (b : Bool) → chosen (when b true) true ≡ true
    by_loss true = refl
    by_loss false = refl
always_silent x v = refl

pub silent_vm : (before : List Entry) (entry : Entry) (v : ℕ) → v ≤ vms_created before →
    has_agent before v ≡ false → has_agent (before ++ entry ∷ []) v ≡ false
silent_vm xs x v below none = by_there (is_vm_there xs v) refl (is_silent xs v) refl
  where
    by_there : (there : Bool) → is_vm_there xs v ≡ there → (silent : Bool) → is_silent xs v ≡ silent →
        has_agent (xs ++ x ∷ []) v ≡ false
    by_there false there silent is = ap (λ here. here && not (is_silent (xs ++ x ∷ []) v)) (gone_vm xs x v below there)
    by_there true there true is =
        let stays : is_silent (xs ++ x ∷ []) v ≡ true =
        latest_last (silence v) false xs x ∙ ap (chosen (silence v x)) is ∙ always_silent x v in
        let gone : (is_vm_there (xs ++ x ∷ []) v && false) ≡ false = both (is_vm_there (xs ++ x ∷ []) v) in
        ap (λ quiet. is_vm_there (xs ++ x ∷ []) v && not quiet) stays ∙ gone
      where
        both : (b : Bool) → (b && false) ≡ false
        both true = refl
        both false = refl
    by_there true there false is = absurd (grind (arith, none, there, is))
