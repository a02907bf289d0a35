-- What was done stays in its order where one more thing is done that neither makes nor removes anything.
use Rattle.std.proofs.Common.{◌≡◌, ℕ, ◌≤◌, ◌<◌, Bool, true, false, Option, Some, None, List, refl, sym, ◌∙◌, ap, subst}
use Rattle.std.specs.Prelude.{◌≢◌, ◌&&◌, if◌then◌else◌, is_some}
use Rattle.std.specs.Option.{option_map, option_and_then}
use Rattle.std.proofs.lemmas.Bool.{ne_eqb}
use Rattle.bosh_agent.specs.Agent.{vm_of}
use Rattle.bosh_base.specs.Cloud.{when, by_call, vms_created, vm_creation, is_vm_there, silence, is_silent, applied, spec_of, started, is_running, drained, is_drained, disks_created, disk_creation, is_disk_there, attached, holder_of, contents_of, make_of, want_of, attached_to, mounted_on, machine_made, machine_of, disk_made, disk_of}
use Rattle.bosh_base.specs.History.{chosen}
use Rattle.bosh_base.specs.declared.call.Call.{Call}
use Rattle.bosh_base.specs.declared.call.Call.TheVariants.{Apply, Start, Drain, Stop}
use Rattle.bosh_base.specs.declared.entry.Effect as effect
use Rattle.bosh_base.specs.declared.entry.Entry.{Entry}
use Rattle.bosh_base.specs.declared.entry.Entry.TheVariants.{Effect}
use Rattle.bosh_base.specs.declared.make.Make.{Make}
use Rattle.bosh_base.proofs.HistoryLemmas.{latest_last}
use Rattle.bosh_inventory.proofs.PresenceLemmas.{KeepsVms, KeepsDisks, grown, vms_created-kept, is_vm_there-kept, vm_creation-kept, disks_created-kept, is_disk_there-kept, disk_creation-kept, last_holder-kept, holder_of-kept}
use Rattle.bosh_inventory.specs.Orderly.{IsUntouched, IsOrderlyVm, IsOrderlyDisk, last_holder}

-- ---- what is made

-- whether something is made of its creation
made_some : {E M R : Type 0} (made : E → M → R) (part : E → Option M) (there : Bool) (e : Option E) →
    is_some (if there then option_and_then (λ e. option_map (made e) (part e)) e else None) ≡ (there && is_some
    (option_and_then part e))
made_some made part false e = refl
made_some made part true None = refl
made_some {E} {M} {R} made part true (Some e) = each (part e)
  where
    each : (m : Option M) → is_some (option_map (made e) m) ≡ is_some m
    each None = refl
    each (Some m) = refl

pub machine_some : (xs : List Entry) (v : ℕ) →
    is_some (machine_of xs v) ≡ (is_vm_there xs v && is_some (option_and_then (λ e. make_of e.call) (vm_creation xs v)))
machine_some xs v = made_some (machine_made xs v) (λ e. make_of e.call) (is_vm_there xs v) (vm_creation xs v)

pub disk_some : (xs : List Entry) (d : ℕ) →
    is_some (disk_of xs d)
    ≡ (is_disk_there xs d && is_some (option_and_then (λ e. want_of e.call) (disk_creation xs d)))
disk_some xs d = made_some (disk_made xs d) (λ e. want_of e.call) (is_disk_there xs d) (disk_creation xs d)

pub machine_some-kept : (xs : List Entry) (x : Entry) → KeepsVms xs x → (v : ℕ) →
    is_some (machine_of (grown xs x) v) ≡ is_some (machine_of xs v)
machine_some-kept xs x keeps v =
    machine_some (grown xs x) v
    ∙ (λ i. is_vm_there-kept xs x keeps v i && is_some
    (option_and_then (λ e. make_of e.call) (vm_creation-kept xs x keeps v i)))
    ∙ sym (machine_some xs v)

pub disk_some-kept : (xs : List Entry) (x : Entry) → KeepsDisks xs x → (d : ℕ) →
    is_some (disk_of (grown xs x) d) ≡ is_some (disk_of xs d)
disk_some-kept xs x keeps d =
    disk_some (grown xs x) d
    ∙ (λ i. is_disk_there-kept xs x keeps d i && is_some
    (option_and_then (λ e. want_of e.call) (disk_creation-kept xs x keeps d i)))
    ∙ sym (disk_some xs d)

-- ---- what is done to a machine

-- an entry does nothing to machine v
pub record Untouches (x : Entry) (v : ℕ) : Type 0 where
  pub spec : by_call (applied v) x ≡ None
  pub running : by_call (started v) x ≡ None
  pub drained : by_call (drained v) x ≡ None
  pub silent : silence v x ≡ None

-- a call to another machine
pub Untouches-other : (e : effect.Effect) (v : ℕ) → vm_of e.call ≢ Some v → Untouches (Effect e) v
Untouches-other e v other = record {
  spec = spec e.call other;
  running = running e.call other;
  drained = draining e.call other;
  silent = refl;
}
  where
    spec : (call : Call) → vm_of call ≢ Some v → applied v call ≡ None
    spec (Apply vm s) other = ap (λ is. when is (Some s)) (ne_eqb vm v (λ is. other (ap Some is)))
    spec call other = refl

    running : (call : Call) → vm_of call ≢ Some v → started v call ≡ None
    running (Start vm) other = ap (λ is. when is true) (ne_eqb vm v (λ is. other (ap Some is)))
    running (Stop vm) other = ap (λ is. when is false) (ne_eqb vm v (λ is. other (ap Some is)))
    running call other = refl

    draining : (call : Call) → vm_of call ≢ Some v → drained v call ≡ None
    draining (Drain vm) other = ap (λ is. when is true) (ne_eqb vm v (λ is. other (ap Some is)))
    draining (Start vm) other = ap (λ is. when is false) (ne_eqb vm v (λ is. other (ap Some is)))
    draining call other = refl

pub IsUntouched-kept : (xs : List Entry) (x : Entry) (v : ℕ) → Untouches x v → IsUntouched xs v →
    IsUntouched (grown xs x) v
IsUntouched-kept xs x v none before = record {
  no_spec = latest_last (by_call (applied v)) None xs x ∙ ap (λ a. chosen a (spec_of xs v)) none.spec ∙ before.no_spec;
  not_running =
      latest_last (by_call (started v)) false xs x ∙ ap (λ a. chosen a (is_running xs v)) none.running
      ∙ before.not_running;
  not_drained =
      latest_last (by_call (drained v)) false xs x ∙ ap (λ a. chosen a (is_drained xs v)) none.drained
      ∙ before.not_drained;
  not_silent = latest_last (silence v) false xs x ∙ ap (λ a. chosen a (is_silent xs v)) none.silent ∙ before.not_silent;
}

-- a machine to which nothing is done, and whose disks stay, is as it was
pub machine_made-kept : (xs : List Entry) (x : Entry) (v : ℕ) → Untouches x v →
    attached_to (grown xs x) v ≡ attached_to xs v → mounted_on (grown xs x) v ≡ mounted_on xs v →
    (e : effect.Effect) (make : Make) → machine_made (grown xs x) v e make ≡ machine_made xs v e make
machine_made-kept xs x v none attached mounted e make =
    let the_spec : spec_of (grown xs x) v ≡ spec_of xs v =
    latest_last (by_call (applied v)) None xs x ∙ ap (λ a. chosen a (spec_of xs v)) none.spec in
    let runs : is_running (grown xs x) v ≡ is_running xs v =
    latest_last (by_call (started v)) false xs x ∙ ap (λ a. chosen a (is_running xs v)) none.running in
    let drains : is_drained (grown xs x) v ≡ is_drained xs v =
    latest_last (by_call (drained v)) false xs x ∙ ap (λ a. chosen a (is_drained xs v)) none.drained in
    let silent : is_silent (grown xs x) v ≡ is_silent xs v =
    latest_last (silence v) false xs x ∙ ap (λ a. chosen a (is_silent xs v)) none.silent in
    λ i. record {
      vm = v;
      agent = e.n;
      owner = e.owner;
      dep = e.dep;
      make = make;
      spec = the_spec i;
      running = runs i;
      drained = drains i;
      attached = attached i;
      mounted = mounted i;
      silent = silent i;
    }

-- ---- the order

-- nothing is done to a machine that is not made yet
pub IsOrderlyVm-kept : (xs : List Entry) (x : Entry) → KeepsVms xs x → (v : ℕ) → (vms_created xs < v → Untouches x v) →
    IsOrderlyVm xs v → IsOrderlyVm (grown xs x) v
IsOrderlyVm-kept xs x keeps v none before =
    let there : is_vm_there (grown xs x) v ≡ is_vm_there xs v = is_vm_there-kept xs x keeps v in
    let count : vms_created (grown xs x) ≡ vms_created xs = vms_created-kept xs x keeps.makes_none in
    record {
      made = there ∙ before.made ∙ sym (machine_some-kept xs x keeps v);
      numbered = λ is. subst (λ (n : ℕ). (1 ≤ v) × (v ≤ n)) (sym count) (before.numbered (sym there ∙ is));
      ahead = λ later.
          let past : vms_created xs < v = subst (λ (n : ℕ). n < v) count later in
          IsUntouched-kept xs x v (none past) (before.ahead past);
    }

-- no disk gets another holder, and one that is not made yet stays empty
pub IsOrderlyDisk-kept : (xs : List Entry) (x : Entry) → KeepsVms xs x → KeepsDisks xs x → (d : ℕ) →
    by_call (attached d) x ≡ None → (disks_created xs < d → contents_of (grown xs x) d ≡ contents_of xs d) →
    IsOrderlyDisk xs d → IsOrderlyDisk (grown xs x) d
IsOrderlyDisk-kept xs x vms disks d holder same before =
    let there : is_disk_there (grown xs x) d ≡ is_disk_there xs d = is_disk_there-kept xs x disks d in
    let count : disks_created (grown xs x) ≡ disks_created xs = disks_created-kept xs x disks.makes_none in
    let last : last_holder (grown xs x) d ≡ last_holder xs d = last_holder-kept xs x d holder in
    let holds : holder_of (grown xs x) d ≡ holder_of xs d =
    holder_of-kept xs (grown xs x) d last (is_vm_there-kept xs x vms) in
    record {
      made = there ∙ before.made ∙ sym (disk_some-kept xs x disks d);
      numbered = λ is. subst (λ (n : ℕ). (1 ≤ d) × (d ≤ n)) (sym count) (before.numbered (sym there ∙ is));
      held = λ is. there ∙ before.held (sym (ap is_some holds) ∙ is);
      holder_made =
          λ v is. subst (λ (n : ℕ). v ≤ n) (sym (vms_created-kept xs x vms.makes_none))
          (before.holder_made v (sym last ∙ is));
      not_held = λ later. last ∙ before.not_held (subst (λ (n : ℕ). n < d) count later);
      empty = λ later.
          let past : disks_created xs < d = subst (λ (n : ℕ). n < d) count later in
          same past ∙ before.empty past;
    }
