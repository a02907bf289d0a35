-- What a call to an agent leaves: one machine changes as its agent says, and a migration fills one disk.
use Rattle.std.proofs.Common.{◌≡◌, ℕ, ◌≤◌, ◌<◌, Bool, true, false, Option, Some, None, List, refl, sym, ◌∙◌, ap, arith}
use Rattle.std.specs.Prelude.{◌≢◌, ◌&&◌, if◌then◌else◌, filter, is_some}
use Rattle.std.specs.Option.{option_map, option_and_then}
use Rattle.std.proofs.lemmas.Bool.{ne_eqb, eqb-true}
use Rattle.std.proofs.lemmas.List.Elements.{filter_agree}
use Rattle.bosh_agent.specs.Numbers.{has}
use Rattle.bosh_agent.specs.Slots.{at, with_slot}
use Rattle.bosh_base.specs.Cloud.{by_call, vms_created, vm_creation, is_vm_there, disks_created, is_disk_there, attached, holder_of, is_disk_mounted, contents_of, numbers_to, make_of, is_holder, attached_to, mounted_on, machine_made, machine_of, disk_of}
use Rattle.bosh_base.specs.declared.entry.Effect as effect
use Rattle.bosh_base.specs.declared.entry.Entry.{Entry}
use Rattle.bosh_base.specs.declared.machine.Disk.{Disk}
use Rattle.bosh_base.specs.declared.machine.Machine.{Machine}
use Rattle.bosh_base.specs.declared.make.Make.{Make}
use Rattle.bosh_inventory.proofs.NumberLemmas.{PartsAt, PartsAt-filter, PartsAt-numbers_to, filter_both, has-filter, has-numbers_to}
use Rattle.bosh_inventory.proofs.OrderlyLemmas.{Untouches, IsOrderlyVm-kept, IsOrderlyDisk-kept, machine_made-kept}
use Rattle.bosh_inventory.proofs.PresenceLemmas.{KeepsVms, KeepsDisks, grown, is_held_by, vms_created-kept, is_vm_there-kept, machine_of-kept, disks_created-kept, last_holder-kept, holder_of-kept, is_holder-kept, attached_to-kept}
use Rattle.bosh_inventory.proofs.SlotLemmas.{slots-with_slot, slots_same}
use Rattle.bosh_inventory.specs.Orderly.{IsOrderlyDisk, IsOrderlyCloud, last_holder}
use Rattle.bosh_inventory.specs.Rows.{slots, AreTables}

-- ---- a machine that is there

pub and_left : (a b : Bool) → (a && b) ≡ true → a ≡ true
and_left true b is = refl
and_left false b is = absurd cc

pub and_right : (a b : Bool) → (a && b) ≡ true → b ≡ true
and_right true b is = is
and_right false b is = absurd cc

-- .. is made of its creation
pub record IsMachine (xs : List Entry) (v : ℕ) (m : Machine) : Type 0 where
  pub creation : effect.Effect
  pub make : Make
  pub there : is_vm_there xs v ≡ true
  pub created : vm_creation xs v ≡ Some creation
  pub made : machine_made xs v creation make ≡ m

pub IsMachine-found : (xs : List Entry) (v : ℕ) (m : Machine) → machine_of xs v ≡ Some m → IsMachine xs v m
IsMachine-found xs v m is = found (is_vm_there xs v) refl (vm_creation xs v) refl is
  where
    found : (there : Bool) → is_vm_there xs v ≡ there → (e : Option effect.Effect) → vm_creation xs v ≡ e →
        (if there then option_and_then (λ e. option_map (machine_made xs v e) (make_of e.call)) e else None) ≡ Some
        m → IsMachine xs v m
    found false at e by is = absurd cc
    found true at None by is = absurd cc
    found true at (Some e) by is = each (make_of e.call) is
      where
        each : (make : Option Make) → option_map (machine_made xs v e) make ≡ Some m → IsMachine xs v m
        each None is = absurd cc
        each (Some make) is = record { creation = e; make = make; there = at; created = by; made = cc }

-- ---- a disk that a machine lists

pub record IsHeld (xs : List Entry) (v d : ℕ) : Type 0 where
  pub holder : is_holder xs v d ≡ true
  pub there : is_disk_there xs d ≡ true
  pub low : 1 ≤ d
  pub high : d ≤ disks_created xs
  pub disk : Disk
  pub is : disk_of xs d ≡ Some disk

pub held_some : (v : ℕ) (o : Option ℕ) → is_held_by v o ≡ true → is_some o ≡ true
held_some v None is = is
held_some v (Some u) is = refl

pub some_is : {A : Type 0} (o : Option A) → is_some o ≡ true → (a : A) × (o ≡ Some a)
some_is None is = absurd cc
some_is (Some a) is = (a, refl)

pub IsHeld-holder : (xs : List Entry) → IsOrderlyCloud xs → (v d : ℕ) → is_holder xs v d ≡ true → IsHeld xs v d
IsHeld-holder xs orderly v d is =
    let order : IsOrderlyDisk xs d = orderly.disks d in
    let there : is_disk_there xs d ≡ true = order.held (held_some v (holder_of xs d) is) in
    let disk : (k : Disk) × (disk_of xs d ≡ Some k) = some_is (disk_of xs d) (sym order.made ∙ there) in
    record {
      holder = is;
      there = there;
      low = (order.numbered there).0;
      high = (order.numbered there).1;
      disk = disk.0;
      is = disk.1;
    }

pub IsHeld-has : (xs : List Entry) → IsOrderlyCloud xs → (v d : ℕ) → has d (attached_to xs v) ≡ true → IsHeld xs v d
IsHeld-has xs orderly v d is =
    IsHeld-holder xs orderly v d (and_left (is_holder xs v d) (has d (numbers_to (disks_created xs)))
    (sym (has-filter (is_holder xs v) d (numbers_to (disks_created xs))) ∙ is))

pub has-attached_to : (xs : List Entry) (v d : ℕ) → IsHeld xs v d → has d (attached_to xs v) ≡ true
has-attached_to xs v d held =
    has-filter (is_holder xs v) d (numbers_to (disks_created xs))
    ∙ ap (λ it. it && has d (numbers_to (disks_created xs))) held.holder
    ∙ has-numbers_to d (disks_created xs)
    ∙ grind (arith, held.low, held.high)

pub PartsAt-attached_to : (xs : List Entry) (v d : ℕ) → IsHeld xs v d → PartsAt d (attached_to xs v)
PartsAt-attached_to xs v d held =
    PartsAt-filter (is_holder xs v) d (numbers_to (disks_created xs)) held.holder
    (PartsAt-numbers_to d (disks_created xs) held.low held.high)

-- another machine does not have it
pub held_apart : (v u : ℕ) (o : Option ℕ) → v ≢ u → is_held_by v o ≡ true → is_held_by u o ≡ false
held_apart v u None apart is = refl
held_apart v u (Some w) apart is = ne_eqb w u (λ same. apart (sym (eqb-true w v is) ∙ same))

-- ---- one more call to an agent

-- what a call leaves of machine vm and of the others
pub record ActsOn (xs : List Entry) (x : Entry) (vm : ℕ) (m : Machine) (volumes : List (Option Disk)) : Type 0 where
  pub vms : KeepsVms xs x
  pub disks : KeepsDisks xs x
  pub holders : (d : ℕ) → by_call (attached d) x ≡ None
  pub untouched : (v : ℕ) → v ≢ vm → Untouches x v
  pub mounted : (v : ℕ) → v ≢ vm → (d : ℕ) →
      (is_holder xs v d && is_disk_mounted (grown xs x) d) ≡ (is_holder xs v d && is_disk_mounted xs d)
  pub machine : machine_of (grown xs x) vm ≡ Some m
  pub empty : (d : ℕ) → disks_created xs < d → contents_of (grown xs x) d ≡ contents_of xs d
  pub rows : volumes ≡ slots (disk_of (grown xs x)) (disks_created (grown xs x))

mounted_on-both : (xs : List Entry) (v : ℕ) →
    mounted_on xs v ≡ filter (λ d. is_holder xs v d && is_disk_mounted xs d) (numbers_to (disks_created xs))
mounted_on-both xs v = filter_both (is_holder xs v) (is_disk_mounted xs) (numbers_to (disks_created xs))

-- the disks of another machine stay
pub attached_to-acted : (xs : List Entry) (x : Entry) → KeepsVms xs x → KeepsDisks xs x →
    ((d : ℕ) → by_call (attached d) x ≡ None) → (v : ℕ) → attached_to (grown xs x) v ≡ attached_to xs v
attached_to-acted xs x vms disks holders v =
    attached_to-kept xs (grown xs x) v (disks_created-kept xs x disks.makes_none)
    (λ d. is_holder-kept xs (grown xs x) v d (holder_of-kept xs (grown xs x) d (last_holder-kept xs x d (holders d))
    (is_vm_there-kept xs x vms)))

pub mounted_on-acted : (xs : List Entry) (x : Entry) → KeepsVms xs x → KeepsDisks xs x →
    ((d : ℕ) → by_call (attached d) x ≡ None) → (v : ℕ) →
    ((d : ℕ) → (is_holder xs v d && is_disk_mounted (grown xs x) d) ≡ (is_holder xs v d && is_disk_mounted xs
    d)) → mounted_on (grown xs x) v ≡ mounted_on xs v
mounted_on-acted xs x vms disks holders v same =
    ap (filter (is_disk_mounted (grown xs x))) (attached_to-acted xs x vms disks holders v)
    ∙ filter_both (is_holder xs v) (is_disk_mounted (grown xs x)) (numbers_to (disks_created xs))
    ∙ filter_agree _ _ same (numbers_to (disks_created xs))
    ∙ sym (mounted_on-both xs v)

pub AreTables-acted : (xs : List Entry) (x : Entry) (vm : ℕ) (m : Machine) (vms : List (Option Machine))
    (before volumes : List (Option Disk)) (holders : List (Option ℕ)) →
    is_vm_there xs vm ≡ true → ActsOn xs x vm m volumes → AreTables xs vms before holders → AreTables (grown xs x)
    (with_slot vms vm (Some m)) volumes holders
AreTables-acted xs x vm m vms before volumes holders there acts tables =
    let orderly : IsOrderlyCloud xs = tables.are_orderly in
    let numbered : (1 ≤ vm) × (vm ≤ vms_created xs) = (orderly.vms vm).numbered there in
    let count : vms_created (grown xs x) ≡ vms_created xs = vms_created-kept xs x acts.vms.makes_none in
    let others : (v : ℕ) → v ≢ vm → machine_of (grown xs x) v ≡ machine_of xs v =
    λ v apart. machine_of-kept xs x acts.vms v
    (machine_made-kept xs x v (acts.untouched v apart) (attached_to-acted xs x acts.vms acts.disks acts.holders v)
    (mounted_on-acted xs x acts.vms acts.disks acts.holders v (acts.mounted v apart))) in
    record {
      are_orderly = record {
        vms =
            λ v. IsOrderlyVm-kept xs x acts.vms v (λ past. acts.untouched v (λ is. omega (arith, past, is, numbered.1)))
            (orderly.vms v);
        disks = λ d. IsOrderlyDisk-kept xs x acts.vms acts.disks d (acts.holders d) (acts.empty d) (orderly.disks d);
      };
      all_vms =
          ap (λ t. with_slot t vm (Some m)) tables.all_vms
          ∙ ap (λ it. with_slot (slots (machine_of xs) (vms_created xs)) vm it) (sym acts.machine)
          ∙ slots-with_slot (machine_of xs) (machine_of (grown xs x)) (vms_created xs) vm numbered.0 numbered.1 others
          ∙ ap (slots (machine_of (grown xs x))) (sym count);
      all_disks = acts.rows;
      all_holders =
          tables.all_holders
          ∙ sym (slots_same (last_holder xs) (last_holder (grown xs x)) (disks_created xs)
          (λ d below. last_holder-kept xs x d (acts.holders d)))
          ∙ ap (slots (last_holder (grown xs x))) (sym (disks_created-kept xs x acts.disks.makes_none));
    }
