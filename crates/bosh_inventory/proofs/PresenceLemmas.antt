-- What stays where one more thing is done that neither makes nor removes anything.
use Rattle.std.proofs.Common.{◌≡◌, ℕ, Bool, true, false, Option, Some, None, List, [], ◌∷◌, ◌++◌, refl, ◌∙◌, ap, arith}
use Rattle.std.specs.Prelude.{◌==◌, if◌then◌else◌, filter}
use Rattle.std.specs.Option.{option_map, option_and_then}
use Rattle.std.proofs.lemmas.List.Sums.{sum_by-append, fold-append}
use Rattle.std.proofs.lemmas.List.Elements.{filter_agree}
use Rattle.bosh_base.specs.Cloud.{when, by_call, is_vm_creation, vms_created, vm_created, vm_creation, vm_presence, is_vm_there, is_disk_creation, disks_created, disk_created, disk_creation, disk_presence, is_disk_there, attached, holder_of, mounts, is_disk_mounted, contents_after, contents_of, numbers_to, make_of, want_of, is_holder, attached_to, mounted_on, machine_made, machine_of, disk_made, disk_of}
use Rattle.bosh_base.specs.History.{chosen}
use Rattle.bosh_base.specs.declared.disk_want.DiskWant.{DiskWant}
use Rattle.bosh_base.specs.declared.entry.Effect as effect
use Rattle.bosh_base.specs.declared.entry.Entry.{Entry}
use Rattle.bosh_base.specs.declared.machine.Disk.{Disk}
use Rattle.bosh_base.specs.declared.machine.Machine.{Machine}
use Rattle.bosh_base.specs.declared.make.Make.{Make}
use Rattle.bosh_base.proofs.HistoryLemmas.{latest_last, latest_seen_last}
use Rattle.bosh_inventory.specs.Orderly.{last_holder}

-- an entry that neither makes nor removes a machine
pub record KeepsVms (xs : List Entry) (x : Entry) : Type 0 where
  pub makes_none : is_vm_creation x ≡ false
  pub created : (v : ℕ) → vm_created v xs x ≡ None
  pub stays : (v : ℕ) → vm_presence v xs x ≡ None

-- nor a disk
pub record KeepsDisks (xs : List Entry) (x : Entry) : Type 0 where
  pub makes_none : is_disk_creation x ≡ false
  pub created : (d : ℕ) → disk_created d xs x ≡ None
  pub stays : (d : ℕ) → disk_presence d xs x ≡ None

abbrev pub grown : List Entry → Entry → List Entry
grown xs x = xs ++ x ∷ []

-- ---- machines

pub vms_created-kept : (xs : List Entry) (x : Entry) → is_vm_creation x ≡ false →
    vms_created (grown xs x) ≡ vms_created xs
vms_created-kept xs x none = grind (arith, sum_by-append, none)

pub is_vm_there-kept : (xs : List Entry) (x : Entry) → KeepsVms xs x → (v : ℕ) →
    is_vm_there (grown xs x) v ≡ is_vm_there xs v
is_vm_there-kept xs x keeps v =
    latest_seen_last (vm_presence v) false [] xs x ∙ ap (λ a. chosen a (is_vm_there xs v)) (keeps.stays v)

pub vm_creation-kept : (xs : List Entry) (x : Entry) → KeepsVms xs x → (v : ℕ) →
    vm_creation (grown xs x) v ≡ vm_creation xs v
vm_creation-kept xs x keeps v =
    latest_seen_last (vm_created v) None [] xs x ∙ ap (λ a. chosen a (vm_creation xs v)) (keeps.created v)

-- a machine is changed as its parts are
map_made : {E M R : Type 0} (f : R → R) (made other : E → M → R) → ((e : E) (m : M) → other e m ≡ f (made e m)) →
    (make_of_it : E → Option M) (there : Bool) (e : Option E) →
    (if there then option_and_then (λ e. option_map (other e) (make_of_it e)) e else None) ≡ option_map f
    (if there then option_and_then (λ e. option_map (made e) (make_of_it e)) e else None)
map_made f made other is make_of_it false e = refl
map_made f made other is make_of_it true None = refl
map_made {E} {M} {R} f made other is make_of_it true (Some e) = each (make_of_it e)
  where
    each : (m : Option M) → option_map (other e) m ≡ option_map f (option_map (made e) m)
    each None = refl
    each (Some m) = ap Some (is e m)

pub machine_of-changed : (xs : List Entry) (x : Entry) → KeepsVms xs x → (v : ℕ) (f : Machine → Machine) →
    ((e : effect.Effect) (make : Make) → machine_made (grown xs x) v e make ≡ f (machine_made xs v e make)) →
    machine_of (grown xs x) v ≡ option_map f (machine_of xs v)
machine_of-changed xs x keeps v f made =
    (λ i. if is_vm_there-kept xs x keeps v i then option_and_then (λ e. option_map (machine_made (grown xs x) v e)
    (make_of e.call)) (vm_creation-kept xs x keeps v i) else None)
    ∙ map_made f (machine_made xs v) (machine_made (grown xs x) v) made (λ e. make_of e.call) (is_vm_there xs v)
    (vm_creation xs v)

map_same : {A : Type 0} (o : Option A) → option_map (λ a. a) o ≡ o
map_same None = refl
map_same (Some a) = refl

pub machine_of-kept : (xs : List Entry) (x : Entry) → KeepsVms xs x → (v : ℕ) →
    ((e : effect.Effect) (make : Make) → machine_made (grown xs x) v e make ≡ machine_made xs v e make) →
    machine_of (grown xs x) v ≡ machine_of xs v
machine_of-kept xs x keeps v made = machine_of-changed xs x keeps v (λ m. m) made ∙ map_same (machine_of xs v)

-- ---- disks

pub disks_created-kept : (xs : List Entry) (x : Entry) → is_disk_creation x ≡ false →
    disks_created (grown xs x) ≡ disks_created xs
disks_created-kept xs x none = grind (arith, sum_by-append, none)

pub is_disk_there-kept : (xs : List Entry) (x : Entry) → KeepsDisks xs x → (d : ℕ) →
    is_disk_there (grown xs x) d ≡ is_disk_there xs d
is_disk_there-kept xs x keeps d =
    latest_seen_last (disk_presence d) false [] xs x ∙ ap (λ a. chosen a (is_disk_there xs d)) (keeps.stays d)

pub disk_creation-kept : (xs : List Entry) (x : Entry) → KeepsDisks xs x → (d : ℕ) →
    disk_creation (grown xs x) d ≡ disk_creation xs d
disk_creation-kept xs x keeps d =
    latest_seen_last (disk_created d) None [] xs x ∙ ap (λ a. chosen a (disk_creation xs d)) (keeps.created d)

pub contents_of-grown : (xs : List Entry) (x : Entry) → contents_of (grown xs x) ≡ contents_after (contents_of xs) x
contents_of-grown xs x = fold-append contents_after (λ d. []) xs (x ∷ [])

pub disk_of-changed : (xs : List Entry) (x : Entry) → KeepsDisks xs x → (d : ℕ) (f : Disk → Disk) →
    ((e : effect.Effect) (want : DiskWant) → disk_made (grown xs x) d e want ≡ f (disk_made xs d e want)) →
    disk_of (grown xs x) d ≡ option_map f (disk_of xs d)
disk_of-changed xs x keeps d f made =
    (λ i. if is_disk_there-kept xs x keeps d i then option_and_then (λ e. option_map (disk_made (grown xs x) d e)
    (want_of e.call)) (disk_creation-kept xs x keeps d i) else None)
    ∙ map_made f (disk_made xs d) (disk_made (grown xs x) d) made (λ e. want_of e.call) (is_disk_there xs d)
    (disk_creation xs d)

-- a disk whose contents stay
pub disk_of-kept : (xs : List Entry) (x : Entry) → KeepsDisks xs x → (d : ℕ) →
    contents_of (grown xs x) d ≡ contents_of xs d → disk_of (grown xs x) d ≡ disk_of xs d
disk_of-kept xs x keeps d same =
    let made : (e : effect.Effect) (want : DiskWant) → disk_made (grown xs x) d e want ≡ disk_made xs d e want =
    λ e want i. record { disk = d; tag = e.n; owner = e.owner; want = want; contents = same i } in
    disk_of-changed xs x keeps d (λ disk. disk) made ∙ map_same (disk_of xs d)

-- ---- who has which disk

pub last_holder-grown : (xs : List Entry) (x : Entry) (d : ℕ) →
    last_holder (grown xs x) d ≡ chosen (by_call (attached d) x) (last_holder xs d)
last_holder-grown xs x d = latest_last (by_call (attached d)) None xs x

pub last_holder-kept : (xs : List Entry) (x : Entry) (d : ℕ) → by_call (attached d) x ≡ None →
    last_holder (grown xs x) d ≡ last_holder xs d
last_holder-kept xs x d none = last_holder-grown xs x d ∙ ap (λ a. chosen a (last_holder xs d)) none

-- the test of `is_holder`
abbrev pub is_held_by : ℕ → Option ℕ → Bool
is_held_by v (Some vm) = vm == v
is_held_by v None = false

-- a disk has the holder that it had, where its last holder and the machines that are there stay
pub holder_of-kept : (xs ys : List Entry) (d : ℕ) → last_holder ys d ≡ last_holder xs d →
    ((v : ℕ) → is_vm_there ys v ≡ is_vm_there xs v) → holder_of ys d ≡ holder_of xs d
holder_of-kept xs ys d last there = λ i. option_and_then (λ v. when (there v i) v) (last i)

pub is_holder-kept : (xs ys : List Entry) (v d : ℕ) → holder_of ys d ≡ holder_of xs d →
    is_holder ys v d ≡ is_holder xs v d
is_holder-kept xs ys v d same = ap (is_held_by v) same

pub attached_to-kept : (xs ys : List Entry) (v : ℕ) → disks_created ys ≡ disks_created xs →
    ((d : ℕ) → is_holder ys v d ≡ is_holder xs v d) → attached_to ys v ≡ attached_to xs v
attached_to-kept xs ys v count same =
    ap (λ n. filter (is_holder ys v) (numbers_to n)) count
    ∙ filter_agree (is_holder ys v) (is_holder xs v) same (numbers_to (disks_created xs))

pub mounted_on-kept : (xs ys : List Entry) (v : ℕ) → attached_to ys v ≡ attached_to xs v →
    ((d : ℕ) → is_disk_mounted ys d ≡ is_disk_mounted xs d) → mounted_on ys v ≡ mounted_on xs v
mounted_on-kept xs ys v same mounted =
    ap (filter (is_disk_mounted ys)) same
    ∙ filter_agree (is_disk_mounted ys) (is_disk_mounted xs) mounted (attached_to xs v)

pub is_disk_mounted-grown : (xs : List Entry) (x : Entry) (d : ℕ) →
    is_disk_mounted (grown xs x) d ≡ chosen (by_call (mounts d) x) (is_disk_mounted xs d)
is_disk_mounted-grown xs x d = latest_last (by_call (mounts d)) false xs x
