-- How many machines and disks were created, and of which calls.
use Rattle.std.proofs.Common.{◌≡◌, ℕ, ◌+◌, ◌≤◌, Bool, true, false, Some, None, List, [], ◌∷◌, ◌++◌, refl, sym, ◌∙◌, arith}
use Rattle.std.specs.Prelude.{◌&&◌, ◌==◌}
use Rattle.std.proofs.lemmas.Bool.{eq-eqb, ne_eqb}
use Rattle.std.proofs.lemmas.List.Sums.{sum_by-append}
use Rattle.bosh_base.proofs.HistoryLemmas.{latest_seen_last}
use Rattle.bosh_base.specs.Cloud.{when, creates_disk, creates_vm, disk_created, disk_creation, disk_presence, disks_created, is_disk_creation, is_disk_there, is_vm_creation, is_vm_there, vm_created, vm_creation, vm_presence, vms_created}
use Rattle.bosh_base.specs.History.{chosen}
use Rattle.bosh_base.specs.declared.entry.Effect as effect
use Rattle.bosh_base.specs.declared.entry.Entry.{Entry}
use Rattle.bosh_base.specs.declared.entry.Entry.TheVariants.{Effect}

abbrev pub one_if : Bool → ℕ
one_if true = 1
one_if false = 0

pub vms-grown : (xs : List Entry) (x : Entry) → vms_created (xs ++ x ∷ []) ≡ vms_created xs + one_if (is_vm_creation x)
vms-grown xs x = by_kind (is_vm_creation x) refl
  where
    by_kind : (b : Bool) → is_vm_creation x ≡ b → vms_created (xs ++ x ∷ []) ≡ vms_created xs + one_if b
    by_kind true is = grind (arith, sum_by-append, is)
    by_kind false is = grind (arith, sum_by-append, is)

pub disks-grown : (xs : List Entry) (x : Entry) →
    disks_created (xs ++ x ∷ []) ≡ disks_created xs + one_if (is_disk_creation x)
disks-grown xs x = by_kind (is_disk_creation x) refl
  where
    by_kind : (b : Bool) → is_disk_creation x ≡ b → disks_created (xs ++ x ∷ []) ≡ disks_created xs + one_if b
    by_kind true is = grind (arith, sum_by-append, is)
    by_kind false is = grind (arith, sum_by-append, is)

-- ---- what was created stays

chosen_past : {A : Type 0} (b : Bool) (n v : ℕ) (a old : A) → v ≤ n → chosen (when (b && n + 1 == v) a) old ≡ old
chosen_past b n v a old below = grind (arith, ne_eqb (n + 1) v (λ is. absurd (omega arith)), b)

chosen_next : {A : Type 0} (b : Bool) (n v : ℕ) (a old : A) → b ≡ true → v ≡ n + 1 →
    chosen (when (b && n + 1 == v) a) old ≡ a
chosen_next b n v a old is next = grind (arith, is, eq-eqb (n + 1) v (sym next))

pub vm_creation-grown : (xs : List Entry) (x : Entry) (v : ℕ) →
    vm_creation (xs ++ x ∷ []) v ≡ chosen (vm_created v xs x) (vm_creation xs v)
vm_creation-grown xs x v = latest_seen_last (vm_created v) None [] xs x

pub vm_creation_stays : (xs : List Entry) (x : Entry) (v : ℕ) → v ≤ vms_created xs →
    vm_creation (xs ++ x ∷ []) v ≡ vm_creation xs v
vm_creation_stays xs x v below = vm_creation-grown xs x v ∙ by_entry x
  where
    by_entry : (x : Entry) → chosen (vm_created v xs x) (vm_creation xs v) ≡ vm_creation xs v
    by_entry (Effect e) = chosen_past (creates_vm e.call) (vms_created xs) v (Some e) (vm_creation xs v) below
    by_entry x = refl

pub vm_creation_next : (xs : List Entry) (e : effect.Effect) → creates_vm e.call ≡ true →
    vm_creation (xs ++ Effect e ∷ []) (vms_created xs + 1) ≡ Some e
vm_creation_next xs e is =
    vm_creation-grown xs (Effect e) (vms_created xs + 1)
    ∙ chosen_next (creates_vm e.call) (vms_created xs) (vms_created xs + 1) (Some e)
    (vm_creation xs (vms_created xs + 1)) is refl

pub disk_creation-grown : (xs : List Entry) (x : Entry) (d : ℕ) →
    disk_creation (xs ++ x ∷ []) d ≡ chosen (disk_created d xs x) (disk_creation xs d)
disk_creation-grown xs x d = latest_seen_last (disk_created d) None [] xs x

pub disk_creation_stays : (xs : List Entry) (x : Entry) (d : ℕ) → d ≤ disks_created xs →
    disk_creation (xs ++ x ∷ []) d ≡ disk_creation xs d
disk_creation_stays xs x d below = disk_creation-grown xs x d ∙ by_entry x
  where
    by_entry : (x : Entry) → chosen (disk_created d xs x) (disk_creation xs d) ≡ disk_creation xs d
    by_entry (Effect e) = chosen_past (creates_disk e.call) (disks_created xs) d (Some e) (disk_creation xs d) below
    by_entry x = refl

pub disk_creation_next : (xs : List Entry) (e : effect.Effect) → creates_disk e.call ≡ true →
    disk_creation (xs ++ Effect e ∷ []) (disks_created xs + 1) ≡ Some e
disk_creation_next xs e is =
    disk_creation-grown xs (Effect e) (disks_created xs + 1)
    ∙ chosen_next (creates_disk e.call) (disks_created xs) (disks_created xs + 1) (Some e)
    (disk_creation xs (disks_created xs + 1)) is refl

-- ---- what is there was created

pub is_vm_there-grown : (xs : List Entry) (x : Entry) (v : ℕ) →
    is_vm_there (xs ++ x ∷ []) v ≡ chosen (vm_presence v xs x) (is_vm_there xs v)
is_vm_there-grown xs x v = latest_seen_last (vm_presence v) false [] xs x

pub is_disk_there-grown : (xs : List Entry) (x : Entry) (d : ℕ) →
    is_disk_there (xs ++ x ∷ []) d ≡ chosen (disk_presence d xs x) (is_disk_there xs d)
is_disk_there-grown xs x d = latest_seen_last (disk_presence d) false [] xs x
