-- A tie where a disk is attached, detached, mounted or unmounted, and where the contents are moved.
use Rattle.std.proofs.Common.{◌≡◌, ℕ, Bool, true, false, Option, Some, None, List, [], ◌∷◌, refl, sym, ◌∙◌, ap, subst, inl, inr, arith}
use Rattle.std.specs.Prelude.{◌⊎◌, ◌&&◌, ◌||◌, ◌==◌, not, if◌then◌else◌, is_some}
use Rattle.std.proofs.lemmas.Bool.{and_parts, and_from, eqb-true, eq-eqb}
use Rattle.bosh_base.proofs.HistoryLemmas.{latest_last}
use Rattle.bosh_base.specs.CallStep.{has_agent, is_attached, is_movable}
use Rattle.bosh_base.specs.Cloud.{attached, by_call, holder_of, is_disk_mounted, is_disk_there, is_holder, is_vm_there, mounts, vms_created, when}
use Rattle.bosh_base.specs.History.{chosen}
use Rattle.bosh_base.specs.declared.answer.Answer.TheVariants as answers
use Rattle.bosh_base.specs.declared.call.Call.{Call}
use Rattle.bosh_base.specs.declared.call.Call.TheVariants.{AttachDisk, DetachDisk, MountDisk, UnmountDisk, MigrateDisk}
use Rattle.bosh_base.specs.declared.entry.Entry.{Entry}
use Rattle.bosh_base.specs.declared.entry.Entry.TheVariants.{Effect}
use Rattle.bosh_base.specs.declared.row.DiskRow.{DiskRow}
use Rattle.bosh_base.specs.declared.row.Role.{Role}
use Rattle.bosh_base.specs.declared.row.Role.TheVariants as roles
use Rattle.bosh_base.specs.declared.row.Row.{Row}
use Rattle.bosh_base.specs.declared.row.Vm as vm
use Rattle.laws_effects.proofs.AheadLemmas.{last_holder}
use Rattle.laws_effects.proofs.DiskLemmas.{held_where, holder_of-grown}
use Rattle.bosh_rows.specs.After.{attach, let_go, mount, unmount}
use Rattle.bosh_rows.specs.Standing.{same_truth}
use Rattle.bosh_rows.specs.Tied.{is_disk_placed, number_of}
use Rattle.laws_rows.proofs.FallLemmas.{answered}
use Rattle.laws_rows.proofs.ListLemmas.{IsIn, all_in}
use Rattle.laws_rows.proofs.MigrationLemmas.{migrated-map, moved}
use Rattle.laws_rows.proofs.RoomLemmas.{tells_attached}
use Rattle.laws_rows.proofs.SteadyLemmas.{IsTiedTo}
use Rattle.laws_rows.proofs.TieLemmas.{SameDisk, StaysMachines, is_held_by, of_row, placed_by, tied-disks, with_call}
use Rattle.laws_rows.proofs.WorkLemmas.{one}
use Rattle.laws_rows.specs.SoundDisks.{is_recorded}

-- ---- numbers

pub eqb_sym : (a b : ℕ) (is : Bool) → (a == b) ≡ is → (b == a) ≡ is
eqb_sym a b true same = eq-eqb b a (sym (eqb-true a b same))
eqb_sym a b false other = by_truth (b == a) refl
  where
    by_truth : (is : Bool) → (b == a) ≡ is → is ≡ false
    by_truth true same = absurd (let also : (a == b) ≡ true = eq-eqb a b (sym (eqb-true b a same)) in cc)
    by_truth false same = refl

pub same-one : (x : ℕ) (g : DiskRow → DiskRow) → SameDisk g → SameDisk (one x g)
same-one x g same = record {
  number = λ d. by_number d (d.disk == x) (λ it. it.disk) (same.number d);
  tag = λ d. by_number d (d.disk == x) (λ it. it.tag) (same.tag d);
  want = λ d. by_number d (d.disk == x) (λ it. it.want) (same.want d);
}
  where
    by_number : {A : Type 0} (d : DiskRow) (b : Bool) (part : DiskRow → A) → part (g d) ≡ part d →
        part (if b then g d else d) ≡ part d
    by_number d true part is = is
    by_number d false part is = refl

-- the disk as it is placed before
pub placed-in : (xs : List Entry) (row : Row) (it : vm.Vm) → IsTiedTo xs row → row.vm ≡ Some it → (d : DiskRow) →
    IsIn d row.disks → is_disk_placed xs (it.vm ∷ []) d ≡ true
placed-in xs row it tied has d is =
    subst (λ (v : Option vm.Vm). is_disk_placed xs (number_of v) d ≡ true) has
    (all_in (is_disk_placed xs (number_of row.vm)) d row.disks tied.placed is)

-- where it is and whether it is mounted after a call that neither makes nor removes a machine
pub holder-after : (xs : List Entry) (row : Row) (n : ℕ) (dep : List ℕ) (call : Call) (d : ℕ) → StaysMachines call →
    holder_of (with_call xs row n dep call) d
    ≡ held_where (is_vm_there xs) (chosen (attached d call) (last_holder xs d))
holder-after xs row n dep call d machines =
    holder_of-grown xs (Effect (of_row row n dep call)) d
    ∙ (λ i. held_where (λ v. chosen (machines.stays v (vms_created xs) i) (is_vm_there xs v))
    (chosen (attached d call) (last_holder xs d)))

pub mounted-after : (xs : List Entry) (row : Row) (n : ℕ) (dep : List ℕ) (call : Call) (d : ℕ) →
    is_disk_mounted (with_call xs row n dep call) d ≡ chosen (mounts d call) (is_disk_mounted xs d)
mounted-after xs row n dep call d = latest_last (by_call (mounts d)) false xs (Effect (of_row row n dep call))

-- a disk for which neither changes
pub placed-still : (xs : List Entry) (row : Row) (n : ℕ) (dep : List ℕ) (call : Call) (vms : List ℕ) (d : DiskRow) →
    StaysMachines call → attached d.disk call ≡ None → mounts d.disk call ≡ None →
    is_disk_placed xs vms d ≡ true → is_disk_placed (with_call xs row n dep call) vms d ≡ true
placed-still xs row n dep call vms d machines no_attach no_mount placed =
    (λ i. placed_by (holder-after xs row n dep call d.disk machines i) (mounted-after xs row n dep call d.disk i) vms d)
    ∙ (λ i. placed_by (held_where (is_vm_there xs) (chosen (no_attach i) (last_holder xs d.disk)))
    (chosen (no_mount i) (is_disk_mounted xs d.disk)) vms d)
    ∙ placed

-- ---- attach

-- a disk that may be attached is not mounted as it is recorded
not_mounted : (some : Bool) (any held mounted here holds : Bool) →
    (same_truth some held && same_truth any held && same_truth (held && here) mounted) ≡ true →
    ((not some || holds) && not (some && here)) ≡ true → mounted ≡ false
not_mounted some any held false here holds placed movable = refl
not_mounted true any true true true holds placed movable = absurd
    (let no : ((not true || holds) && false) ≡ false = dull holds in cc)
  where
    dull : (b : Bool) → (b && false) ≡ false
    dull true = refl
    dull false = refl
not_mounted some true true true false holds placed movable = absurd (grind (arith, placed))
not_mounted some false true true false holds placed movable = absurd (grind (arith, placed))
not_mounted false any true true true holds placed movable = absurd (grind (arith, placed))
not_mounted some any false true here holds placed movable = absurd (grind (arith, placed))

pub tied-attach : (xs : List Entry) (row : Row) (it : vm.Vm) (x n : ℕ) (dep : List ℕ) → IsTiedTo xs row →
    row.vm ≡ Some it → is_recorded row.disks x ≡ true → (is_vm_there xs it.vm && is_movable xs it.vm x) ≡ true →
    IsTiedTo (with_call xs row n dep (AttachDisk it.vm x)) (answered n (AttachDisk it.vm x) answers.Done row)
tied-attach xs row it x n dep tied has recorded takes =
    tied-disks xs row (answered n (AttachDisk it.vm x) answers.Done row) it n dep (AttachDisk it.vm x) (one x attach)
    tied
    has machines (record { creates = refl; stays = λ d m. refl }) refl refl refl
    (same-one x attach (record { number = λ d. refl; tag = λ d. refl; want = λ d. refl })) refl placed others
  where
    machines : StaysMachines (AttachDisk it.vm x)
    machines = record { creates = refl; stays = λ v m. refl }

    there : is_vm_there xs it.vm ≡ true
    there = (and_parts (is_vm_there xs it.vm) (is_movable xs it.vm x) takes).0

    movable : (is_disk_there xs x && ((not (is_some (holder_of xs x)) || is_holder xs it.vm x)
        && not (is_some (holder_of xs x) && is_disk_mounted xs x))) ≡ true
    movable = (and_parts (is_vm_there xs it.vm) (is_movable xs it.vm x) takes).1

    by_number : (d : DiskRow) → IsIn d row.disks → (b : Bool) → (d.disk == x) ≡ b →
        is_disk_placed (with_call xs row n dep (AttachDisk it.vm x)) (it.vm ∷ []) (if b then attach d else d) ≡ true
    by_number d is true same =
        let number : d.disk ≡ x = eqb-true d.disk x same in
        let here : (x == d.disk) ≡ true = eqb_sym d.disk x true same in
        let loose : d.mounted ≡ false =
        not_mounted (is_some (holder_of xs d.disk)) (is_held_by it.vm (holder_of xs d.disk) || false) d.attached
        d.mounted
        (is_disk_mounted xs d.disk) (is_holder xs it.vm d.disk) (placed-in xs row it tied has d is)
        (and_parts (is_disk_there xs d.disk) _
        (subst (λ (k : ℕ). (is_disk_there xs k && ((not (is_some (holder_of xs k)) || is_holder xs it.vm k)
        && not (is_some (holder_of xs k) && is_disk_mounted xs k))) ≡ true) (sym number) movable)).1 in
        (λ i. placed_by (holder-after xs row n dep (AttachDisk it.vm x) d.disk machines i)
        (mounted-after xs row n dep (AttachDisk it.vm x) d.disk i) (it.vm ∷ []) (attach d))
        ∙ (λ i. placed_by (held_where (is_vm_there xs) (chosen (when (here i) (Some it.vm)) (last_holder xs d.disk)))
        (chosen (when (here i) false) (is_disk_mounted xs d.disk)) (it.vm ∷ []) (attach d))
        ∙ (λ i. placed_by (when (there i) it.vm) false (it.vm ∷ []) (attach d))
        ∙ (λ i. same_truth true true && same_truth (eq-eqb it.vm it.vm refl i || false) true && same_truth false
        (loose i))
    by_number d is false other =
        let apart : (x == d.disk) ≡ false = eqb_sym d.disk x false other in
        placed-still xs row n dep (AttachDisk it.vm x) (it.vm ∷ []) d machines
        (ap (λ b. when b (Some it.vm)) apart) (ap (λ b. when b false) apart) (placed-in xs row it tied has d is)

    placed : (d : DiskRow) → IsIn d row.disks →
        is_disk_placed (with_call xs row n dep (AttachDisk it.vm x)) (it.vm ∷ []) (one x attach d) ≡ true
    placed d is = by_number d is (d.disk == x) refl

    by_holder : (k : ℕ) (b : Bool) → (x == k) ≡ b →
        is_held_by it.vm (held_where (is_vm_there xs) (chosen (when b (Some it.vm)) (last_holder xs k))) ≡ true →
        (is_holder xs it.vm k ≡ true) ⊎ (is_recorded row.disks k ≡ true)
    by_holder k true same holds = inr (ap (is_recorded row.disks) (sym (eqb-true x k same)) ∙ recorded)
    by_holder k false other holds = inl holds

    others : (k : ℕ) → is_holder (with_call xs row n dep (AttachDisk it.vm x)) it.vm k ≡ true →
        (is_holder xs it.vm k ≡ true) ⊎ (is_recorded row.disks k ≡ true)
    others k holds =
        by_holder k (x == k) refl
        (sym (ap (is_held_by it.vm) (holder-after xs row n dep (AttachDisk it.vm x) k machines)) ∙ holds)

-- ---- detach

pub tied-detach : (xs : List Entry) (row : Row) (it : vm.Vm) (x n : ℕ) (dep : List ℕ) → IsTiedTo xs row →
    row.vm ≡ Some it →
    IsTiedTo (with_call xs row n dep (DetachDisk it.vm x)) (answered n (DetachDisk it.vm x) answers.Done row)
tied-detach xs row it x n dep tied has =
    tied-disks xs row (answered n (DetachDisk it.vm x) answers.Done row) it n dep (DetachDisk it.vm x) (one x let_go)
    tied
    has machines (record { creates = refl; stays = λ d m. refl }) refl refl refl
    (same-one x let_go (record { number = λ d. refl; tag = λ d. refl; want = λ d. refl })) refl placed others
  where
    machines : StaysMachines (DetachDisk it.vm x)
    machines = record { creates = refl; stays = λ v m. refl }

    by_number : (d : DiskRow) → IsIn d row.disks → (b : Bool) → (d.disk == x) ≡ b →
        is_disk_placed (with_call xs row n dep (DetachDisk it.vm x)) (it.vm ∷ []) (if b then let_go d else d) ≡ true
    by_number d is true same =
        let here : (x == d.disk) ≡ true = eqb_sym d.disk x true same in
        (λ i. placed_by (holder-after xs row n dep (DetachDisk it.vm x) d.disk machines i)
        (is_disk_mounted (with_call xs row n dep (DetachDisk it.vm x)) d.disk) (it.vm ∷ []) (let_go d))
        ∙ (λ i. placed_by (held_where (is_vm_there xs) (chosen (when {A = Option ℕ} (here i) None)
        (last_holder xs d.disk)))
        (is_disk_mounted (with_call xs row n dep (DetachDisk it.vm x)) d.disk) (it.vm ∷ []) (let_go d))
    by_number d is false other =
        let apart : (x == d.disk) ≡ false = eqb_sym d.disk x false other in
        placed-still xs row n dep (DetachDisk it.vm x) (it.vm ∷ []) d machines
        (ap (λ b. when {A = Option ℕ} b None) apart) refl (placed-in xs row it tied has d is)

    placed : (d : DiskRow) → IsIn d row.disks →
        is_disk_placed (with_call xs row n dep (DetachDisk it.vm x)) (it.vm ∷ []) (one x let_go d) ≡ true
    placed d is = by_number d is (d.disk == x) refl

    by_holder : (k : ℕ) (b : Bool) →
        is_held_by it.vm (held_where (is_vm_there xs) (chosen (when {A = Option ℕ} b None) (last_holder xs k))) ≡ true →
        (is_holder xs it.vm k ≡ true) ⊎ (is_recorded row.disks k ≡ true)
    by_holder k true holds = absurd cc
    by_holder k false holds = inl holds

    others : (k : ℕ) → is_holder (with_call xs row n dep (DetachDisk it.vm x)) it.vm k ≡ true →
        (is_holder xs it.vm k ≡ true) ⊎ (is_recorded row.disks k ≡ true)
    others k holds =
        by_holder k (x == k)
        (sym (ap (is_held_by it.vm) (holder-after xs row n dep (DetachDisk it.vm x) k machines)) ∙ holds)

-- ---- mount and unmount

placed_mounted : (a b held mounted here : Bool) →
    (same_truth a held && same_truth b held && same_truth (held && here) mounted) ≡ true → held ≡ true →
    (same_truth a held && same_truth b held && same_truth (held && true) true) ≡ true
placed_mounted a b true mounted here placed on =
    let parts : ((same_truth a true && same_truth b true) ≡ true) × (same_truth (true && here) mounted ≡ true) =
    and_parts (same_truth a true && same_truth b true) (same_truth (true && here) mounted) placed in
    and_from (same_truth a true && same_truth b true) true parts.0 refl
placed_mounted a b false mounted here placed on = absurd cc

placed_unmounted : (a b held mounted here : Bool) →
    (same_truth a held && same_truth b held && same_truth (held && here) mounted) ≡ true →
    (same_truth a held && same_truth b held && same_truth (held && false) false) ≡ true
placed_unmounted a b held mounted here placed =
    let parts : ((same_truth a held && same_truth b held) ≡ true) × (same_truth (held && here) mounted ≡ true) =
    and_parts (same_truth a held && same_truth b held) (same_truth (held && here) mounted) placed in
    and_from (same_truth a held && same_truth b held) (same_truth (held && false) false) parts.0 (dull held)
  where
    dull : (b : Bool) → same_truth (b && false) false ≡ true
    dull true = refl
    dull false = refl

pub tied-mount : (xs : List Entry) (row : Row) (it : vm.Vm) (x n : ℕ) (dep : List ℕ) → IsTiedTo xs row →
    row.vm ≡ Some it → (has_agent xs it.vm && is_attached xs it.vm x) ≡ true →
    IsTiedTo (with_call xs row n dep (MountDisk it.vm x)) (answered n (MountDisk it.vm x) answers.Done row)
tied-mount xs row it x n dep tied has takes =
    tied-disks xs row (answered n (MountDisk it.vm x) answers.Done row) it n dep (MountDisk it.vm x) (one x mount) tied
    has machines (record { creates = refl; stays = λ d m. refl }) refl refl refl
    (same-one x mount (record { number = λ d. refl; tag = λ d. refl; want = λ d. refl })) refl placed others
  where
    machines : StaysMachines (MountDisk it.vm x)
    machines = record { creates = refl; stays = λ v m. refl }

    holds_it : is_holder xs it.vm x ≡ true
    holds_it =
        (and_parts (is_disk_there xs x) (is_holder xs it.vm x)
        (and_parts (has_agent xs it.vm) (is_attached xs it.vm x) takes).1).1

    by_number : (d : DiskRow) → IsIn d row.disks → (b : Bool) → (d.disk == x) ≡ b →
        is_disk_placed (with_call xs row n dep (MountDisk it.vm x)) (it.vm ∷ []) (if b then mount d else d) ≡ true
    by_number d is true same =
        let here : (x == d.disk) ≡ true = eqb_sym d.disk x true same in
        let on : d.attached ≡ true =
        tells_attached xs row it has tied d is
        (ap (is_holder xs it.vm) (eqb-true d.disk x same) ∙ holds_it) in
        (λ i. placed_by (holder-after xs row n dep (MountDisk it.vm x) d.disk machines i)
        (mounted-after xs row n dep (MountDisk it.vm x) d.disk i) (it.vm ∷ []) (mount d))
        ∙ (λ i. placed_by (holder_of xs d.disk) (chosen (when (here i) true) (is_disk_mounted xs d.disk)) (it.vm ∷ [])
        (mount d))
        ∙ placed_mounted (is_some (holder_of xs d.disk)) (is_held_by it.vm (holder_of xs d.disk) || false) d.attached
        d.mounted (is_disk_mounted xs d.disk) (placed-in xs row it tied has d is) on
    by_number d is false other =
        let apart : (x == d.disk) ≡ false = eqb_sym d.disk x false other in
        placed-still xs row n dep (MountDisk it.vm x) (it.vm ∷ []) d machines refl (ap (λ b. when b true) apart)
        (placed-in xs row it tied has d is)

    placed : (d : DiskRow) → IsIn d row.disks →
        is_disk_placed (with_call xs row n dep (MountDisk it.vm x)) (it.vm ∷ []) (one x mount d) ≡ true
    placed d is = by_number d is (d.disk == x) refl

    others : (k : ℕ) → is_holder (with_call xs row n dep (MountDisk it.vm x)) it.vm k ≡ true →
        (is_holder xs it.vm k ≡ true) ⊎ (is_recorded row.disks k ≡ true)
    others k holds =
        inl (sym (ap (is_held_by it.vm) (holder-after xs row n dep (MountDisk it.vm x) k machines)) ∙ holds)

pub tied-unmount : (xs : List Entry) (row : Row) (it : vm.Vm) (x n : ℕ) (dep : List ℕ) → IsTiedTo xs row →
    row.vm ≡ Some it →
    IsTiedTo (with_call xs row n dep (UnmountDisk it.vm x)) (answered n (UnmountDisk it.vm x) answers.Done row)
tied-unmount xs row it x n dep tied has =
    tied-disks xs row (answered n (UnmountDisk it.vm x) answers.Done row) it n dep (UnmountDisk it.vm x) (one x unmount)
    tied has machines (record { creates = refl; stays = λ d m. refl }) refl refl refl
    (same-one x unmount (record { number = λ d. refl; tag = λ d. refl; want = λ d. refl })) refl placed others
  where
    machines : StaysMachines (UnmountDisk it.vm x)
    machines = record { creates = refl; stays = λ v m. refl }

    by_number : (d : DiskRow) → IsIn d row.disks → (b : Bool) → (d.disk == x) ≡ b →
        is_disk_placed (with_call xs row n dep (UnmountDisk it.vm x)) (it.vm ∷ []) (if b then unmount d else d) ≡ true
    by_number d is true same =
        let here : (x == d.disk) ≡ true = eqb_sym d.disk x true same in
        (λ i. placed_by (holder-after xs row n dep (UnmountDisk it.vm x) d.disk machines i)
        (mounted-after xs row n dep (UnmountDisk it.vm x) d.disk i) (it.vm ∷ []) (unmount d))
        ∙ (λ i. placed_by (holder_of xs d.disk) (chosen (when (here i) false) (is_disk_mounted xs d.disk)) (it.vm ∷ [])
        (unmount d))
        ∙ placed_unmounted (is_some (holder_of xs d.disk)) (is_held_by it.vm (holder_of xs d.disk) || false) d.attached
        d.mounted (is_disk_mounted xs d.disk) (placed-in xs row it tied has d is)
    by_number d is false other =
        let apart : (x == d.disk) ≡ false = eqb_sym d.disk x false other in
        placed-still xs row n dep (UnmountDisk it.vm x) (it.vm ∷ []) d machines refl (ap (λ b. when b false) apart)
        (placed-in xs row it tied has d is)

    placed : (d : DiskRow) → IsIn d row.disks →
        is_disk_placed (with_call xs row n dep (UnmountDisk it.vm x)) (it.vm ∷ []) (one x unmount d) ≡ true
    placed d is = by_number d is (d.disk == x) refl

    others : (k : ℕ) → is_holder (with_call xs row n dep (UnmountDisk it.vm x)) it.vm k ≡ true →
        (is_holder xs it.vm k ≡ true) ⊎ (is_recorded row.disks k ≡ true)
    others k holds =
        inl (sym (ap (is_held_by it.vm) (holder-after xs row n dep (UnmountDisk it.vm x) k machines)) ∙ holds)

-- ---- migrate

-- a migration changes roles alone
pub moved-part : {A : Type 0} (part : DiskRow → A) → ((d : DiskRow) (role : Role) → part (record d { role = role }) ≡
    part d) →
    (from to : ℕ) (d : DiskRow) → part (moved from to d) ≡ part d
moved-part part same from to d = by_first (d.disk == from)
  where
    by_second : (e : DiskRow) (c : Bool) → part e ≡ part d →
        part (if c then record e { role = roles.Active } else e) ≡ part d
    by_second e true is = same e roles.Active ∙ is
    by_second e false is = is

    by_first : (b : Bool) → part (if (if b then record d { role = roles.Old } else d).disk == to
        then record (if b then record d { role = roles.Old } else d) { role = roles.Active }
        else (if b then record d { role = roles.Old } else d))
        ≡ part d
    by_first true = by_second (record d { role = roles.Old }) (d.disk == to) (same d roles.Old)
    by_first false = by_second d (d.disk == to) refl

pub tied-migrate : (xs : List Entry) (row : Row) (it : vm.Vm) (from to n : ℕ) (dep : List ℕ) → IsTiedTo xs row →
    row.vm ≡ Some it →
    IsTiedTo (with_call xs row n dep (MigrateDisk it.vm from to))
    (answered n (MigrateDisk it.vm from to) answers.Done row)
tied-migrate xs row it from to n dep tied has =
    tied-disks xs row (answered n (MigrateDisk it.vm from to) answers.Done row) it n dep (MigrateDisk it.vm from to)
    (moved from to) tied has machines (record { creates = refl; stays = λ d m. refl }) refl refl refl
    (record {
      number = moved-part (λ d. d.disk) (λ d role. refl) from to;
      tag = moved-part (λ d. d.tag) (λ d role. refl) from to;
      want = moved-part (λ d. d.want) (λ d role. refl) from to;
    })
    (λ i. record row { disks = migrated-map from to row.disks i }) placed others
  where
    machines : StaysMachines (MigrateDisk it.vm from to)
    machines = record { creates = refl; stays = λ v m. refl }

    placed : (d : DiskRow) → IsIn d row.disks →
        is_disk_placed (with_call xs row n dep (MigrateDisk it.vm from to)) (it.vm ∷ []) (moved from to d) ≡ true
    placed d is =
        moved-part (λ e. is_disk_placed (with_call xs row n dep (MigrateDisk it.vm from to)) (it.vm ∷ []) e)
        (λ e role. refl) from to d
        ∙ placed-still xs row n dep (MigrateDisk it.vm from to) (it.vm ∷ []) d machines refl refl
        (placed-in xs row it tied has d is)

    others : (k : ℕ) → is_holder (with_call xs row n dep (MigrateDisk it.vm from to)) it.vm k ≡ true →
        (is_holder xs it.vm k ≡ true) ⊎ (is_recorded row.disks k ≡ true)
    others k holds =
        inl (sym (ap (is_held_by it.vm) (holder-after xs row n dep (MigrateDisk it.vm from to) k machines)) ∙ holds)
