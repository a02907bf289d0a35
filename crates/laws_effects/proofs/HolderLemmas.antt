-- A disk is held by a machine of its own owner.
use Rattle.std.proofs.Common.{◌≡◌, ℕ, ◌+◌, ◌≤◌, ◌<◌, Bool, true, false, Option, Some, None, List, [], ◌∷◌, ◌++◌, refl, sym, ◌∙◌, ap, subst, inl, inr, arith}
use Rattle.std.specs.Prelude.{◌⊎◌, ◌==◌, if◌then◌else◌}
use Rattle.std.specs.Option.{option_map}
use Rattle.std.proofs.lemmas.Bool.{eqb-true, cases_lt}
use Rattle.bosh_base.specs.CallStep.{takes_effect}
use Rattle.bosh_base.specs.Cloud.{when, contents_of, disks_created, holder_of, is_vm_there, vms_created}
use Rattle.bosh_base.specs.declared.call.Call.{Call}
use Rattle.bosh_base.specs.declared.call.Call.TheVariants.{DeleteVm, CreateDisk, AttachDisk, DetachDisk, DeleteDisk, MountDisk, UnmountDisk, MigrateDisk}
use Rattle.bosh_base.specs.declared.digest.Digest.{Digest}
use Rattle.bosh_base.specs.declared.entry.Entry.{Entry}
use Rattle.bosh_base.specs.declared.entry.Entry.TheVariants.{Effect, Write, Lost}
use Rattle.bosh_base.specs.declared.key.KeyWork.{KeyWork}
use Rattle.laws_effects.proofs.AheadLemmas.{behind, created_below, last_holder}
use Rattle.laws_effects.proofs.CreationLemmas.{disk_creation_stays, vm_creation_stays}
use Rattle.laws_effects.proofs.DiskLemmas.{entry_changes_disk, held_where}
use Rattle.laws_effects.proofs.FollowLemmas.{disks_there, vms_there}
use Rattle.laws_effects.specs.DiskStates.{DiskState, disk_after, disk_after_call, disk_state, let_go_by, new_disk}
use Rattle.laws_effects.specs.Following.{MayFollow}
use Rattle.laws_effects.specs.Holders.{AreHeldByTheirOwn, JoinsBy, JoinsTheSame, disk_owner, vm_owner}
use Rattle.laws_effects.specs.Orderly.{AreOrderly}

-- a machine that has a disk was created, and so was the disk
holder_created : (there : ℕ → Bool) (n v : ℕ) (last : Option ℕ) → ((v : ℕ) → last ≡ Some v → v ≤ n) →
    held_where there last ≡ Some v → v ≤ n
holder_created there n v None old is = absurd cc
holder_created there n v (Some w) old is = by_truth (there w) is
  where
    by_truth : (b : Bool) → when b w ≡ Some v → v ≤ n
    by_truth true is = let below : w ≤ n = old w refl in let same : w ≡ v = cc in omega arith
    by_truth false is = absurd cc

pub vm_of_holder : (xs : List Entry) → AreOrderly xs → (d v : ℕ) → holder_of xs d ≡ Some v → v ≤ vms_created xs
vm_of_holder xs orderly d v is =
    holder_created (is_vm_there xs) (vms_created xs) v (last_holder xs d) ((behind xs orderly).holder d) is

pub disk_of_holder : (xs : List Entry) → AreOrderly xs → (d v : ℕ) → holder_of xs d ≡ Some v → d ≤ disks_created xs
disk_of_holder xs orderly d v is = by_order (cases_lt (disks_created xs) d)
  where
    by_order : ((disks_created xs < d) ⊎ (d ≤ disks_created xs)) → d ≤ disks_created xs
    by_order (inl later) =
        let none : last_holder xs d ≡ None = (behind xs orderly).held d later in
        absurd (let nobody : holder_of xs d ≡ None = ap (held_where (is_vm_there xs)) none in cc)
    by_order (inr below) = below

-- ---- the holder after an entry is the one before it, or the one that the disk is attached to

abbrev Attaches : Call → ℕ → ℕ → Type 0
Attaches (AttachDisk vm disk) d v = (vm ≡ v) × (disk ≡ d)
Attaches call d v = ⊥

let_go : (vm v : ℕ) (holder : Option ℕ) → let_go_by vm holder ≡ Some v → holder ≡ Some v
let_go vm v None is = absurd cc
let_go vm v (Some w) is = by_truth (vm == w) is
  where
    by_truth : (b : Bool) → (if b then None else Some w) ≡ Some v → Some w ≡ Some v
    by_truth true is = absurd cc
    by_truth false is = is

by_call_held : (n d v : ℕ) (all : ℕ → List ℕ) (call : Call) (it : DiskState) →
    (disk_after_call n all d call it).holder ≡ Some v → (it.holder ≡ Some v) ⊎ Attaches call d v
by_call_held n d v all (DeleteVm vm) it is = inl (let_go vm v it.holder is)
by_call_held n d v all (CreateDisk want vm) it is = inl (by_number (n + 1 == d) is)
  where
    by_number : (b : Bool) → (if b then new_disk else it).holder ≡ Some v → it.holder ≡ Some v
    by_number true is = absurd cc
    by_number false is = is
by_call_held n d v all (AttachDisk vm disk) it is = by_number (disk == d) refl is
  where
    by_number : (b : Bool) → (disk == d) ≡ b →
        (if b then record it { holder = Some vm; mounted = false } else it).holder ≡ Some v →
        (it.holder ≡ Some v) ⊎ ((vm ≡ v) × (disk ≡ d))
    by_number true same is = inr ((let it_is : vm ≡ v = cc in it_is), eqb-true disk d same)
    by_number false same is = inl is
by_call_held n d v all (DetachDisk vm disk) it is = inl (by_number (disk == d) is)
  where
    by_number : (b : Bool) → (if b then record it { holder = None } else it).holder ≡ Some v → it.holder ≡ Some v
    by_number true is = absurd cc
    by_number false is = is
by_call_held n d v all (DeleteDisk disk) it is = inl (by_number (disk == d) is)
  where
    by_number : (b : Bool) → (if b then record it { there = false } else it).holder ≡ Some v → it.holder ≡ Some v
    by_number true is = is
    by_number false is = is
by_call_held n d v all (MountDisk vm disk) it is = inl (by_number (disk == d) is)
  where
    by_number : (b : Bool) → (if b then record it { mounted = true } else it).holder ≡ Some v → it.holder ≡ Some v
    by_number true is = is
    by_number false is = is
by_call_held n d v all (UnmountDisk vm disk) it is = inl (by_number (disk == d) is)
  where
    by_number : (b : Bool) → (if b then record it { mounted = false } else it).holder ≡ Some v → it.holder ≡ Some v
    by_number true is = is
    by_number false is = is
by_call_held n d v all (MigrateDisk vm from to) it is = inl (by_number (d == to) is)
  where
    by_number : (b : Bool) → (if b then record it { contents = all from } else it).holder ≡ Some v →
        it.holder ≡ Some v
    by_number true is = is
    by_number false is = is
by_call_held n d v all call it is = inl is

pub held_by_own : (built : KeyWork → List Digest → Digest) (before : List Entry) (entry : Entry) →
    AreOrderly before → MayFollow built before entry → AreHeldByTheirOwn before → JoinsTheSame before entry →
    AreHeldByTheirOwn (before ++ entry ∷ [])
held_by_own built xs x orderly follows own joins d v is =
    by_entry x follows joins (sym (ap (λ it. it.holder) (entry_changes_disk built xs x d orderly follows)) ∙ is)
  where
    same : v ≤ vms_created xs → d ≤ disks_created xs → vm_owner xs v ≡ disk_owner xs d →
        vm_owner (xs ++ x ∷ []) v ≡ disk_owner (xs ++ x ∷ []) d
    same vm disk both =
        ap (option_map (λ e. e.owner)) (vm_creation_stays xs x v vm) ∙ both
        ∙ ap (option_map (λ e. e.owner)) (sym (disk_creation_stays xs x d disk))

    as_before : holder_of xs d ≡ Some v → vm_owner (xs ++ x ∷ []) v ≡ disk_owner (xs ++ x ∷ []) d
    as_before was = same (vm_of_holder xs orderly d v was) (disk_of_holder xs orderly d v was) (own d v was)

    newly : (call : Call) → takes_effect built xs call ≡ true → JoinsBy xs call → Attaches call d v →
        vm_owner (xs ++ x ∷ []) v ≡ disk_owner (xs ++ x ∷ []) d
    newly (AttachDisk vm disk) takes joins (is_vm, is_disk) =
        same
        (subst (λ (w : ℕ). w ≤ vms_created xs) is_vm
        (created_below (vms_created xs) vm true (vms_there built xs (AttachDisk vm disk) takes)))
        (subst (λ (c : ℕ). c ≤ disks_created xs) is_disk
        (created_below (disks_created xs) disk true (disks_there built xs (AttachDisk vm disk) takes)))
        (ap (vm_owner xs) (sym is_vm) ∙ joins ∙ ap (disk_owner xs) is_disk)
    newly call takes joins none = absurd none

    by_entry : (y : Entry) → MayFollow built xs y → JoinsTheSame xs y →
        (disk_after (disks_created xs) (contents_of xs) d y (disk_state xs d)).holder ≡ Some v →
        vm_owner (xs ++ x ∷ []) v ≡ disk_owner (xs ++ x ∷ []) d
    by_entry (Effect e) takes joins is =
        by_way (by_call_held (disks_created xs) d v (contents_of xs) e.call (disk_state xs d) is)
      where
        by_way : ((holder_of xs d ≡ Some v) ⊎ Attaches e.call d v) →
            vm_owner (xs ++ x ∷ []) v ≡ disk_owner (xs ++ x ∷ []) d
        by_way (inl was) = as_before was
        by_way (inr attaches) = newly e.call takes joins attaches
    by_entry (Write w) there joins is = as_before (by_number (d == w.disk) is)
      where
        by_number : (b : Bool) →
            (if b then record (disk_state xs d) { contents = w.text } else disk_state xs d).holder ≡ Some v →
            holder_of xs d ≡ Some v
        by_number true is = is
        by_number false is = is
    by_entry (Lost loss) there joins is = as_before (by_loss loss.whole is)
      where
        by_loss : (whole : Bool) →
            (if whole then record (disk_state xs d) { holder = let_go_by loss.vm (holder_of xs d) } else
            disk_state xs d).holder
            ≡ Some v →
            holder_of xs d ≡ Some v
        by_loss true is = let_go loss.vm v (holder_of xs d) is
        by_loss false is = is
    by_entry y follows joins is = absurd cc
