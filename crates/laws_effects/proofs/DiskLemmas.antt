-- One more entry, and the disk of a number.
use Rattle.std.proofs.Common.{◌≡◌, ℕ, ◌+◌, ◌≤◌, ◌<◌, Bool, true, false, Option, Some, None, List, [], ◌∷◌, ◌++◌, refl, sym, ◌∙◌, ap, arith}
use Rattle.std.specs.Prelude.{◌&&◌, ◌==◌, if◌then◌else◌}
use Rattle.std.specs.Option.{option_and_then}
use Rattle.std.proofs.lemmas.Bool.{and_parts, eqb-true, ne_eqb}
use Rattle.std.proofs.lemmas.List.Sums.{fold-append}
use Rattle.bosh_base.proofs.HistoryLemmas.{latest_last}
use Rattle.bosh_base.specs.CallStep.{is_movable, takes_effect}
use Rattle.bosh_base.specs.Cloud.{when, attached, by_call, contents_of, disk_presence, disk_stays, disks_created, holder_of, is_disk_mounted, is_disk_there, is_vm_there, mounts, contents_after_call, vm_presence, vm_stays, vms_created, contents_after}
use Rattle.bosh_base.specs.History.{chosen}
use Rattle.bosh_base.specs.declared.answer.Answer.TheVariants as answers
use Rattle.bosh_base.specs.declared.call.Call.{Call}
use Rattle.bosh_base.specs.declared.call.Call.TheVariants.{CreateVm, DeleteVm, CreateDisk, DeleteDisk, AttachDisk, DetachDisk, MountDisk, UnmountDisk, MigrateDisk}
use Rattle.bosh_base.specs.declared.digest.Digest.{Digest}
use Rattle.bosh_base.specs.declared.entry.Entry.{Entry}
use Rattle.bosh_base.specs.declared.entry.Entry.TheVariants.{Effect, Write, Lost}
use Rattle.bosh_base.specs.declared.key.KeyWork.{KeyWork}
use Rattle.laws_effects.proofs.AheadLemmas.{IsBehind, behind, last_holder}
use Rattle.laws_effects.proofs.CreationLemmas.{is_disk_there-grown, is_vm_there-grown}
use Rattle.laws_effects.proofs.FollowLemmas.{not_gone}
use Rattle.laws_effects.specs.DiskStates.{DiskState, disk_after, disk_after_call, disk_state, let_go_by, new_disk}
use Rattle.laws_effects.specs.Following.{MayFollow}
use Rattle.laws_effects.specs.Orderly.{AreOrderly}

-- the machine that has a disk, where it is there
abbrev pub held_where : (ℕ → Bool) → Option ℕ → Option ℕ
held_where there last = option_and_then (λ v. when (there v) v) last

-- the parts of a disk after an entry that says so of each
abbrev told : DiskState → Option Bool → Option ℕ → Option Bool → List ℕ → DiskState
told it there holder mounted contents = record {
  there = chosen there it.there;
  holder = holder;
  mounted = chosen mounted it.mounted;
  contents = contents;
}

pub holder_of-grown : (xs : List Entry) (x : Entry) (d : ℕ) →
    holder_of (xs ++ x ∷ []) d
    ≡ held_where (λ v. chosen (vm_presence v xs x) (is_vm_there xs v))
    (chosen (by_call (attached d) x) (last_holder xs d))
holder_of-grown xs x d =
    let last : last_holder (xs ++ x ∷ []) d ≡ chosen (by_call (attached d) x) (last_holder xs d) =
    latest_last (by_call (attached d)) None xs x in
    λ i. held_where (λ v. is_vm_there-grown xs x v i) (last i)

grown : (xs : List Entry) (x : Entry) (d : ℕ) →
    disk_state (xs ++ x ∷ []) d
    ≡ told (disk_state xs d) (disk_presence d xs x)
    (held_where (λ v. chosen (vm_presence v xs x) (is_vm_there xs v))
    (chosen (by_call (attached d) x) (last_holder xs d)))
    (by_call (mounts d) x) (contents_after (contents_of xs) x d)
grown xs x d =
    let there : is_disk_there (xs ++ x ∷ []) d ≡ chosen (disk_presence d xs x) (is_disk_there xs d) =
    is_disk_there-grown xs x d in
    let holder : holder_of (xs ++ x ∷ []) d ≡ _ = holder_of-grown xs x d in
    let mounted : is_disk_mounted (xs ++ x ∷ []) d ≡ chosen (by_call (mounts d) x) (is_disk_mounted xs d) =
    latest_last (by_call (mounts d)) false xs x in
    let contents : contents_of (xs ++ x ∷ []) d ≡ contents_after (contents_of xs) x d =
    ap (λ all. all d) (fold-append contents_after (λ d. []) xs (x ∷ [])) in
    λ i. record { there = there i; holder = holder i; mounted = mounted i; contents = contents i }

-- ---- who has the disk

-- a machine that is created has none
pub held_by_old : (there : ℕ → Bool) (n : ℕ) (last : Option ℕ) → ((v : ℕ) → last ≡ Some v → v ≤ n) →
    held_where (λ v. chosen (when (n + 1 == v) true) (there v)) last ≡ held_where there last
held_by_old there n None old = refl
held_by_old there n (Some v) old =
    let below : v ≤ n = old v refl in
    ap (λ is. when (chosen (when is true) (there v)) v) (ne_eqb (n + 1) v (λ is. absurd (omega arith)))

-- .. and one that goes lets go of its own
pub held_by_others : (there : ℕ → Bool) (vm : ℕ) (last : Option ℕ) →
    held_where (λ v. chosen (when (vm == v) false) (there v)) last ≡ let_go_by vm (held_where there last)
held_by_others there vm None = refl
held_by_others there vm (Some v) = by_truth (there v) (vm == v) refl
  where
    by_truth : (here is : Bool) → (vm == v) ≡ is →
        when (chosen (when is false) here) v ≡ let_go_by vm (when here v)
    by_truth true true same = ap (λ b. if b then None else Some v) (sym same)
    by_truth true false same = ap (λ b. if b then None else Some v) (sym same)
    by_truth false true same = refl
    by_truth false false same = refl

-- ---- each entry

-- what is asked of an entry: a disk is attached to a machine that is there
abbrev Attaches : (ℕ → Bool) → Call → Type 0
Attaches there (AttachDisk vm disk) = there vm ≡ true
Attaches there call = Unit {0}

by_call_told : (there : ℕ → Bool) (vms disks d : ℕ) (all : ℕ → List ℕ) (call : Call) (it : DiskState)
    (last : Option ℕ) → it.holder ≡ held_where there last → it.contents ≡ all d →
    ((v : ℕ) → last ≡ Some v → v ≤ vms) → (disks < d → record it { there = true } ≡ new_disk) → Attaches there call →
    told it (disk_stays d disks call)
    (held_where (λ v. chosen (vm_stays v vms call) (there v)) (chosen (attached d call) last)) (mounts d call)
    (contents_after_call all call d)
    ≡ disk_after_call disks all d call it
by_call_told there vms disks d all (CreateVm make hint) it last holder contents old new attaches =
    λ i. told it None ((held_by_old there vms last old ∙ sym holder) i) None (sym contents i)
by_call_told there vms disks d all (DeleteVm vm) it last holder contents old new attaches =
    λ i. told it None ((held_by_others there vm last ∙ ap (let_go_by vm) (sym holder)) i) None (sym contents i)
by_call_told there vms disks d all (CreateDisk want vm) it last holder contents old new attaches =
    by_number (disks + 1 == d) refl
  where
    by_number : (b : Bool) → (disks + 1 == d) ≡ b →
        told it (when b true) (held_where there last) None (all d) ≡ (if b then new_disk else it)
    by_number true is =
        let next : disks + 1 ≡ d = eqb-true (disks + 1) d is in
        (λ i. told it (Some true) (sym holder i) None (sym contents i)) ∙ new (omega arith)
    by_number false is = λ i. told it None (sym holder i) None (sym contents i)
by_call_told there vms disks d all (DeleteDisk disk) it last holder contents old new attaches = by_number (disk == d)
  where
    by_number : (b : Bool) →
        told it (when b false) (held_where there last) None (all d) ≡ (if b then record it { there = false } else it)
    by_number true = λ i. told it (Some false) (sym holder i) None (sym contents i)
    by_number false = λ i. told it None (sym holder i) None (sym contents i)
by_call_told there vms disks d all (AttachDisk vm disk) it last holder contents old new attaches = by_number (disk == d)
  where
    by_number : (b : Bool) →
        told it None (held_where there (chosen (when b (Some vm)) last)) (when b false) (all d)
        ≡ (if b then record it { holder = Some vm; mounted = false } else it)
    by_number true = λ i. told it None (ap (λ here. when here vm) attaches i) (Some false) (sym contents i)
    by_number false = λ i. told it None (sym holder i) None (sym contents i)
by_call_told there vms disks d all (DetachDisk vm disk) it last holder contents old new attaches = by_number (disk == d)
  where
    by_number : (b : Bool) →
        told it None (held_where there (chosen (when {A = Option ℕ} b None) last)) None (all d)
        ≡ (if b then record it { holder = None } else it)
    by_number true = λ i. told it None None None (sym contents i)
    by_number false = λ i. told it None (sym holder i) None (sym contents i)
by_call_told there vms disks d all (MountDisk vm disk) it last holder contents old new attaches = by_number (disk == d)
  where
    by_number : (b : Bool) →
        told it None (held_where there last) (when b true) (all d) ≡ (if b then record it { mounted = true } else it)
    by_number true = λ i. told it None (sym holder i) (Some true) (sym contents i)
    by_number false = λ i. told it None (sym holder i) None (sym contents i)
by_call_told there vms disks d all (UnmountDisk vm disk) it last holder contents old new attaches =
    by_number (disk == d)
  where
    by_number : (b : Bool) →
        told it None (held_where there last) (when b false) (all d) ≡ (if b then record it { mounted = false } else it)
    by_number true = λ i. told it None (sym holder i) (Some false) (sym contents i)
    by_number false = λ i. told it None (sym holder i) None (sym contents i)
by_call_told there vms disks d all (MigrateDisk vm from to) it last holder contents old new attaches =
    by_number (d == to)
  where
    by_number : (b : Bool) →
        told it None (held_where there last) None (if b then all from else all d)
        ≡ (if b then record it { contents = all from } else it)
    by_number true = λ i. told it None (sym holder i) None (all from)
    by_number false = λ i. told it None (sym holder i) None (sym contents i)
by_call_told there vms disks d all call it last holder contents old new attaches =
    λ i. told it None (sym holder i) None (sym contents i)

new_ahead : (xs : List Entry) → IsBehind xs → (d : ℕ) → disks_created xs < d →
    record (disk_state xs d) { there = true } ≡ new_disk
new_ahead xs behind d later = λ i. record {
  there = true;
  holder = held_where (is_vm_there xs) (behind.held d later i);
  mounted = behind.mounted d later i;
  contents = behind.contents d later i;
}

attaches_by : (built : KeyWork → List Digest → Digest) (xs : List Entry) (call : Call) →
    takes_effect built xs call ≡ true → Attaches (is_vm_there xs) call
attaches_by built xs (AttachDisk vm disk) takes =
    (and_parts (is_vm_there xs vm) (is_movable xs vm disk)
    (not_gone (is_vm_there xs vm && is_movable xs vm disk) answers.Done takes)).0
attaches_by built xs call takes = tt

pub entry_changes_disk : (built : KeyWork → List Digest → Digest) (before : List Entry) (entry : Entry) (d : ℕ) →
    AreOrderly before → MayFollow built before entry →
    disk_state (before ++ entry ∷ []) d
    ≡ disk_after (disks_created before) (contents_of before) d entry (disk_state before d)
entry_changes_disk built xs x d orderly follows = grown xs x d ∙ by_entry x follows
  where
    by_entry : (x : Entry) → MayFollow built xs x →
        told (disk_state xs d) (disk_presence d xs x)
        (held_where (λ v. chosen (vm_presence v xs x) (is_vm_there xs v))
        (chosen (by_call (attached d) x) (last_holder xs d)))
        (by_call (mounts d) x) (contents_after (contents_of xs) x d)
        ≡ disk_after (disks_created xs) (contents_of xs) d x (disk_state xs d)
    by_entry (Effect e) takes =
        by_call_told (is_vm_there xs) (vms_created xs) (disks_created xs) d (contents_of xs) e.call (disk_state xs d)
        (last_holder xs d) refl refl ((behind xs orderly).holder d) (new_ahead xs (behind xs orderly) d)
        (attaches_by built xs e.call takes)
    by_entry (Write w) there = by_number (d == w.disk)
      where
        by_number : (b : Bool) →
            told (disk_state xs d) None (holder_of xs d) None (if b then w.text else contents_of xs d)
            ≡ (if b then record (disk_state xs d) { contents = w.text } else disk_state xs d)
        by_number true = refl
        by_number false = refl
    by_entry (Lost loss) there = by_loss loss.whole
      where
        by_loss : (whole : Bool) →
            told (disk_state xs d) None
            (held_where (λ v. chosen (when (whole && loss.vm == v) false) (is_vm_there xs v)) (last_holder xs d)) None
            (contents_of xs d)
            ≡ (if whole then record (disk_state xs d) { holder = let_go_by loss.vm (holder_of xs d) } else
            disk_state xs d)
        by_loss true =
            λ i. told (disk_state xs d) None (held_by_others (is_vm_there xs) loss.vm (last_holder xs d) i) None
            (contents_of xs d)
        by_loss false = refl
    by_entry x follows = absurd cc

-- ---- what is gone

past_call : (n d : ℕ) (call : Call) → d ≤ n → chosen (disk_stays d n call) false ≡ false
past_call n d (CreateDisk want vm) below =
    ap (λ is. chosen (when is true) false) (ne_eqb (n + 1) d (λ is. absurd (omega arith)))
past_call n d (DeleteDisk disk) below = by_number (disk == d)
  where
    by_number : (b : Bool) → chosen (when b false) false ≡ false
    by_number true = refl
    by_number false = refl
past_call n d call below = refl

never_there : (xs : List Entry) (x : Entry) (d : ℕ) → d ≤ disks_created xs →
    chosen (disk_presence d xs x) false ≡ false
never_there xs (Effect e) d below = past_call (disks_created xs) d e.call below
never_there xs x d below = refl

pub gone_disk : (before : List Entry) (entry : Entry) (d : ℕ) → d ≤ disks_created before →
    is_disk_there before d ≡ false → is_disk_there (before ++ entry ∷ []) d ≡ false
gone_disk xs x d below gone =
    is_disk_there-grown xs x d ∙ ap (chosen (disk_presence d xs x)) gone ∙ never_there xs x d below
