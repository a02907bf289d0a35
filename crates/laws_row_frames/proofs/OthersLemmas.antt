-- What is done for another owner leaves the machines and disks of an instance as they are.
use Rattle.std.proofs.Common.{◌≡◌, ℕ, ◌+◌, ◌≤◌, Bool, true, false, Option, Some, None, List, refl, sym, ◌∙◌, ap, arith}
use Rattle.std.specs.Prelude.{◌&&◌, ◌||◌, ◌==◌, not, is_some, if◌then◌else◌}
use Rattle.std.specs.List.{list_all}
use Rattle.std.specs.Option.{option_map}
use Rattle.std.proofs.lemmas.Bool.{and_parts, eqb-true, ne_eqb}
use Rattle.std.proofs.lemmas.Option.{same_Some}
use Rattle.bosh_base.specs.CallStep.{has_agent, is_attached, is_movable, takes_effect}
use Rattle.bosh_base.specs.Cloud.{contents_of, disk_creation, disks_created, holder_of, is_disk_mounted, is_disk_there, is_holder, is_vm_there, vm_creation, vms_created}
use Rattle.bosh_base.specs.declared.answer.Answer.TheVariants as answers
use Rattle.bosh_base.specs.declared.call.Call.{Call}
use Rattle.bosh_base.specs.declared.call.Call.TheVariants as calls
use Rattle.bosh_base.specs.declared.digest.Digest.{Digest}
use Rattle.bosh_base.specs.declared.entry.Effect as effect
use Rattle.bosh_base.specs.declared.entry.Entry.{Entry}
use Rattle.bosh_base.specs.declared.entry.Entry.TheVariants.{Effect}
use Rattle.bosh_base.specs.declared.inst.Inst.{Inst}
use Rattle.bosh_base.specs.declared.key.KeyWork.{KeyWork}
use Rattle.bosh_base.specs.declared.owner.Owner.{Owner}
use Rattle.bosh_base.specs.declared.owner.Owner.TheVariants.{Instance, Compile, Disk}
use Rattle.laws_answered_rows.proofs.OwnLemmas.{same_instance}
use Rattle.laws_effects.proofs.AheadLemmas.{behind}
use Rattle.laws_effects.proofs.CreationLemmas.{vm_creation_next}
use Rattle.laws_effects.proofs.DiskLemmas.{held_where}
use Rattle.laws_effects.proofs.FollowLemmas.{not_gone}
use Rattle.laws_effects.specs.DiskStates.{DiskState, disk_after_call, disk_state, let_go_by, new_disk}
use Rattle.laws_effects.specs.Holders.{AreHeldByTheirOwn, JoinsBy, disk_owner, vm_owner}
use Rattle.laws_effects.specs.Orderly.{AreOrderly, vms_named_by}
use Rattle.laws_effects.specs.VmStates.{new_vm, vm_after_call, vm_state}
use Rattle.laws_rows.proofs.TieLemmas.{is_held_by}
use Rattle.laws_rows.proofs.WholeTieLemmas.{named-lost}
use Rattle.bosh_rows.proofs.SameLemmas as instances
use Rattle.bosh_rows.specs.Same.{same_inst, same_owner}
use Rattle.bosh_rows.specs.Tied.{is_made_for}
use Rattle.laws_row_frames.proofs.EntryFrames.{Leaves, created_of, disk_created_of}
use Rattle.laws_row_frames.proofs.FrameLemmas.{IsDiskOf, IsOf}
use Rattle.laws_row_frames.specs.Others.{is_owned_by}

-- ---- owners

-- what was made for an instance has it as its owner
pub owner_of : (i : Inst) (o : Option effect.Effect) → is_made_for (Instance i) o ≡ true →
    option_map (λ e. e.owner) o ≡ Some (Instance i)
owner_of i (Some e) is = ap Some (same_instance e.owner i is)
owner_of i None is = absurd cc

-- .. and conversely
pub made_by : (i : Inst) (o : Option effect.Effect) → option_map (λ e. e.owner) o ≡ Some (Instance i) →
    is_made_for (Instance i) o ≡ true
made_by i (Some e) is =
    ap (λ o. same_owner o (Instance i)) (same_Some e.owner (Instance i) is) ∙ instances.itself i
made_by i None is = absurd cc

-- nothing was made for two owners
pub two_owners : (i : Inst) (owner : Owner) → same_owner owner (Instance i) ≡ false → (o : Option effect.Effect) →
    is_made_for owner o ≡ true → is_made_for (Instance i) o ≡ true → ⊥
two_owners i owner other None is also = cc
two_owners i owner other (Some e) is also =
    by_owner owner other (sym (ap (λ o. same_owner o owner) (same_instance e.owner i also)) ∙ is)
  where
    by_owner : (owner : Owner) → same_owner owner (Instance i) ≡ false → same_owner (Instance i) owner ≡ true → ⊥
    by_owner (Instance j) other is =
        let same : i ≡ j = (instances.same_inst_decides i j).0 is in
        let yes : same_inst j i ≡ true = ap (λ k. same_inst k i) (sym same) ∙ instances.itself i in cc
    by_owner (Compile t s) other is = cc
    by_owner (Disk d) other is = cc

-- one part of either of two states
either : {A : Type 0} (f : DiskState → A) (b : Bool) (new old : DiskState) → f new ≡ f old →
    f (if b then new else old) ≡ f old
either f true new old is = is
either f false new old is = refl

-- .. where the test does not hold
other_one : {A : Type 0} (f : DiskState → A) (b : Bool) (new old : DiskState) → b ≡ false →
    f (if b then new else old) ≡ f old
other_one f b new old off = ap (λ (c : Bool). f (if c then new else old)) off

-- a disk that may be moved by a machine is on no other
movable_free : (vm v : ℕ) (o : Option ℕ) → (not (is_some o) || is_held_by vm o) ≡ true → (vm == v) ≡ false →
    is_held_by v o ≡ false
movable_free vm v None free apart = refl
movable_free vm v (Some w) free apart = ap (λ k. k == v) (eqb-true w vm free) ∙ apart

free_of : (xs : List Entry) (vm d : ℕ) → (is_vm_there xs vm && is_movable xs vm d) ≡ true →
    (not (is_some (holder_of xs d)) || is_holder xs vm d) ≡ true
free_of xs vm d takes =
    (and_parts (not (is_some (holder_of xs d)) || is_holder xs vm d) _
    (and_parts (is_disk_there xs d) _ (and_parts (is_vm_there xs vm) (is_movable xs vm d) takes).1).1).0

held_of : (xs : List Entry) (vm d : ℕ) → (has_agent xs vm && is_attached xs vm d) ≡ true → is_holder xs vm d ≡ true
held_of xs vm d takes =
    (and_parts (is_disk_there xs d) (is_holder xs vm d) (and_parts (has_agent xs vm) (is_attached xs vm d) takes).1).1

holder_is : (vm : ℕ) (o : Option ℕ) → is_held_by vm o ≡ true → o ≡ Some vm
holder_is vm (Some w) is = ap Some (eqb-true w vm is)
holder_is vm None is = absurd cc

-- a disk that is deleted is another
abbrev pub Spares : ℕ → Call → Type 0
Spares k (calls.DeleteDisk d) = (d == k) ≡ false
Spares k call = Unit {0}

-- ---- a call for another owner

module _ (built : KeyWork → List Digest → Digest) (xs : List Entry) (owner : Owner) (i : Inst)
    (orderly : AreOrderly xs) (held : AreHeldByTheirOwn xs) (other : same_owner owner (Instance i) ≡ false) where
  -- a machine of the instance is none of the other's
  vm_apart : (vm v : ℕ) → (is_owned_by xs owner vm && true) ≡ true → IsOf xs i v → (vm == v) ≡ false
  vm_apart vm v owns of = by_number (vm == v) refl
    where
      by_number : (b : Bool) → (vm == v) ≡ b → b ≡ false
      by_number false is = refl
      by_number true same =
          absurd (two_owners i owner other (vm_creation xs vm) (and_parts (is_owned_by xs owner vm) true owns).0
          (ap (λ k. is_made_for (Instance i) (vm_creation xs k)) (eqb-true vm v same) ∙ of))

  -- a disk of the instance is on none of the other's machines
  not_held : (vm d : ℕ) → (is_owned_by xs owner vm && true) ≡ true → IsDiskOf xs i d → holder_of xs d ≡ Some vm → ⊥
  not_held vm d owns of is =
      two_owners i owner other (vm_creation xs vm) (and_parts (is_owned_by xs owner vm) true owns).0
      (made_by i (vm_creation xs vm) (held d vm is ∙ owner_of i (disk_creation xs d) of))

  -- and a disk that is attached to one of the other's machines is none of the instance's
  not_joined : (vm d : ℕ) → (is_owned_by xs owner vm && true) ≡ true → vm_owner xs vm ≡ disk_owner xs d →
      (k : ℕ) → IsDiskOf xs i k → (d == k) ≡ false
  not_joined vm d owns joins k of = by_number (d == k) refl
    where
      by_number : (b : Bool) → (d == k) ≡ b → b ≡ false
      by_number false is = refl
      by_number true same =
          absurd (two_owners i owner other (vm_creation xs vm) (and_parts (is_owned_by xs owner vm) true owns).0
          (made_by i (vm_creation xs vm)
          (joins ∙ (ap (disk_owner xs) (eqb-true d k same) ∙ owner_of i (disk_creation xs k) of))))

  not_attached : (vm d : ℕ) → (is_owned_by xs owner vm && true) ≡ true → is_holder xs vm d ≡ true →
      (k : ℕ) → IsDiskOf xs i k → (d == k) ≡ false
  not_attached vm d owns is k of = by_number (d == k) refl
    where
      by_number : (b : Bool) → (d == k) ≡ b → b ≡ false
      by_number false none = refl
      by_number true same =
          absurd (not_held vm k owns of
          (ap (holder_of xs) (sym (eqb-true d k same)) ∙ holder_is vm (holder_of xs d) is))

  next_vm : (v : ℕ) → IsOf xs i v → (vms_created xs + 1 == v) ≡ false
  next_vm v of =
      let low : v ≤ vms_created xs = created_of xs i v of in
      ne_eqb (vms_created xs + 1) v (λ same. absurd (omega arith))

  next_disk : (d : ℕ) → IsDiskOf xs i d → (disks_created xs + 1 == d) ≡ false
  next_disk d of =
      let low : d ≤ disks_created xs = disk_created_of xs i d of in
      ne_eqb (disks_created xs + 1) d (λ same. absurd (omega arith))

  -- ---- a machine

  vm_still : (v : ℕ) → IsOf xs i v → (call : Call) → list_all (is_owned_by xs owner) (vms_named_by call) ≡ true →
      vm_after_call (vms_created xs) v call (vm_state xs v) ≡ vm_state xs v
  vm_still v of (calls.CreateVm make hint) owns =
      ap (λ (b : Bool). if b then new_vm else vm_state xs v) (next_vm v of)
  vm_still v of (calls.DeleteVm vm) owns =
      ap (λ (b : Bool). if b then record (vm_state xs v) { there = false } else vm_state xs v) (vm_apart vm v owns of)
  vm_still v of (calls.Apply vm spec) owns =
      ap (λ (b : Bool). if b then record (vm_state xs v) { spec = Some spec } else vm_state xs v)
      (vm_apart vm v owns of)
  vm_still v of (calls.Start vm) owns =
      ap (λ (b : Bool). if b then record (vm_state xs v) { running = true; drained = false } else vm_state xs v)
      (vm_apart vm v owns of)
  vm_still v of (calls.Drain vm) owns =
      ap (λ (b : Bool). if b then record (vm_state xs v) { drained = true } else vm_state xs v) (vm_apart vm v owns of)
  vm_still v of (calls.Stop vm) owns =
      ap (λ (b : Bool). if b then record (vm_state xs v) { running = false } else vm_state xs v)
      (vm_apart vm v owns of)
  vm_still v of call owns = refl

  -- ---- what a machine of the instance holds

  abbrev Later : ℕ → Call → DiskState
  Later k call = disk_after_call (disks_created xs) (contents_of xs) k call (disk_state xs k)

  holds_still : (v : ℕ) → IsOf xs i v → (k : ℕ) (call : Call) →
      list_all (is_owned_by xs owner) (vms_named_by call) ≡ true → takes_effect built xs call ≡ true →
      is_held_by v (Later k call).holder ≡ is_holder xs v k
  holds_still v of k (calls.DeleteVm vm) owns takes = by_holder (holder_of xs k) (vm_apart vm v owns of)
    where
      by_holder : (o : Option ℕ) → (vm == v) ≡ false → is_held_by v (let_go_by vm o) ≡ is_held_by v o
      by_holder None apart = refl
      by_holder (Some w) apart = by_number (vm == w) refl
        where
          by_number : (b : Bool) → (vm == w) ≡ b → is_held_by v (if b then None else Some w) ≡ (w == v)
          by_number true same = sym (ap (λ k. k == v) (sym (eqb-true vm w same)) ∙ apart)
          by_number false is = refl
  holds_still v of k (calls.CreateDisk wanted vm) owns takes = by_number (disks_created xs + 1 == k) refl
    where
      by_number : (b : Bool) → (disks_created xs + 1 == k) ≡ b →
          is_held_by v (if b then new_disk else disk_state xs k).holder ≡ is_holder xs v k
      by_number true same =
          sym (ap (is_holder xs v) (sym (eqb-true (disks_created xs + 1) k same))
          ∙ ap (λ last. is_held_by v (held_where (is_vm_there xs) last))
          ((behind xs orderly).held (disks_created xs + 1) (omega arith)))
      by_number false is = refl
  holds_still v of k (calls.AttachDisk vm d) owns takes = by_number (d == k) refl
    where
      by_number : (b : Bool) → (d == k) ≡ b →
          is_held_by v (if b then record (disk_state xs k) { holder = Some vm; mounted = false }
          else disk_state xs k).holder ≡ is_holder xs v k
      by_number true same =
          vm_apart vm v owns of
          ∙ sym (ap (is_holder xs v) (sym (eqb-true d k same))
          ∙ movable_free vm v (holder_of xs d)
          (free_of xs vm d (not_gone (is_vm_there xs vm && is_movable xs vm d) answers.Done takes))
          (vm_apart vm v owns of))
      by_number false is = refl
  holds_still v of k (calls.DetachDisk vm d) owns takes = by_number (d == k) refl
    where
      by_number : (b : Bool) → (d == k) ≡ b →
          is_held_by v (if b then record (disk_state xs k) { holder = None } else disk_state xs k).holder
          ≡ is_holder xs v k
      by_number true same =
          sym (ap (is_holder xs v) (sym (eqb-true d k same))
          ∙ movable_free vm v (holder_of xs d)
          (free_of xs vm d (not_gone (is_vm_there xs vm && is_movable xs vm d) answers.Done takes))
          (vm_apart vm v owns of))
      by_number false is = refl
  holds_still v of k (calls.DeleteDisk d) owns takes =
      either (λ s. is_held_by v s.holder) (d == k) _ (disk_state xs k) refl
  holds_still v of k (calls.MountDisk vm d) owns takes =
      either (λ s. is_held_by v s.holder) (d == k) _ (disk_state xs k) refl
  holds_still v of k (calls.UnmountDisk vm d) owns takes =
      either (λ s. is_held_by v s.holder) (d == k) _ (disk_state xs k) refl
  holds_still v of k (calls.MigrateDisk vm from to) owns takes =
      either (λ s. is_held_by v s.holder) (k == to) _ (disk_state xs k) refl
  holds_still v of k call owns takes = refl

  -- ---- a disk

  here_still : (k : ℕ) → IsDiskOf xs i k → (call : Call) → Spares k call →
      (Later k call).there ≡ is_disk_there xs k
  here_still k of (calls.CreateDisk wanted vm) spares =
      other_one (λ s. s.there) (disks_created xs + 1 == k) new_disk (disk_state xs k) (next_disk k of)
  here_still k of (calls.DeleteDisk d) spares = other_one (λ s. s.there) (d == k) _ (disk_state xs k) spares
  here_still k of (calls.AttachDisk vm d) spares = either (λ s. s.there) (d == k) _ (disk_state xs k) refl
  here_still k of (calls.DetachDisk vm d) spares = either (λ s. s.there) (d == k) _ (disk_state xs k) refl
  here_still k of (calls.MountDisk vm d) spares = either (λ s. s.there) (d == k) _ (disk_state xs k) refl
  here_still k of (calls.UnmountDisk vm d) spares = either (λ s. s.there) (d == k) _ (disk_state xs k) refl
  here_still k of (calls.MigrateDisk vm from to) spares = either (λ s. s.there) (k == to) _ (disk_state xs k) refl
  here_still k of call spares = refl

  holder_still : (k : ℕ) → IsDiskOf xs i k → (call : Call) →
      list_all (is_owned_by xs owner) (vms_named_by call) ≡ true → takes_effect built xs call ≡ true →
      JoinsBy xs call → (Later k call).holder ≡ holder_of xs k
  holder_still k of (calls.DeleteVm vm) owns takes joins = by_holder (holder_of xs k) refl
    where
      by_holder : (o : Option ℕ) → holder_of xs k ≡ o → let_go_by vm o ≡ o
      by_holder None is = refl
      by_holder (Some w) is = by_number (vm == w) refl
        where
          by_number : (b : Bool) → (vm == w) ≡ b → (if b then None else Some w) ≡ Some w
          by_number true same =
              absurd (not_held vm k owns of (is ∙ ap Some (sym (eqb-true vm w same))))
          by_number false other = refl
  holder_still k of (calls.CreateDisk wanted vm) owns takes joins =
      other_one (λ s. s.holder) (disks_created xs + 1 == k) new_disk (disk_state xs k) (next_disk k of)
  holder_still k of (calls.AttachDisk vm d) owns takes joins =
      other_one (λ s. s.holder) (d == k) _ (disk_state xs k) (not_joined vm d owns joins k of)
  holder_still k of (calls.DetachDisk vm d) owns takes joins = by_number (d == k) refl
    where
      by_free : (o : Option ℕ) → holder_of xs k ≡ o → (not (is_some o) || is_held_by vm o) ≡ true → None ≡ o
      by_free None is free = refl
      by_free (Some w) is free = absurd (not_held vm k owns of (is ∙ ap Some (eqb-true w vm free)))

      by_number : (b : Bool) → (d == k) ≡ b →
          (if b then record (disk_state xs k) { holder = None } else disk_state xs k).holder ≡ holder_of xs k
      by_number true same =
          by_free (holder_of xs k) refl
          (ap (λ j. not (is_some (holder_of xs j)) || is_holder xs vm j) (sym (eqb-true d k same))
          ∙ free_of xs vm d (not_gone (is_vm_there xs vm && is_movable xs vm d) answers.Done takes))
      by_number false is = refl
  holder_still k of (calls.DeleteDisk d) owns takes joins = either (λ s. s.holder) (d == k) _ (disk_state xs k) refl
  holder_still k of (calls.MountDisk vm d) owns takes joins = either (λ s. s.holder) (d == k) _ (disk_state xs k) refl
  holder_still k of (calls.UnmountDisk vm d) owns takes joins =
      either (λ s. s.holder) (d == k) _ (disk_state xs k) refl
  holder_still k of (calls.MigrateDisk vm from to) owns takes joins =
      either (λ s. s.holder) (k == to) _ (disk_state xs k) refl
  holder_still k of call owns takes joins = refl

  mounted_still : (k : ℕ) → IsDiskOf xs i k → (call : Call) →
      list_all (is_owned_by xs owner) (vms_named_by call) ≡ true → takes_effect built xs call ≡ true →
      JoinsBy xs call → (Later k call).mounted ≡ is_disk_mounted xs k
  mounted_still k of (calls.CreateDisk wanted vm) owns takes joins =
      other_one (λ s. s.mounted) (disks_created xs + 1 == k) new_disk (disk_state xs k) (next_disk k of)
  mounted_still k of (calls.AttachDisk vm d) owns takes joins =
      other_one (λ s. s.mounted) (d == k) _ (disk_state xs k) (not_joined vm d owns joins k of)
  mounted_still k of (calls.MountDisk vm d) owns takes joins =
      other_one (λ s. s.mounted) (d == k) _ (disk_state xs k)
      (not_attached vm d owns
      (held_of xs vm d (not_gone (has_agent xs vm && is_attached xs vm d) answers.Done takes)) k of)
  mounted_still k of (calls.UnmountDisk vm d) owns takes joins =
      other_one (λ s. s.mounted) (d == k) _ (disk_state xs k)
      (not_attached vm d owns
      (held_of xs vm d (not_gone (has_agent xs vm && is_attached xs vm d) answers.Done takes)) k of)
  mounted_still k of (calls.DetachDisk vm d) owns takes joins =
      either (λ s. s.mounted) (d == k) _ (disk_state xs k) refl
  mounted_still k of (calls.DeleteDisk d) owns takes joins = either (λ s. s.mounted) (d == k) _ (disk_state xs k) refl
  mounted_still k of (calls.MigrateDisk vm from to) owns takes joins =
      either (λ s. s.mounted) (k == to) _ (disk_state xs k) refl
  mounted_still k of call owns takes joins = refl

  -- the effect of a call
  pub leaves_of : (e : effect.Effect) (mine : ℕ → Bool) → e.owner ≡ owner →
      list_all (is_owned_by xs owner) (vms_named_by e.call) ≡ true → takes_effect built xs e.call ≡ true →
      JoinsBy xs e.call → ((k : ℕ) → mine k ≡ true → Spares k e.call) → Leaves xs (Effect e) mine i
  leaves_of e mine is owns takes joins spares = record {
    state = λ v of. vm_still v of e.call owns;
    named = λ v of. named-lost xs e v;
    holds = λ v of k. holds_still v of k e.call owns takes;
    here = λ k of ours. here_still k of e.call (spares k ours);
    holder = λ k of. holder_still k of e.call owns takes joins;
    mounted = λ k of. mounted_still k of e.call owns takes joins;
    new_vm = λ makes.
        ap (is_made_for (Instance i)) (vm_creation_next xs e makes) ∙ (ap (λ o. same_owner o (Instance i)) is ∙ other);
  }
