-- What a loss of a machine changes: whether it is there, or answers, and what it holds.
use Rattle.std.proofs.Common.{◌≡◌, ℕ, Bool, true, false, Option, Some, None, List, [], ◌∷◌, ◌++◌, refl, sym, ◌∙◌, ap}
use Rattle.std.specs.Prelude.{◌&&◌, ◌||◌, ◌==◌, if◌then◌else◌, find}
use Rattle.std.proofs.lemmas.Bool.{eqb-true}
use Rattle.bosh_base.specs.CallStep.{found_disk, has_number}
use Rattle.bosh_base.specs.Cloud.{disk_creation, disks_created, holder_of, is_disk_there, numbers_to, vm_creation, vms_created}
use Rattle.bosh_base.specs.declared.entry.Entry.{Entry}
use Rattle.bosh_base.specs.declared.entry.Entry.TheVariants.{Lost}
use Rattle.bosh_base.specs.declared.entry.Loss.{Loss}
use Rattle.bosh_base.specs.declared.inst.Inst.{Inst}
use Rattle.bosh_base.specs.declared.owner.Owner.TheVariants.{Instance}
use Rattle.laws_effects.proofs.CreationLemmas.{disk_creation-grown, disks-grown, is_disk_there-grown, vm_creation-grown, vms-grown}
use Rattle.laws_effects.specs.DiskStates.{DiskState, disk_state, let_go_by}
use Rattle.laws_effects.specs.Holders.{AreHeldByTheirOwn}
use Rattle.laws_effects.specs.VmStates.{vm_after_loss, vm_state}
use Rattle.laws_rows.proofs.TieLemmas.{is_held_by, plus_none}
use Rattle.bosh_rows.specs.Tied.{is_made_for, is_named_lost}
use Rattle.laws_row_frames.proofs.EntryFrames.{Leaves, LeavesFound}
use Rattle.laws_row_frames.proofs.FrameLemmas.{IsDiskOf, IsOf}
use Rattle.laws_row_frames.proofs.OthersLemmas.{made_by, owner_of}

abbrev pub after_loss : List Entry → Loss → List Entry
after_loss xs loss = xs ++ Lost loss ∷ []

-- ---- what stays

pub lost_named : (xs : List Entry) (loss : Loss) (v : ℕ) →
    is_named_lost (after_loss xs loss) v ≡ (is_named_lost xs v || loss.vm == v)
lost_named [] loss v = or_false (loss.vm == v)
  where
    or_false : (b : Bool) → (b || false) ≡ b
    or_false true = refl
    or_false false = refl
lost_named (Lost other ∷ xs) loss v =
    ap (λ b. other.vm == v || b) (lost_named xs loss v) ∙ or_assoc (other.vm == v) (is_named_lost xs v) (loss.vm == v)
  where
    or_assoc : (a b c : Bool) → (a || (b || c)) ≡ ((a || b) || c)
    or_assoc true b c = refl
    or_assoc false b c = refl
lost_named (x ∷ xs) loss v = lost_named xs loss v

pub vm_count : (xs : List Entry) (loss : Loss) → vms_created (after_loss xs loss) ≡ vms_created xs
vm_count xs loss = vms-grown xs (Lost loss) ∙ plus_none (vms_created xs)

pub disk_count : (xs : List Entry) (loss : Loss) → disks_created (after_loss xs loss) ≡ disks_created xs
disk_count xs loss = disks-grown xs (Lost loss) ∙ plus_none (disks_created xs)

pub vm_made : (xs : List Entry) (loss : Loss) (v : ℕ) → vm_creation (after_loss xs loss) v ≡ vm_creation xs v
vm_made xs loss v = vm_creation-grown xs (Lost loss) v

pub disk_made : (xs : List Entry) (loss : Loss) (d : ℕ) → disk_creation (after_loss xs loss) d ≡ disk_creation xs d
disk_made xs loss d = disk_creation-grown xs (Lost loss) d

pub disk_there : (xs : List Entry) (loss : Loss) (d : ℕ) → is_disk_there (after_loss xs loss) d ≡ is_disk_there xs d
disk_there xs loss d = is_disk_there-grown xs (Lost loss) d

pub disk_found_still : (xs : List Entry) (loss : Loss) (n : ℕ) → found_disk (after_loss xs loss) n ≡ found_disk xs n
disk_found_still xs loss n =
    λ i. find (λ d. disk_there xs loss d i && has_number n (disk_made xs loss d i)) (numbers_to (disk_count xs loss i))

-- ---- a machine of another owner

let_go_held : (vm v : ℕ) (o : Option ℕ) → (vm == v) ≡ false → is_held_by v (let_go_by vm o) ≡ is_held_by v o
let_go_held vm v None apart = refl
let_go_held vm v (Some w) apart = by_number (vm == w) refl
  where
    by_number : (b : Bool) → (vm == w) ≡ b → is_held_by v (if b then None else Some w) ≡ (w == v)
    by_number true same = sym (ap (λ k. k == v) (sym (eqb-true vm w same)) ∙ apart)
    by_number false is = refl

module _ (xs : List Entry) (loss : Loss) (i : Inst) (held : AreHeldByTheirOwn xs)
    (other : is_made_for (Instance i) (vm_creation xs loss.vm) ≡ false) where
  not_lost : (v : ℕ) → IsOf xs i v → (loss.vm == v) ≡ false
  not_lost v of = by_number (loss.vm == v) refl
    where
      by_number : (b : Bool) → (loss.vm == v) ≡ b → b ≡ false
      by_number false is = refl
      by_number true same =
          sym (sym other ∙ (ap (λ k. is_made_for (Instance i) (vm_creation xs k)) (eqb-true loss.vm v same) ∙ of))

  not_let_go : (k : ℕ) → IsDiskOf xs i k → (o : Option ℕ) → holder_of xs k ≡ o → let_go_by loss.vm o ≡ o
  not_let_go k of None is = refl
  not_let_go k of (Some w) is =
      ap (λ (b : Bool). if b then None else Some w)
      (not_lost w (made_by i (vm_creation xs w) (held k w is ∙ owner_of i (disk_creation xs k) of)))

  either : {A : Type 0} (f : DiskState → A) (b : Bool) (new old : DiskState) → f new ≡ f old →
      f (if b then new else old) ≡ f old
  either f true new old is = is
  either f false new old is = refl

  pub leaves_loss : Leaves xs (Lost loss) (λ k. true) i
  leaves_loss = record {
    state = λ v of.
        ap (λ (b : Bool). if b then vm_after_loss loss.whole (vm_state xs v) else vm_state xs v) (not_lost v of);
    named = λ v of.
        lost_named xs loss v
        ∙ (ap (λ b. is_named_lost xs v || b) (not_lost v of) ∙ or_false (is_named_lost xs v));
    holds = λ v of k.
        either (λ s. is_held_by v s.holder) loss.whole _ (disk_state xs k)
        (let_go_held loss.vm v (holder_of xs k) (not_lost v of));
    here = λ k of ours. either (λ s. s.there) loss.whole _ (disk_state xs k) refl;
    holder = λ k of.
        either (λ s. s.holder) loss.whole _ (disk_state xs k) (not_let_go k of (holder_of xs k) refl);
    mounted = λ k of. either (λ s. s.mounted) loss.whole _ (disk_state xs k) refl;
    new_vm = λ makes. absurd cc;
  }
    where
      or_false : (b : Bool) → (b || false) ≡ b
      or_false true = refl
      or_false false = refl

pub leaves_found : (xs : List Entry) (loss : Loss) (n : ℕ) → LeavesFound xs (Lost loss) n
leaves_found xs loss n = record { new_vm = λ makes. absurd cc; new_disk = λ makes. absurd cc }
