-- Where one more entry leaves the machines and disks of an instance as they are, the facts of its row stay.
use Rattle.std.proofs.Common.{◌≡◌, ℕ, ◌+◌, ◌≤◌, Bool, true, false, Option, Some, None, List, [], ◌∷◌, ◌++◌, refl, sym, ◌∙◌, ap, arith}
use Rattle.std.specs.Prelude.{◌&&◌, nat_le, if◌then◌else◌, filter, find}
use Rattle.std.specs.List.{list_all}
use Rattle.std.proofs.lemmas.Bool.{and_parts, leb-true}
use Rattle.bosh_base.specs.CallStep.{found_disk, found_vm, has_number}
use Rattle.bosh_base.specs.Cloud.{contents_of, disk_creation, disks_created, holder_of, is_disk_creation, is_disk_mounted, is_disk_there, is_holder, is_vm_creation, is_vm_there, numbers_to, vm_creation, vms_created}
use Rattle.bosh_base.specs.declared.digest.Digest.{Digest}
use Rattle.bosh_base.specs.declared.entry.Effect as effect
use Rattle.bosh_base.specs.declared.entry.Entry.{Entry}
use Rattle.bosh_base.specs.declared.inst.Inst.{Inst}
use Rattle.bosh_base.specs.declared.key.KeyWork.{KeyWork}
use Rattle.bosh_base.specs.declared.owner.Owner.TheVariants.{Instance}
use Rattle.laws_effects.proofs.AheadLemmas.{behind}
use Rattle.laws_effects.proofs.CreationLemmas.{disk_creation_stays, disks-grown, one_if, vm_creation_stays, vms-grown}
use Rattle.laws_effects.proofs.DiskLemmas.{entry_changes_disk, held_where}
use Rattle.laws_effects.proofs.VmLemmas.{entry_changes_vm}
use Rattle.laws_effects.specs.DiskStates.{disk_after, disk_state}
use Rattle.laws_effects.specs.Following.{MayFollow}
use Rattle.laws_effects.specs.Orderly.{AreOrderly}
use Rattle.laws_effects.specs.VmStates.{vm_after, vm_state}
use Rattle.laws_rows.proofs.FilterLemmas.{filter_more, filter_within, numbers-more, numbers_within}
use Rattle.laws_rows.proofs.TieLemmas.{is_held_by, plus_none}
use Rattle.bosh_rows.specs.Tied.{is_made_for, is_named_lost}
use Rattle.laws_row_frames.proofs.FrameLemmas.{Frames, Hears, IsDiskOf, IsOf}
use Rattle.laws_row_frames.proofs.WithinLemmas.{are_within}

-- ---- what was made for an instance was created

pub created_of : (xs : List Entry) (i : Inst) (v : ℕ) → IsOf xs i v → v ≤ vms_created xs
created_of xs i v of = by_creation (vm_creation xs v) refl of
  where
    by_creation : (o : Option effect.Effect) → vm_creation xs v ≡ o → is_made_for (Instance i) o ≡ true →
        v ≤ vms_created xs
    by_creation (Some e) is of = (are_within xs).vms v e is
    by_creation None is of = absurd cc

pub disk_created_of : (xs : List Entry) (i : Inst) (d : ℕ) → IsDiskOf xs i d → d ≤ disks_created xs
disk_created_of xs i d of = by_creation (disk_creation xs d) refl of
  where
    by_creation : (o : Option effect.Effect) → disk_creation xs d ≡ o → is_made_for (Instance i) o ≡ true →
        d ≤ disks_created xs
    by_creation (Some e) is of = (are_within xs).disks d e is
    by_creation None is of = absurd cc

-- ---- lists of numbers of which the last does not pass

pub filter_grown : (p q : ℕ → Bool) (n : ℕ) (b : Bool) → ((k : ℕ) → k ≤ n → q k ≡ p k) →
    (b ≡ true → q (n + 1) ≡ false) → filter q (numbers_to (n + one_if b)) ≡ filter p (numbers_to n)
filter_grown p q n true same last =
    ap (filter q) (numbers-more n)
    ∙ (filter_more q (numbers_to n) (n + 1)
    ∙ ((λ i. filter q (numbers_to n) ++ (if last refl i then (n + 1) ∷ [] else []))
    ∙ (append_nil (filter q (numbers_to n))
    ∙ filter_within p q n (numbers_to n) (numbers_within n n (omega arith)) same)))
  where
    append_nil : (ks : List ℕ) → ks ++ [] ≡ ks
    append_nil [] = refl
    append_nil (k ∷ ks) = ap (λ js. k ∷ js) (append_nil ks)
filter_grown p q n false same last =
    ap (λ m. filter q (numbers_to m)) (plus_none n)
    ∙ filter_within p q n (numbers_to n) (numbers_within n n (omega arith)) same

find_within : (p q : ℕ → Bool) (n : ℕ) (ks : List ℕ) → list_all (λ k. nat_le k n) ks ≡ true →
    ((k : ℕ) → k ≤ n → q k ≡ p k) → find q ks ≡ find p ks
find_within p q n [] low same = refl
find_within p q n (k ∷ ks) low same =
    let parts : (nat_le k n ≡ true) × (list_all (λ k. nat_le k n) ks ≡ true) = and_parts (nat_le k n) _ low in
    λ i. if same k (leb-true k n parts.0) i then Some k else find_within p q n ks parts.1 same i

find_more : (q : ℕ → Bool) (ks : List ℕ) (k : ℕ) → q k ≡ false → find q (ks ++ k ∷ []) ≡ find q ks
find_more q [] k off = ap (λ (b : Bool). if b then Some k else None) off
find_more q (j ∷ ks) k off = ap (λ o. if q j then Some j else o) (find_more q ks k off)

pub find_grown : (p q : ℕ → Bool) (n : ℕ) (b : Bool) → ((k : ℕ) → k ≤ n → q k ≡ p k) →
    (b ≡ true → q (n + 1) ≡ false) → find q (numbers_to (n + one_if b)) ≡ find p (numbers_to n)
find_grown p q n true same last =
    ap (find q) (numbers-more n)
    ∙ (find_more q (numbers_to n) (n + 1) (last refl)
    ∙ find_within p q n (numbers_to n) (numbers_within n n (omega arith)) same)
find_grown p q n false same last =
    ap (λ m. find q (numbers_to m)) (plus_none n)
    ∙ find_within p q n (numbers_to n) (numbers_within n n (omega arith)) same

-- both are false where the second part is
pub dull : (a b c : Bool) → b ≡ false → c ≡ false → (a && b) ≡ c
dull true b c is also = is ∙ sym also
dull false b c is also = sym also

-- ---- one entry

-- it leaves what was made for the instance as it is, and makes nothing for it
pub record Leaves (xs : List Entry) (x : Entry) (mine : ℕ → Bool) (i : Inst) : Type 0 where
  pub state : (v : ℕ) → IsOf xs i v → vm_after (vms_created xs) v x (vm_state xs v) ≡ vm_state xs v
  pub named : (v : ℕ) → IsOf xs i v → is_named_lost (xs ++ x ∷ []) v ≡ is_named_lost xs v
  pub holds : (v : ℕ) → IsOf xs i v → (k : ℕ) →
      is_held_by v (disk_after (disks_created xs) (contents_of xs) k x (disk_state xs k)).holder ≡ is_holder xs v k
  pub here : (d : ℕ) → IsDiskOf xs i d → mine d ≡ true →
      (disk_after (disks_created xs) (contents_of xs) d x (disk_state xs d)).there ≡ is_disk_there xs d
  pub holder : (d : ℕ) → IsDiskOf xs i d →
      (disk_after (disks_created xs) (contents_of xs) d x (disk_state xs d)).holder ≡ holder_of xs d
  pub mounted : (d : ℕ) → IsDiskOf xs i d →
      (disk_after (disks_created xs) (contents_of xs) d x (disk_state xs d)).mounted ≡ is_disk_mounted xs d
  pub new_vm : is_vm_creation x ≡ true →
      is_made_for (Instance i) (vm_creation (xs ++ x ∷ []) (vms_created xs + 1)) ≡ false

-- .. nor what a call of the number made, and has another number
pub record LeavesFound (xs : List Entry) (x : Entry) (n : ℕ) : Type 0 where
  pub new_vm : is_vm_creation x ≡ true → has_number n (vm_creation (xs ++ x ∷ []) (vms_created xs + 1)) ≡ false
  pub new_disk :
      is_disk_creation x ≡ true → has_number n (disk_creation (xs ++ x ∷ []) (disks_created xs + 1)) ≡ false

module _ (built : KeyWork → List Digest → Digest) (xs : List Entry) (x : Entry) (mine : ℕ → Bool) (i : Inst)
    (orderly : AreOrderly xs) (follows : MayFollow built xs x) (leaves : Leaves xs x mine i) where
  ys : List Entry
  ys = xs ++ x ∷ []

  vm_now : (v : ℕ) → IsOf xs i v → vm_state (xs ++ x ∷ []) v ≡ vm_state xs v
  vm_now v of = entry_changes_vm xs x v orderly ∙ leaves.state v of

  holds_now : (v : ℕ) → IsOf xs i v → (k : ℕ) → is_holder (xs ++ x ∷ []) v k ≡ is_holder xs v k
  holds_now v of k =
      ap (λ s. is_held_by v s.holder) (entry_changes_disk built xs x k orderly follows) ∙ leaves.holds v of k

  next_free : (v : ℕ) → is_holder xs v (disks_created xs + 1) ≡ false
  next_free v =
      ap (λ last. is_held_by v (held_where (is_vm_there xs) last))
      ((behind xs orderly).held (disks_created xs + 1) (omega arith))

  mine_now : (v : ℕ) → v ≤ vms_created xs →
      (is_vm_there (xs ++ x ∷ []) v && is_made_for (Instance i) (vm_creation (xs ++ x ∷ []) v))
      ≡ (is_vm_there xs v && is_made_for (Instance i) (vm_creation xs v))
  mine_now v low = by_owner (is_made_for (Instance i) (vm_creation xs v)) refl
    where
      made : is_made_for (Instance i) (vm_creation (xs ++ x ∷ []) v) ≡ is_made_for (Instance i) (vm_creation xs v)
      made = ap (is_made_for (Instance i)) (vm_creation_stays xs x v low)

      by_owner : (b : Bool) → is_made_for (Instance i) (vm_creation xs v) ≡ b →
          (is_vm_there (xs ++ x ∷ []) v && is_made_for (Instance i) (vm_creation (xs ++ x ∷ []) v))
          ≡ (is_vm_there xs v && is_made_for (Instance i) (vm_creation xs v))
      by_owner true of = λ j. (vm_now v of j).there && made j
      by_owner false off =
          dull (is_vm_there (xs ++ x ∷ []) v) _ _ (made ∙ off)
          (dull (is_vm_there xs v) (is_made_for (Instance i) (vm_creation xs v)) false off refl)

  pub frames_of : Frames xs (xs ++ x ∷ []) mine i
  frames_of = record {
    vms =
        ap (λ n. filter (λ v. is_vm_there (xs ++ x ∷ []) v
        && is_made_for (Instance i) (vm_creation (xs ++ x ∷ []) v)) (numbers_to n)) (vms-grown xs x)
        ∙ filter_grown (λ v. is_vm_there xs v && is_made_for (Instance i) (vm_creation xs v))
        (λ v. is_vm_there (xs ++ x ∷ []) v && is_made_for (Instance i) (vm_creation (xs ++ x ∷ []) v))
        (vms_created xs) (is_vm_creation x) mine_now
        (λ makes. dull (is_vm_there (xs ++ x ∷ []) (vms_created xs + 1)) _ false (leaves.new_vm makes) refl);
    there = λ v of. ap (λ s. s.there) (vm_now v of);
    spec = λ v of. ap (λ s. s.spec) (vm_now v of);
    running = λ v of. ap (λ s. s.running) (vm_now v of);
    drained = λ v of. ap (λ s. s.drained) (vm_now v of);
    creation = λ v of. vm_creation_stays xs x v (created_of xs i v of);
    holds = holds_now;
    attached = λ v of.
        ap (λ n. filter (is_holder (xs ++ x ∷ []) v) (numbers_to n)) (disks-grown xs x)
        ∙ filter_grown (is_holder xs v) (is_holder (xs ++ x ∷ []) v) (disks_created xs) (is_disk_creation x)
        (λ k low. holds_now v of k) (λ makes. holds_now v of (disks_created xs + 1) ∙ next_free v);
    made = λ d of. disk_creation_stays xs x d (disk_created_of xs i d of);
    here = λ d of ours.
        ap (λ s. s.there) (entry_changes_disk built xs x d orderly follows) ∙ leaves.here d of ours;
    holder = λ d of. ap (λ s. s.holder) (entry_changes_disk built xs x d orderly follows) ∙ leaves.holder d of;
    mounted = λ d of. ap (λ s. s.mounted) (entry_changes_disk built xs x d orderly follows) ∙ leaves.mounted d of;
  }

  pub hears_of : Hears xs (xs ++ x ∷ []) i
  hears_of = record { silent = λ v of. ap (λ s. s.silent) (vm_now v of); named = leaves.named }

  -- what has the number of a call in doubt was made for the instance
  module _ (n : ℕ) (found : LeavesFound xs x n)
      (vm_own : (v : ℕ) → has_number n (vm_creation xs v) ≡ true → IsOf xs i v)
      (disk_own : (d : ℕ) → has_number n (disk_creation xs d) ≡ true → IsDiskOf xs i d)
      (ours : (d : ℕ) → has_number n (disk_creation xs d) ≡ true → mine d ≡ true) where
    vm_found_now : (v : ℕ) → v ≤ vms_created xs →
        (is_vm_there (xs ++ x ∷ []) v && has_number n (vm_creation (xs ++ x ∷ []) v))
        ≡ (is_vm_there xs v && has_number n (vm_creation xs v))
    vm_found_now v low = by_number (has_number n (vm_creation xs v)) refl
      where
        made : has_number n (vm_creation (xs ++ x ∷ []) v) ≡ has_number n (vm_creation xs v)
        made = ap (has_number n) (vm_creation_stays xs x v low)

        by_number : (b : Bool) → has_number n (vm_creation xs v) ≡ b →
            (is_vm_there (xs ++ x ∷ []) v && has_number n (vm_creation (xs ++ x ∷ []) v))
            ≡ (is_vm_there xs v && has_number n (vm_creation xs v))
        by_number true has = λ j. (vm_now v (vm_own v has) j).there && made j
        by_number false off =
            dull (is_vm_there (xs ++ x ∷ []) v) _ _ (made ∙ off)
            (dull (is_vm_there xs v) (has_number n (vm_creation xs v)) false off refl)

    disk_found_now : (d : ℕ) → d ≤ disks_created xs →
        (is_disk_there (xs ++ x ∷ []) d && has_number n (disk_creation (xs ++ x ∷ []) d))
        ≡ (is_disk_there xs d && has_number n (disk_creation xs d))
    disk_found_now d low = by_number (has_number n (disk_creation xs d)) refl
      where
        made : has_number n (disk_creation (xs ++ x ∷ []) d) ≡ has_number n (disk_creation xs d)
        made = ap (has_number n) (disk_creation_stays xs x d low)

        by_number : (b : Bool) → has_number n (disk_creation xs d) ≡ b →
            (is_disk_there (xs ++ x ∷ []) d && has_number n (disk_creation (xs ++ x ∷ []) d))
            ≡ (is_disk_there xs d && has_number n (disk_creation xs d))
        by_number true has = λ j. frames_of.here d (disk_own d has) (ours d has) j && made j
        by_number false off =
            dull (is_disk_there (xs ++ x ∷ []) d) _ _ (made ∙ off)
            (dull (is_disk_there xs d) (has_number n (disk_creation xs d)) false off refl)

    pub vm_found : found_vm (xs ++ x ∷ []) n ≡ found_vm xs n
    vm_found =
        ap (λ m. find (λ v. is_vm_there (xs ++ x ∷ []) v && has_number n (vm_creation (xs ++ x ∷ []) v))
        (numbers_to m)) (vms-grown xs x)
        ∙ find_grown (λ v. is_vm_there xs v && has_number n (vm_creation xs v))
        (λ v. is_vm_there (xs ++ x ∷ []) v && has_number n (vm_creation (xs ++ x ∷ []) v)) (vms_created xs)
        (is_vm_creation x) vm_found_now
        (λ makes. dull (is_vm_there (xs ++ x ∷ []) (vms_created xs + 1)) _ false (found.new_vm makes) refl)

    pub disk_found : found_disk (xs ++ x ∷ []) n ≡ found_disk xs n
    disk_found =
        ap (λ m. find (λ d. is_disk_there (xs ++ x ∷ []) d && has_number n (disk_creation (xs ++ x ∷ []) d))
        (numbers_to m)) (disks-grown xs x)
        ∙ find_grown (λ d. is_disk_there xs d && has_number n (disk_creation xs d))
        (λ d. is_disk_there (xs ++ x ∷ []) d && has_number n (disk_creation (xs ++ x ∷ []) d)) (disks_created xs)
        (is_disk_creation x) disk_found_now
        (λ makes. dull (is_disk_there (xs ++ x ∷ []) (disks_created xs + 1)) _ false (found.new_disk makes) refl)
